use Rattle.std.proofs.Common.{◌≡◌, rules, refl, ap, sym, ◌∙◌, ℕ, List, length, Some, arith}
use Rattle.std.specs.List.{range_with_len, slice_get}
use Rattle.std.proofs.lemmas.Option.{slice_get_read}
use Rattle.query.specs.declared.query.TableReference.{TableReference}
use Rattle.query.specs.declared.query.TableInstance.{TableInstance}
use Rattle.query.specs.Bound.{numbers_of_instance, instance_numbers}
use Rattle.algebra.proofs.Sets.{run_more}
use Rattle.frame.proofs.scope.instance_numbers.Goals as goal

to_end : (instances : List TableInstance) (o : TableReference) (t : TableInstance) (n : ℕ) (xs : List ℕ) → slice_get instances o.number ≡ Some t → n ≡ length t.entry.columns → xs ≡ range_with_len t.first_column n → xs ≡ instance_numbers instances o
to_end instances o t n xs there end is = is ∙ ap (range_with_len t.first_column) end ∙ sym (ap numbers_of_instance there)

pub loop-place-preserved : goal.loop-place-preserved
loop-place-preserved c = run_more c.in-Some.table.now.first_column c.loop-place.place _ c.loop-place.numbers.items c.push.new.self.items c.in_ok-push.ensures.items c.loop-place.invariant (search rules)

pub returns : goal.returns
returns c =
    let t = c.in-Some.table.now in
    to_end c.args.instances.now c.args.reference t c.loop-place.place c.loop-place.numbers.items
    (slice_get_read c.args.instances.now (length c.args.instances.now) c.args.reference.number t refl c.in-Some.ensures.lookup.3.0 (c.in-Some.ensures.lookup.3.1 t)) (omega arith) c.loop-place.invariant
