use Rattle.std.proofs.Common.{◌≡◌, ap, sym, subst, ◌∙◌, ◌+◌, ℕ, List, [], ◌∷◌, Vec, Global, length, length-append, arith}
use Rattle.std.specs.List.{AllByRecursion, AllZip}
use Rattle.values.specs.declared.value.Value.{Value}
use Rattle.values.proofs.Lists.{all_append}
use Rattle.query.specs.declared.aggregates.Running.{Running}
use Rattle.algebra.specs.declared.expr.Aggregation.{Aggregation}
use Rattle.query.specs.Aggregates.{column_of}
use Rattle.grouping.specs.Groups.{AreAfter}
use Rattle.grouping.specs.KeyTables.{HasKeys}
use Rattle.grouping.proofs.group_table.GroupTable.new.Goals as goal

none-after : (value : Aggregation → ℕ → Value) (A : List Aggregation) (running : List (Vec Running Global)) → length running ≡ length A → AllByRecursion (λ r. r.items ≡ []) running → AllZip (λ a r. AreAfter a.aggregate (value a) [] r.items) A running
none-after value [] [] many each = tt
none-after value [] (r ∷ running) many each = absurd (omega (arith, many))
none-after value (a ∷ A) [] many each = absurd (omega (arith, many))
none-after value (a ∷ A) (r ∷ running) many each = (subst (AreAfter a.aggregate (value a) []) (sym each.0) tt, none-after value A running (omega (arith, many)) each.1)

pub returns-clause-groups : goal.returns-clause-groups
returns-clause-groups c = λ row. record {
  keys_are = subst (λ width. HasKeys width [] c.in_ok-new.field-0) (ap length c.as_slice.ensures.columns) c.in_ok-new.ensures;
  held = none-after (λ a n. row n (column_of a.aggregate)) c.args.added.now c.loop.running.items (omega (arith, c.loop.invariant.many)) c.loop.invariant.each;
}

pub loop-preserved : goal.loop-preserved
loop-preserved c = record {
  each = subst (AllByRecursion (λ (r : Vec Running Global). r.items ≡ [])) (sym c.in_ok-push.ensures.items) (all_append (λ (r : Vec Running Global). r.items ≡ []) c.loop.running.items (c.new.result ∷ []) c.loop.invariant.each (c.new.ensures.items, tt));
  many = ap length c.in_ok-push.ensures.items ∙ length-append c.loop.running.items (c.new.result ∷ []) ∙ ap (λ n. n + 1) c.loop.invariant.many;
}
