use Rattle.std.proofs.Common.{ap, sym, ◌∙◌, refl, List, map}
use Rattle.relations.specs.declared.headings.Place.{Place}
use Rattle.joins.specs.declared.keys.Equality.{Equality}
use Rattle.joins.proofs.Refilled.{refilled}
use Rattle.joins.proofs.hashed.KeyedRows.beside_others.Goals as goal

pub returns-then-have_right_values_of : goal.returns-then-have_right_values_of
returns-then-have_right_values_of c =
    let rights : List Equality → List Place = λ keys. map (λ k. k.right) keys in
    let same = sym (ap rights c.as_slice.ensures.value) ∙ c.if-have_right_values_of.ensures refl ∙ ap rights c.as_slice-2.ensures.value in
    (c.in_ok-keys.ensures, refilled c.in_ok-keys.keys.items c.args.self.keys.items c.args.right.now c.args.self.buckets same c.requires)
