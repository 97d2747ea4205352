use Rattle.std.proofs.Common.{◌≡◌, ap, refl, sym, ◌∙◌, ℕ, List, [], ◌∷◌, map, if◌then◌else◌}
use Rattle.algebra.specs.Bags.{Env, lay}
use Rattle.algebra.specs.Columns.{has, rising}
use Rattle.joins.proofs.Outputs.{restated}
use Rattle.operators.proofs.existence.one_row_if.Goals as goal

pub returns : goal.returns
returns c = λ e.
    let none : c.from_vec.result ≡ [] = c.from_vec.ensures ∙ ap rising c.new.ensures.items in
    restated c.made.result _ _ _ _ e none
    (ap (λ (K : List ℕ). lay (has K) e e ∷ []) none ∙ sym (ap (λ b. if b then e ∷ [] else []) c.if-not-found.false))
    (c.made.ensures (e ∷ []) e refl (c.new-2.ensures.items ∙ sym (ap (map (λ k. map (λ (f : Env). f k ∷ []) (e ∷ []))) none)))
