-- The columns of a table instance at places.
use Rattle.std.proofs.Common.{◌≡◌, refl, ap, sym, ◌∙◌, ℕ, ◌+◌, ◌-◌, ◌≤◌, ◌==◌, ◌&&◌, ◌||◌, nat_le, List, [], ◌∷◌, map, arith}
use Rattle.std.specs.Cmp.{both_ways}
use Rattle.std.specs.List.{list_any, list_all}
use Rattle.std.proofs.lemmas.Bool.{and_parts, and_from, eq-eqb, eqb-true, leb-true, le-leb}
use Rattle.algebra.specs.Columns.{has, is_subset}

pub at_place : (f p c : ℕ) → (nat_le f c && (c - f == p)) ≡ (c == f + p)
at_place f p c = both_ways _ _
    (λ is. let parts = and_parts (nat_le f c) (c - f == p) is in
    let above : f ≤ c = leb-true f c parts.0 in let place : c - f ≡ p = eqb-true (c - f) p parts.1 in eq-eqb c (f + p) (omega (arith, above, place)))
    (λ is. let at : c ≡ f + p = eqb-true c (f + p) is in and_from _ _ (le-leb f c (omega (arith, at))) (eq-eqb (c - f) p (omega (arith, at))))

pub place_at : (f p c : ℕ) → (nat_le f c && (c - f == p)) ≡ (f + p == c)
place_at f p c = at_place f p c ∙ both_ways _ _ (λ is. eq-eqb (f + p) c (sym (eqb-true c (f + p) is))) (λ is. eq-eqb c (f + p) (sym (eqb-true (f + p) c is)))

pub has_places : (f : ℕ) (ps : List ℕ) (c : ℕ) → has (map (λ p. f + p) ps) c ≡ list_any (λ p. f + p == c) ps
has_places f [] c = refl
has_places f (p ∷ ps) c = ap (λ b. (f + p == c) || b) (has_places f ps c)

pub all_places : (f : ℕ) (ps set : List ℕ) → is_subset (map (λ p. f + p) ps) set ≡ list_all (λ p. has set (f + p)) ps
all_places f [] set = refl
all_places f (p ∷ ps) set = ap (λ b. has set (f + p) && b) (all_places f ps set)
