-- The text of each form of condition, as it is added to a text part by part, up to its last parenthesis.
use Rattle.std.proofs.Common.{◌≡◌, refl, ap, sym, ◌∙◌, append_assoc, ℕ, List, [], ◌∷◌, ◌++◌, map, codes, decimal}
use Rattle.std.specs.List.{flat_map}
use Rattle.values.specs.declared.truth.Comparison.{Comparison}
use Rattle.algebra.specs.declared.condition.Condition.{Condition, fold-roll-Condition}
use Rattle.algebra.specs.declared.condition.Condition.TheVariants.{Compare, IsNull, Not, And, Or, Exists, In, rolls-Compare, rolls-IsNull, rolls-Not, rolls-And, rolls-Or, rolls-Exists, rolls-In}
use Rattle.algebra.specs.declared.condition.Condition.TheOpen.{Condition-F}
use Rattle.algebra.specs.declared.condition.Term.{Term}
use Rattle.algebra.specs.ConjunctOrder.{condition_text, text_layer, comparison_text, term_text}

pub open-Compare : (c : Comparison) (a b : Term) (old x y z n : List ℕ) → n ≡ comparison_text c → x ≡ old ++ n → y ≡ x ++ (codes "(" ++ term_text a) → z ≡ y ++ (codes "," ++ term_text b) → (z ++ codes ")") ≡ old ++ condition_text (Compare c a b)
unfolding condition_text
open-Compare c a b old x y z n ns xs ys zs =
    rw (zs, ys, xs, ns, ap condition_text (sym (rolls-Compare c a b)) ∙ fold-roll-Condition (List ℕ) text_layer (Condition-F.Compare c a b)) (simp append_assoc)

pub open-IsNull : (a : Term) (old x : List ℕ) → x ≡ old ++ (codes "null(" ++ term_text a) → (x ++ codes ")") ≡ old ++ condition_text (IsNull a)
unfolding condition_text
open-IsNull a old x xs = rw (xs, ap condition_text (sym (rolls-IsNull a)) ∙ fold-roll-Condition (List ℕ) text_layer (Condition-F.IsNull a)) (simp append_assoc)

pub open-Not : (c : Condition) (old x : List ℕ) → x ≡ old ++ (codes "not(" ++ condition_text c) → (x ++ codes ")") ≡ old ++ condition_text (Not c)
unfolding condition_text
open-Not c old x xs = rw (xs, ap condition_text (sym (rolls-Not c)) ∙ fold-roll-Condition (List ℕ) text_layer (Condition-F.Not c)) (simp append_assoc)

more-listed : (cs : List Condition) → flat_map (λ c. codes "," ++ condition_text c) cs ≡ flat_map (λ t. codes "," ++ t) (map condition_text cs)
more-listed [] = refl
more-listed (c ∷ cs) = ap (λ t. (codes "," ++ condition_text c) ++ t) (more-listed cs)

pub open-And : (a b : Condition) (cs : List Condition) (old x y z : List ℕ) → x ≡ old ++ (codes "and(" ++ condition_text a) → y ≡ x ++ (codes "," ++ condition_text b) → z ≡ y ++ flat_map (λ c. codes "," ++ condition_text c) cs
    → (z ++ codes ")") ≡ old ++ condition_text (And a b cs)
unfolding condition_text
open-And a b cs old x y z xs ys zs =
    rw (zs, ys, xs, more-listed cs, ap condition_text (sym (rolls-And a b cs)) ∙ fold-roll-Condition (List ℕ) text_layer (Condition-F.And a b cs)) (simp append_assoc)

pub open-Or : (a b : Condition) (cs : List Condition) (old x y z : List ℕ) → x ≡ old ++ (codes "or(" ++ condition_text a) → y ≡ x ++ (codes "," ++ condition_text b) → z ≡ y ++ flat_map (λ c. codes "," ++ condition_text c) cs
    → (z ++ codes ")") ≡ old ++ condition_text (Or a b cs)
unfolding condition_text
open-Or a b cs old x y z xs ys zs =
    rw (zs, ys, xs, more-listed cs, ap condition_text (sym (rolls-Or a b cs)) ∙ fold-roll-Condition (List ℕ) text_layer (Condition-F.Or a b cs)) (simp append_assoc)

pub open-Exists : (g : ℕ) (old x : List ℕ) → x ≡ old ++ (codes "exists(" ++ decimal g) → (x ++ codes ")") ≡ old ++ condition_text (Exists g)
unfolding condition_text
open-Exists g old x xs = rw (xs, ap condition_text (sym (rolls-Exists g)) ∙ fold-roll-Condition (List ℕ) text_layer (Condition-F.Exists g)) (simp append_assoc)

pub open-In : (a : Term) (g k : ℕ) (old x y z : List ℕ) → x ≡ old ++ (codes "in(" ++ term_text a) → y ≡ x ++ (codes "," ++ decimal g) → z ≡ y ++ (codes ",c" ++ decimal k) → (z ++ codes ")") ≡ old ++ condition_text (In a g k)
unfolding condition_text
open-In a g k old x y z xs ys zs =
    rw (zs, ys, xs, ap condition_text (sym (rolls-In a g k)) ∙ fold-roll-Condition (List ℕ) text_layer (Condition-F.In a g k)) (simp append_assoc)
