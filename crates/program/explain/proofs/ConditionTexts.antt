-- The text of each form of condition, as it is added to a text part by part.
use Rattle.std.proofs.Common.{◌≡◌, refl, ap, sym, ◌∙◌, append_assoc, ℕ, List, [], ◌∷◌, ◌++◌, map, codes, decimal, flat_map}
use Rattle.values.specs.declared.truth.Comparison.{Comparison}
use Rattle.algebra.specs.declared.condition.Condition.{Condition, fold-roll-Condition}
use Rattle.algebra.specs.declared.condition.Condition.TheVariants.{Compare, IsNull, Not, And, Or, Exists, In, rolls-Compare, rolls-IsNull, rolls-Not, rolls-And, rolls-Or, rolls-Exists, rolls-In}
use Rattle.algebra.specs.declared.condition.Condition.TheOpen.{Condition-F}
use Rattle.algebra.specs.declared.condition.Term.{Term}
use Rattle.algebra.specs.ConjunctOrder.{comparison_text}
use Rattle.explain.specs.Names.{Text, ◌␣◌, Naming}
use Rattle.explain.specs.ConditionTexts.{condition_text, condition_layer, term_text, joined}

-- ---- each form

pub form-Compare : (names : Naming) (c : Comparison) (a b : Term) → condition_text names (Compare c a b) ≡ term_text names a ␣ comparison_text c ␣ term_text names b
unfolding condition_text
form-Compare names c a b = ap (condition_text names) (sym (rolls-Compare c a b)) ∙ fold-roll-Condition Text (condition_layer names) (Condition-F.Compare c a b)

pub form-IsNull : (names : Naming) (a : Term) → condition_text names (IsNull a) ≡ term_text names a ++ codes " IS NULL"
unfolding condition_text
form-IsNull names a = ap (condition_text names) (sym (rolls-IsNull a)) ∙ fold-roll-Condition Text (condition_layer names) (Condition-F.IsNull a)

pub form-Not : (names : Naming) (c : Condition) → condition_text names (Not c) ≡ codes "NOT (" ++ (condition_text names c ++ codes ")")
unfolding condition_text
form-Not names c = ap (condition_text names) (sym (rolls-Not c)) ∙ fold-roll-Condition Text (condition_layer names) (Condition-F.Not c)

pub form-And : (names : Naming) (a b : Condition) (cs : List Condition) → condition_text names (And a b cs) ≡ joined (codes " AND ") (condition_text names a ∷ condition_text names b ∷ map (condition_text names) cs)
unfolding condition_text
form-And names a b cs = ap (condition_text names) (sym (rolls-And a b cs)) ∙ fold-roll-Condition Text (condition_layer names) (Condition-F.And a b cs)

pub form-Or : (names : Naming) (a b : Condition) (cs : List Condition) → condition_text names (Or a b cs) ≡ joined (codes " OR ") (condition_text names a ∷ condition_text names b ∷ map (condition_text names) cs)
unfolding condition_text
form-Or names a b cs = ap (condition_text names) (sym (rolls-Or a b cs)) ∙ fold-roll-Condition Text (condition_layer names) (Condition-F.Or a b cs)

pub form-Exists : (names : Naming) (g : ℕ) → condition_text names (Exists g) ≡ codes "EXISTS #" ++ decimal g
unfolding condition_text
form-Exists names g = ap (condition_text names) (sym (rolls-Exists g)) ∙ fold-roll-Condition Text (condition_layer names) (Condition-F.Exists g)

pub form-In : (names : Naming) (a : Term) (g k : ℕ) → condition_text names (In a g k) ≡ term_text names a ++ (codes " IN #" ++ decimal g)
unfolding condition_text
form-In names a g k = ap (condition_text names) (sym (rolls-In a g k)) ∙ fold-roll-Condition Text (condition_layer names) (Condition-F.In a g k)

-- ---- forms that are added part by part

more-joined : (text : Condition → Text) (word : Text) (cs : List Condition) → flat_map (λ c. word ++ text c) cs ≡ flat_map (λ t. word ++ t) (map text cs)
more-joined text word [] = refl
more-joined text word (c ∷ cs) = ap (λ t. (word ++ text c) ++ t) (more-joined text word cs)

pub added-IsNull : (names : Naming) (a : Term) (old x y : Text) → x ≡ old ++ term_text names a → y ≡ x ++ codes " IS NULL" → y ≡ old ++ condition_text names (IsNull a)
added-IsNull names a old x y xs ys = rw (ys, xs, form-IsNull names a) (simp append_assoc)

pub added-Not : (names : Naming) (c : Condition) (old x y : Text) → x ≡ old ++ (codes "NOT (" ++ condition_text names c) → y ≡ x ++ codes ")" → y ≡ old ++ condition_text names (Not c)
added-Not names c old x y xs ys = rw (ys, xs, form-Not names c) (simp append_assoc)

pub added-And : (names : Naming) (a b : Condition) (cs : List Condition) (old x y z w : Text) → x ≡ old ++ (codes "(" ++ condition_text names a) → y ≡ x ++ (codes " AND " ++ condition_text names b)
    → z ≡ y ++ flat_map (λ c. codes " AND " ++ condition_text names c) cs → w ≡ z ++ codes ")" → w ≡ old ++ condition_text names (And a b cs)
added-And names a b cs old x y z w xs ys zs ws = rw (ws, zs, ys, xs, more-joined (condition_text names) (codes " AND ") cs, form-And names a b cs) (simp append_assoc)

pub added-Or : (names : Naming) (a b : Condition) (cs : List Condition) (old x y z w : Text) → x ≡ old ++ (codes "(" ++ condition_text names a) → y ≡ x ++ (codes " OR " ++ condition_text names b)
    → z ≡ y ++ flat_map (λ c. codes " OR " ++ condition_text names c) cs → w ≡ z ++ codes ")" → w ≡ old ++ condition_text names (Or a b cs)
added-Or names a b cs old x y z w xs ys zs ws = rw (ws, zs, ys, xs, more-joined (condition_text names) (codes " OR ") cs, form-Or names a b cs) (simp append_assoc)

pub added-In : (names : Naming) (a : Term) (g k : ℕ) (old x y : Text) → x ≡ old ++ term_text names a → y ≡ x ++ (codes " IN #" ++ decimal g) → y ≡ old ++ condition_text names (In a g k)
added-In names a g k old x y xs ys = rw (ys, xs, form-In names a g k) (simp append_assoc)
