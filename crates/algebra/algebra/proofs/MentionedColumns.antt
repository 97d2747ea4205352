-- The columns that conditions mention: one equation for each form, and lists that gather them.
use Rattle.std.proofs.Common.{◌≡◌, refl, ap, sym, ◌∙◌, ℕ, ◌==◌, Bool, true, false, not, ◌&&◌, ◌||◌, List, [], ◌∷◌, ◌++◌, Result, Ok, Err, OnOk, map, inl, inr}
use Rattle.std.specs.List.{list_any, list_all}
use Rattle.std.specs.Cmp.{both_ways}
use Rattle.std.proofs.lemmas.Bool.{and_parts, and_from, or_cases, or_left, or_right, eq-eqb, eqb-true}
use Rattle.std.proofs.Math.Bool.{or_assoc}
use Rattle.values.specs.declared.truth.Comparison.{Comparison}
use Rattle.algebra.specs.declared.condition.Term.{Term}
use Rattle.algebra.specs.declared.condition.Condition.{Condition, roll-Condition, fold-roll-Condition, map-Condition}
use Rattle.algebra.specs.declared.condition.Condition.TheVariants.{Compare, IsNull, Not, And, Or, Exists, In, rolls-Compare, rolls-IsNull, rolls-Not, rolls-And, rolls-Or, rolls-Exists, rolls-In}
use Rattle.algebra.specs.declared.condition.Condition.TheOpen.{Condition-F}
use Rattle.algebra.specs.Columns.{ColumnSet, has, are_disjoint, rising}
use Rattle.algebra.specs.Conditions.{Mentions, mentions_layer, mentions, term_columns}
use Rattle.algebra.specs.Expressions.{mentioned}
use Rattle.algebra.specs.GivenColumns.{HasAlso}
use Rattle.algebra.proofs.Puts.{among-append}
use Rattle.algebra.proofs.Sets.{has-rising}

-- ---- what each form mentions

mentions-at : (x : Condition-F Condition) (c : Condition) → roll-Condition x ≡ c → (cols : ℕ → List ℕ) (free : ℕ → ColumnSet) (k : ℕ)
    → mentions c cols free k ≡ mentions_layer (map-Condition Condition Mentions mentions x) cols free k
unfolding mentions
mentions-at x c is cols free k = ap (λ d. mentions d cols free k) (sym is) ∙ ap (λ f. f cols free k) (fold-roll-Condition Mentions mentions_layer x)

module _ (cols : ℕ → List ℕ) (free : ℕ → ColumnSet) (k : ℕ) where
  any-part : (ds : List Condition) → list_any (λ d. d cols free k) (map mentions ds) ≡ mentioned cols free ds k
  any-part [] = refl
  any-part (d ∷ ds) = ap (λ b. mentions d cols free k || b) (any-part ds)

  pub mentions-Compare : (op : Comparison) (a b : Term) → mentions (Compare op a b) cols free k ≡ (has (term_columns a) k || has (term_columns b) k)
  mentions-Compare op a b = mentions-at (Condition-F.Compare op a b) _ (rolls-Compare op a b) cols free k

  pub mentions-IsNull : (a : Term) → mentions (IsNull a) cols free k ≡ has (term_columns a) k
  mentions-IsNull a = mentions-at (Condition-F.IsNull a) _ (rolls-IsNull a) cols free k

  pub mentions-Not : (c : Condition) → mentions (Not c) cols free k ≡ mentions c cols free k
  mentions-Not c = mentions-at (Condition-F.Not c) _ (rolls-Not c) cols free k

  pub mentions-And : (a b : Condition) (ds : List Condition) → mentions (And a b ds) cols free k ≡ mentioned cols free (a ∷ b ∷ ds) k
  mentions-And a b ds = mentions-at (Condition-F.And a b ds) _ (rolls-And a b ds) cols free k ∙ any-part (a ∷ b ∷ ds)

  pub mentions-Or : (a b : Condition) (ds : List Condition) → mentions (Or a b ds) cols free k ≡ mentioned cols free (a ∷ b ∷ ds) k
  mentions-Or a b ds = mentions-at (Condition-F.Or a b ds) _ (rolls-Or a b ds) cols free k ∙ any-part (a ∷ b ∷ ds)

  pub mentions-Exists : (g : ℕ) → mentions (Exists g) cols free k ≡ free g k
  mentions-Exists g = mentions-at (Condition-F.Exists g) _ (rolls-Exists g) cols free k

  pub mentions-In : (a : Term) (g j : ℕ) → mentions (In a g j) cols free k ≡ (has (term_columns a) k || free g k || (j == k && not (has (cols g) j)))
  mentions-In a g j = mentions-at (Condition-F.In a g j) _ (rolls-In a g j) cols free k

-- ---- lists that gather columns

pub on_ok : {T E : Type 0} {P Q : Type 0} (r : Result T E) → (P → Q) → OnOk r P → OnOk r Q
on_ok (Ok x) to p = to p
on_ok (Err e) to p = tt

pub also_same : (xs ys : List ℕ) (F G : ColumnSet) → ((k : ℕ) → F k ≡ G k) → HasAlso ys xs F → HasAlso ys xs G
also_same xs ys F G same also k = also k ∙ ap (λ b. has xs k || b) (same k)

pub also_both : (xs ys zs : List ℕ) (F G H : ColumnSet) → ((k : ℕ) → (F k || G k) ≡ H k) → HasAlso ys xs F → HasAlso zs ys G → HasAlso zs xs H
also_both xs ys zs F G H same first second k = second k ∙ ap (λ b. b || G k) (first k) ∙ or_assoc (has xs k) (F k) (G k) ∙ ap (λ b. has xs k || b) (same k)

-- what an AND or an OR mentions, gathered part by part
pub also_parts : (cols : ℕ → List ℕ) (free : ℕ → ColumnSet) (d a b f s : Condition) (more cs : List Condition) (xs ys zs ws : List ℕ)
    → ((k : ℕ) → mentions d cols free k ≡ mentioned cols free (a ∷ b ∷ cs) k) → f ≡ a → s ≡ b → more ≡ cs
    → HasAlso ys xs (mentions f cols free) → HasAlso zs ys (mentions s cols free) → HasAlso ws zs (mentioned cols free more) → HasAlso ws xs (mentions d cols free)
also_parts cols free d a b f s more cs xs ys zs ws is first second others to_first to_second to_others =
    also_both xs zs ws (λ k. mentions f cols free k || mentions s cols free k) (mentioned cols free more) (mentions d cols free)
    (λ k. or_assoc (mentions f cols free k) _ _ ∙ rw (first, second, others) (sym (is k)))
    (also_both xs ys zs _ _ _ (λ k. refl) to_first to_second) to_others

-- ---- sets that share no column

-- what passes for all of a list passes for each
pub each_has : (p : ℕ → Bool) (xs : List ℕ) → list_all p xs ≡ true → (k : ℕ) → has xs k ≡ true → p k ≡ true
each_has p [] all k in_ = cc
each_has p (x ∷ xs) all k in_ =
    let parts = and_parts (p x) (list_all p xs) all in
    elim (or_cases (x == k) (has xs k) in_) [
      | inl is ↦ ap p (sym (eqb-true x k is)) ∙ parts.0
      | inr later ↦ each_has p xs parts.1 k later
    ]

pub all_has : (p : ℕ → Bool) (xs : List ℕ) → ((k : ℕ) → has xs k ≡ true → p k ≡ true) → list_all p xs ≡ true
all_has p [] each = refl
all_has p (x ∷ xs) each = and_from _ _ (each x (or_left (x == x) (has xs x) (eq-eqb x x refl))) (all_has p xs (λ k in_. each k (or_right (x == k) (has xs k) in_)))

-- what all of a list pass, all pass in rising order
pub all-rising : (p : ℕ → Bool) (xs : List ℕ) → list_all p (rising xs) ≡ list_all p xs
all-rising p xs = both_ways _ _
    (λ all. all_has p xs (λ k in_. each_has p (rising xs) all k (has-rising k xs ∙ in_)))
    (λ all. all_has p (rising xs) (λ k in_. each_has p xs all k (sym (has-rising k xs) ∙ in_)))

-- of two sets the one shares nothing with the other where the other shares nothing with it
pub apart_turned : (xs B : List ℕ) (M : ColumnSet) → ((k : ℕ) → has xs k ≡ M k) → are_disjoint xs B ≡ list_all (λ k. not (M k)) B
apart_turned xs B M same = both_ways _ _
    (λ apart. all_has (λ k. not (M k)) B (λ k in_. other (M k) (has B k) (λ m. each_has (λ j. not (has B j)) xs apart k (same k ∙ m)) in_))
    (λ apart. all_has (λ k. not (has B k)) xs (λ k in_. other (has B k) (M k) (λ b. each_has (λ j. not (M j)) B apart k b) (sym (same k) ∙ in_)))
  where
    other : (m b : Bool) → (m ≡ true → not b ≡ true) → b ≡ true → not m ≡ true
    other true true h is = h refl
    other true false h is = cc
    other false b h is = refl
