-- Comparisons of what is never Null are true or false.
use Rattle.std.proofs.Common.{◌≡◌, refl, ap, sym, ◌∙◌, inl, inr, ℕ, ◌+◌, ◌==◌, Bool, true, false, not, ◌&&◌, ◌||◌, if◌then◌else◌, List, [], ◌∷◌, map, arith}
use Rattle.std.specs.List.{list_all}
use Rattle.std.proofs.lemmas.Bool.{and_parts, or_cases, or_left, or_right, eq-eqb, eqb-true, not-true}
use Rattle.std.proofs.lemmas.List.Folds.{list_all-map}
use Rattle.values.specs.declared.truth.Comparison.{Comparison}
use Rattle.values.specs.declared.value.Value.{Value}
use Rattle.values.specs.declared.value.Value.TheVariants as value
use Rattle.values.specs.Truth.{negation, truth_of, is_true, is_null, compare}
use Rattle.algebra.specs.declared.condition.Condition.{Condition, roll-Condition, out-Condition, roll-out-Condition, fold-roll-Condition, map-Condition}
use Rattle.algebra.specs.declared.condition.Condition.TheOpen.{Condition-F}
use Rattle.algebra.specs.declared.condition.Condition.TheVariants.{Compare, rolls-Compare}
use Rattle.algebra.specs.declared.condition.Term.{Term}
use Rattle.algebra.specs.declared.condition.Term.TheVariants as term
use Rattle.algebra.specs.Columns.{ColumnSet, has}
use Rattle.algebra.specs.Bags.{Env, Bag}
use Rattle.algebra.specs.Conditions.{truth, holds, allows, term_value}
use Rattle.algebra.specs.ConjunctOrder.{conjuncts}
use Rattle.algebra.proofs.BagSums.{total-zero}
use Rattle.algebra.proofs.ConjunctLists.{conjuncts-all}
use Rattle.algebra.proofs.Lists.{two}
use Rattle.algebra.proofs.Truths.{truth-Compare, truth-And, allowed-all}
use Rattle.laws.specs.Keys.{count, has_null}
use Rattle.semijoin_rules.specs.AntijoinOfFilled.{is_filled, compares_layer, compares_filled}

-- ---- which conditions they are

compares-at : (x : Condition-F Condition) (c : Condition) → roll-Condition x ≡ c → (N : ColumnSet) → compares_filled c N ≡ compares_layer (map-Condition Condition (ColumnSet → Bool) compares_filled x) N
unfolding compares_filled
compares-at x c is N = ap (λ d. compares_filled d N) (sym is) ∙ ap (λ f. f N) (fold-roll-Condition (ColumnSet → Bool) compares_layer x)

pub compares-Compare : (op : Comparison) (a b : Term) (N : ColumnSet) → compares_filled (Compare op a b) N ≡ (is_filled N a && is_filled N b)
compares-Compare op a b = compares-at (Condition-F.Compare op a b) _ (rolls-Compare op a b)

-- nothing else is such a comparison
pub compares-else : (c : Condition) → ((op : Comparison) (a b : Term) → c ≡ Compare op a b → ⊥) → (N : ColumnSet) → compares_filled c N ≡ false
compares-else c other N = by (out-Condition c) (roll-out-Condition c)
  where
    by : (x : Condition-F Condition) → roll-Condition x ≡ c → compares_filled c N ≡ false
    by (Condition-F.Compare op a b) is = absurd (other op a b (sym is ∙ rolls-Compare op a b))
    by (Condition-F.IsNull a) is = compares-at (Condition-F.IsNull a) c is N
    by (Condition-F.Not d) is = compares-at (Condition-F.Not d) c is N
    by (Condition-F.And a b cs) is = compares-at (Condition-F.And a b cs) c is N
    by (Condition-F.Or a b cs) is = compares-at (Condition-F.Or a b cs) c is N
    by (Condition-F.Exists g) is = compares-at (Condition-F.Exists g) c is N
    by (Condition-F.In a g j) is = compares-at (Condition-F.In a g j) c is N

-- ---- what they are at a row

told : (b : Bool) → is_true (truth_of b) ≡ not (is_true (negation (truth_of b)))
told true = refl
told false = refl

compared : (op : Comparison) (v w : Value) → is_null v ≡ false → is_null w ≡ false → is_true (compare op v w) ≡ not (is_true (negation (compare op v w)))
compared op value.Null w v-is w-is = cc
compared op (value.Int m) value.Null v-is w-is = cc
compared op (value.Int m) (value.Int n) v-is w-is = told _
compared op (value.Int m) (value.Text t) v-is w-is = told _
compared op (value.Text s) value.Null v-is w-is = cc
compared op (value.Text s) (value.Int n) v-is w-is = told _
compared op (value.Text s) (value.Text t) v-is w-is = told _

-- a row without Null in the columns
abbrev pub IsFilledIn : ColumnSet → Env → Type 0
IsFilledIn N r = (k : ℕ) → N k ≡ true → is_null (r k) ≡ false

module _ (N : ColumnSet) (rows : ℕ → Bag) (r : Env) (filled : IsFilledIn N r) where
  filled-term : (a : Term) → is_filled N a ≡ true → is_null (term_value a r) ≡ false
  filled-term (term.Column c) is = filled c is
  filled-term (term.Literal v) is = not-true (is_null v) is

  decided : (c : Condition) → compares_filled c N ≡ true → is_true (truth c rows r) ≡ not (is_true (negation (truth c rows r)))
  decided c is = by (out-Condition c) (roll-out-Condition c)
    where
      at : (op : Comparison) (a b : Term) → c ≡ Compare op a b → is_true (truth c rows r) ≡ not (is_true (negation (truth c rows r)))
      at op a b same =
          let parts = and_parts (is_filled N a) (is_filled N b) (sym (ap (λ d. compares_filled d N) same ∙ compares-Compare op a b N) ∙ is) in
          let read : truth c rows r ≡ compare op (term_value a r) (term_value b r) = ap (λ d. truth d rows r) same ∙ truth-Compare op a b rows r in
          ap is_true read ∙ compared op (term_value a r) (term_value b r) (filled-term a parts.0) (filled-term b parts.1) ∙ ap (λ t. not (is_true (negation t))) (sym read)

      by : (x : Condition-F Condition) → roll-Condition x ≡ c → is_true (truth c rows r) ≡ not (is_true (negation (truth c rows r)))
      by (Condition-F.Compare op a b) rolled = at op a b (sym rolled ∙ rolls-Compare op a b)
      by (Condition-F.IsNull a) rolled = cc (compares-at (Condition-F.IsNull a) c rolled N, is)
      by (Condition-F.Not d) rolled = cc (compares-at (Condition-F.Not d) c rolled N, is)
      by (Condition-F.And a b cs) rolled = cc (compares-at (Condition-F.And a b cs) c rolled N, is)
      by (Condition-F.Or a b cs) rolled = cc (compares-at (Condition-F.Or a b cs) c rolled N, is)
      by (Condition-F.Exists g) rolled = cc (compares-at (Condition-F.Exists g) c rolled N, is)
      by (Condition-F.In a g j) rolled = cc (compares-at (Condition-F.In a g j) c rolled N, is)

  -- all are true where none is false
  pub decided-hold : (C : List Condition) → list_all (λ c. compares_filled c N) C ≡ true → holds rows C r ≡ allows rows C r
  decided-hold [] all = refl
  decided-hold (c ∷ C) all =
      let parts = and_parts (compares_filled c N) (list_all (λ c. compares_filled c N) C) all in
      two (λ t u. t && u) (decided c parts.0) (decided-hold C parts.1)

-- none of the conjuncts of conditions is false where none of the conditions is
pub conjuncts-allow : (rows : ℕ → Bag) (C : List Condition) (r : Env) → allows rows (conjuncts C) r ≡ allows rows C r
conjuncts-allow rows C r =
    conjuncts-all (λ c. not (is_true (negation (truth c rows r))))
    (λ a b cs. ap (λ t. not (is_true (negation t))) (truth-And a b cs rows r) ∙ allowed-all (map (λ c. truth c rows r) (a ∷ b ∷ cs))
    ∙ list_all-map (λ t. not (is_true (negation t))) (λ c. truth c rows r) (a ∷ b ∷ cs)) C

-- ---- rows without Null

-- no row has Null in one of the columns, if none has it in each
pub none-null : (N : List ℕ) (xs : List Env) → ((k : ℕ) → has N k ≡ true → count (λ r. is_null (r k)) xs ≡ 0) → count (has_null N) xs ≡ 0
none-null [] xs none = total-zero _ (λ r. refl) xs
none-null (k ∷ N) xs none = both xs (none k (or_left (k == k) (has N k) (eq-eqb k k refl))) (none-null N xs (λ j in_. none j (or_right (k == j) (has N j) in_)))
  where
    both : (xs : List Env) → count (λ r. is_null (r k)) xs ≡ 0 → count (has_null N) xs ≡ 0 → count (λ r. is_null (r k) || has_null N r) xs ≡ 0
    both [] first others = refl
    both (r ∷ xs) first others = by (is_null (r k)) (has_null N r) first others (both xs)
      where
        by : (b c : Bool) → (if b then 1 else 0) + count (λ r. is_null (r k)) xs ≡ 0 → (if c then 1 else 0) + count (has_null N) xs ≡ 0
            → (count (λ r. is_null (r k)) xs ≡ 0 → count (has_null N) xs ≡ 0 → count (λ r. is_null (r k) || has_null N r) xs ≡ 0)
            → (if b || c then 1 else 0) + count (λ r. is_null (r k) || has_null N r) xs ≡ 0
        by true c first others later = absurd (omega (arith, first))
        by false true first others later = absurd (omega (arith, others))
        by false false first others later = omega (arith, later (omega (arith, first)) (omega (arith, others)))

pub filled-in : (N : List ℕ) (r : Env) → has_null N r ≡ false → IsFilledIn (has N) r
filled-in [] r none k in_ = cc
filled-in (j ∷ N) r none k in_ = by (is_null (r j)) refl none (λ others there. filled-in N r others k there)
  where
    by : (b : Bool) → is_null (r j) ≡ b → (b || has_null N r) ≡ false → (has_null N r ≡ false → has N k ≡ true → is_null (r k) ≡ false) → is_null (r k) ≡ false
    by true is none later = cc
    by false is none later = elim (or_cases (j == k) (has N k) in_) [ inl here ↦ ap (λ i. is_null (r i)) (sym (eqb-true j k here)) ∙ is | inr there ↦ later none there ]
