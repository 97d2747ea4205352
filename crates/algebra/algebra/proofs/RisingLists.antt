-- Lists whose texts or columns rise, as far as they were read.
use Rattle.std.proofs.Common.{◌≡◌, ℕ, ◌+◌, ◌-◌, ◌<◌, ◌≤◌, IsTrue, ◌↔◌, Bool, true, false, List, length, map, get_or, sym, ◌∙◌, ap, subst, arith}
use Rattle.std.proofs.lemmas.Bool.{false≢true}
use Rattle.std.proofs.lemmas.List.{length-map, get_or-map, get_or_default}
use Rattle.std.proofs.lemmas.List.Sorted.{all_adjacent_more}
use Rattle.std.specs.List.{AllAdjacentBelow}
use Rattle.std.specs.Ordering.{nat_cmp, is_lt}
use Rattle.std.specs.Cmp.Lexicographic.{slice_cmp}
use Rattle.query.specs.declared.query.Aggregate.TheVariants.{CountRows}
use Rattle.algebra.specs.declared.condition.Condition.{Condition}
use Rattle.algebra.specs.declared.expr.Aggregation.{Aggregation}
use Rattle.algebra.specs.AggregateOrder.{AreByColumn}
use Rattle.algebra.specs.ConjunctOrder.{condition_text, goes_before, TextsRise}

-- ---- texts

abbrev pub TextsRiseTo : List Condition → ℕ → Type 0
TextsRiseTo C n = AllAdjacentBelow (λ c d. goes_before c d ≡ true) C n

-- the text of the condition before a place
abbrev pub IsTextBefore : List ℕ → List Condition → ℕ → Type 0
IsTextBefore t C n = (d : Condition) → t ≡ condition_text (get_or C (n - 1) d)

module _ (C : List Condition) (n : ℕ) (t u : List ℕ) (some : 1 ≤ n) (within : n < length C) (last : IsTextBefore t C n) (x : Condition) (at : x ≡ get_or C n x) (spelled : u ≡ condition_text x) (below : Bool) (is : below ≡ is_lt (slice_cmp nat_cmp t u)) where
  next : (d : Condition) → u ≡ condition_text (get_or C n d)
  next d = spelled ∙ ap condition_text (at ∙ get_or_default C n x d within)

  compared : (d : Condition) → goes_before (get_or C (n - 1) d) (get_or C n d) ≡ below
  unfolding goes_before
  compared d = (λ i. is_lt (slice_cmp nat_cmp (sym (last d) i) (sym (next d) i))) ∙ sym is

  pub rise_more : below ≡ true → TextsRiseTo C n → TextsRiseTo C (n + 1)
  rise_more up rise = all_adjacent_more C (λ c d. goes_before c d ≡ true) n (omega (arith, some)) rise (λ d. compared d ∙ up)

  pub text_behind : IsTextBefore u C (n + 1)
  text_behind d = next d ∙ ap (λ k. condition_text (get_or C k d)) (omega arith)

  pub falls : below ≡ false → Condition → TextsRise C → ⊥
  falls down d rise =
      let inside : n - 1 + 1 < length C = omega (arith, some, within) in
      let back : n - 1 + 1 ≡ n = omega (arith, some) in
      absurd (false≢true (sym down ∙ sym (compared d) ∙ ap (λ k. goes_before (get_or C (n - 1) d) (get_or C k d)) (sym back) ∙ rise (n - 1) d inside))

-- ---- columns

abbrev pub ColumnsRiseTo : List Aggregation → ℕ → Type 0
ColumnsRiseTo G n = AllAdjacentBelow (λ a b. a.column < b.column) G n

column_at : (G : List Aggregation) (k : ℕ) (d : Aggregation) → k < length G → get_or (map (λ a. a.column) G) k 0 ≡ (get_or G k d).column
column_at G k d l = get_or-map (λ (a : Aggregation). a.column) G k d 0 l

pub columns_rise : (G : List Aggregation) (n : ℕ) → length G ≤ n → ColumnsRiseTo G n → AreByColumn G
columns_rise G n all rise k l =
    let d : Aggregation = record { column = 0; aggregate = CountRows } in
    let inside : k + 1 < length G = omega (arith, l, length-map G (λ (a : Aggregation). a.column)) in
    let up = rise k d (omega (arith, inside, all)) in
    omega (arith, up, column_at G k d (omega (arith, inside)), column_at G (k + 1) d inside)

pub columns_fall : (G : List Aggregation) (n : ℕ) (d : Aggregation) → 1 ≤ n → n < length G → (get_or G n d).column ≤ (get_or G (n - 1) d).column → AreByColumn G → ⊥
columns_fall G n d some within down rise =
    let back : n - 1 + 1 ≡ n = omega (arith, some) in
    let up = rise (n - 1) (omega (arith, some, within, length-map G (λ (a : Aggregation). a.column))) in
    absurd (omega (arith, up, down, column_at G (n - 1) d (omega (arith, some, within)), column_at G n d within, ap (λ k. get_or (map (λ (a : Aggregation). a.column) G) k 0) back))
