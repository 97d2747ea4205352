-- What folds over conditions give at lists of conditions.
use Rattle.std.proofs.Common.{◌≡◌, refl, ap, sym, ◌∙◌, ℕ, Bool, true, false, not, ◌&&◌, ◌||◌, ◌==◌, ◌<◌, ◌+◌, ◌-◌, length, take, drop, get_or, add-one, nat_lt, arith, List, [], ◌∷◌}
use Rattle.std.specs.List.{list_all, list_any}
use Rattle.std.proofs.lemmas.Bool.{le-ltb}
use Rattle.std.proofs.lemmas.List.{take_all, length-drop}
use Rattle.std.proofs.Math.Seq.{drop-cons}
use Rattle.std.proofs.lemmas.List.Folds.{list_all-map}
use Rattle.query.specs.declared.query.Aggregate.TheVariants.{CountRows}
use Rattle.algebra.specs.Expressions.{subqueries_pass, is_plain, aggregate_columns, are_different}
use Rattle.algebra.specs.Columns.{has}
use Rattle.algebra.specs.declared.expr.Aggregation.{Aggregation}
use Rattle.algebra.specs.declared.condition.Condition.{Condition, fold-roll-Condition}
use Rattle.algebra.specs.declared.condition.Condition.TheVariants.{And, Or, rolls-And, rolls-Or}
use Rattle.algebra.specs.declared.condition.Condition.TheOpen.{Condition-F}
use Rattle.algebra.specs.Conditions.{Passes, columns_layer, all_columns, classes_layer, all_classes}

pub all_columns_and : (a b : Condition) (cs : List Condition) (p : ℕ → Bool) → all_columns (And a b cs) p ≡ list_all (λ c. all_columns c p) (a ∷ b ∷ cs)
unfolding all_columns
all_columns_and a b cs p = ap (λ c. all_columns c p) (sym (rolls-And a b cs)) ∙ ap (λ f. f p) (fold-roll-Condition Passes columns_layer (Condition-F.And a b cs)) ∙ list_all-map (λ c. c p) all_columns (a ∷ b ∷ cs)

pub all_columns_or : (a b : Condition) (cs : List Condition) (p : ℕ → Bool) → all_columns (Or a b cs) p ≡ list_all (λ c. all_columns c p) (a ∷ b ∷ cs)
unfolding all_columns
all_columns_or a b cs p = ap (λ c. all_columns c p) (sym (rolls-Or a b cs)) ∙ ap (λ f. f p) (fold-roll-Condition Passes columns_layer (Condition-F.Or a b cs)) ∙ list_all-map (λ c. c p) all_columns (a ∷ b ∷ cs)

pub all_classes_and : (a b : Condition) (cs : List Condition) (p : ℕ → Bool) → all_classes (And a b cs) p ≡ list_all (λ c. all_classes c p) (a ∷ b ∷ cs)
unfolding all_classes
all_classes_and a b cs p = ap (λ c. all_classes c p) (sym (rolls-And a b cs)) ∙ ap (λ f. f p) (fold-roll-Condition Passes classes_layer (Condition-F.And a b cs)) ∙ list_all-map (λ c. c p) all_classes (a ∷ b ∷ cs)

pub all_classes_or : (a b : Condition) (cs : List Condition) (p : ℕ → Bool) → all_classes (Or a b cs) p ≡ list_all (λ c. all_classes c p) (a ∷ b ∷ cs)
unfolding all_classes
all_classes_or a b cs p = ap (λ c. all_classes c p) (sym (rolls-Or a b cs)) ∙ ap (λ f. f p) (fold-roll-Condition Passes classes_layer (Condition-F.Or a b cs)) ∙ list_all-map (λ c. c p) all_classes (a ∷ b ∷ cs)

-- where the first two parts pass, all do if the others do
pub and_more : (d a b : Condition) (cs : List Condition) (p : ℕ → Bool) → d ≡ And a b cs → all_classes a p ≡ true → all_classes b p ≡ true → subqueries_pass p cs ≡ all_classes d p
and_more d a b cs p is first second = sym (ap (λ d. all_classes d p) is ∙ all_classes_and a b cs p ∙ rw (first, second) refl)

pub or_more : (d a b : Condition) (cs : List Condition) (p : ℕ → Bool) → d ≡ Or a b cs → all_classes a p ≡ true → all_classes b p ≡ true → subqueries_pass p cs ≡ all_classes d p
or_more d a b cs p is first second = sym (ap (λ d. all_classes d p) is ∙ all_classes_or a b cs p ∙ rw (first, second) refl)

-- a condition that names no class below 0 names none
pub plain_condition : (c : Condition) → all_classes c (λ g. nat_lt g 0) ≡ all_classes c (λ g. false)
plain_condition c = λ i. all_classes c (λ g. le-ltb g 0 (omega arith) i)

-- what names no class below 0 names none
pub plain_below : (C : List Condition) → subqueries_pass (λ g. nat_lt g 0) C ≡ is_plain C
plain_below C = λ i. subqueries_pass (λ g. le-ltb g 0 (omega arith) i) C

-- whether a column is one of the aggregates'
any_column : (added : List Aggregation) (c : ℕ) → list_any (λ a. a.column == c) added ≡ has (aggregate_columns added) c
any_column [] c = refl
any_column (a ∷ added) c = ap (λ b. (a.column == c) || b) (any_column added c)

different_first : (left : List Aggregation) (a : Aggregation) (rest : List Aggregation) → left ≡ a ∷ rest → are_different (aggregate_columns left) ≡ (not (list_any (λ b. b.column == a.column) rest) && are_different (aggregate_columns rest))
different_first left a rest is = ap (λ l. are_different (aggregate_columns l)) is ∙ ap (λ b. not b && are_different (aggregate_columns rest)) (sym (any_column rest a.column))

-- whether the aggregates from a place on differ, by the one there and the others
pub different_at : (added : List Aggregation) (i k : ℕ) (b : Bool) → i < length added → ((d : Aggregation) → k ≡ (get_or added i d).column)
    → b ≡ list_any (λ b. b.column == k) (take (length added - (i + 1)) (drop (i + 1) added))
    → are_different (aggregate_columns (drop i added)) ≡ (not b && are_different (aggregate_columns (drop (i + 1) added)))
different_at added i k b lt is same =
    let d : Aggregation = record { column = k; aggregate = CountRows } in
    different_first (drop i added) (get_or added i d) (drop (i + 1) added) (drop-cons added i d lt ∙ rw add-one refl)
    ∙ ap (λ b. not b && are_different (aggregate_columns (drop (i + 1) added))) (rw (← is d, same, take_all (length added - (i + 1)) (drop (i + 1) added) (rw length-drop (omega arith))) refl)
