-- What conditions mean, and what they read.
use Rattle.std.specs.Prelude.{ℕ, Bool, true, false, not, ◌&&◌, ◌||◌, ◌==◌, List, [], ◌∷◌, map, flat_map}
use Rattle.std.specs.List.{list_any, list_all}
use Rattle.values.specs.declared.truth.Truth.{Truth}
use Rattle.values.specs.declared.truth.Comparison.TheVariants as by
use Rattle.values.specs.declared.value.Value.{Value}
use Rattle.values.specs.Truth.{negation, truth_of, is_true, is_null, compare}
use Rattle.query.specs.Meaning.{all_of, any_of}
use Rattle.algebra.specs.declared.condition.Term.{Term}
use Rattle.algebra.specs.declared.condition.Term.TheVariants as term
use Rattle.algebra.specs.declared.condition.Condition.{Condition, fold-Condition}
use Rattle.algebra.specs.declared.condition.Condition.TheOpen.{Condition-F}
use Rattle.algebra.specs.Columns.{ColumnSet, has, rising}
use Rattle.algebra.specs.Bags.{Env, Test, Bag}

-- ---- truth

abbrev pub term_value : Term → Env → Value
term_value (term.Column c) e = e c
term_value (term.Literal v) e = v

-- a condition's truth at a row, given what the classes mean
abbrev pub Meaning : Type 0
Meaning = (ℕ → Bag) → Env → Truth

abbrev pub is_empty : List Env → Bool
is_empty [] = true
is_empty (r ∷ rows) = false

-- what a condition is at a row, given the meaning of its parts; a subquery is taken at the row
abbrev pub truth_layer : Condition-F Meaning → Meaning
truth_layer (Condition-F.Compare c a b) W r = compare c (term_value a r) (term_value b r)
truth_layer (Condition-F.IsNull a) W r = truth_of (is_null (term_value a r))
truth_layer (Condition-F.Not c) W r = negation (c W r)
truth_layer (Condition-F.And a b cs) W r = all_of (map (λ c. c W r) (a ∷ b ∷ cs))
truth_layer (Condition-F.Or a b cs) W r = any_of (map (λ c. c W r) (a ∷ b ∷ cs))
truth_layer (Condition-F.Exists g) W r = truth_of (not (is_empty (W g r)))
truth_layer (Condition-F.In a g k) W r = any_of (map (λ s. compare by.Equal (term_value a r) (s k)) (W g r))

-- whether a condition is true at a row
unfoldable pub truth : Condition → Meaning
truth = fold-Condition Meaning truth_layer

-- whether all conditions are true at a row
abbrev pub holds : (ℕ → Bag) → List Condition → Test
holds W cs r = list_all (λ c. is_true (truth c W r)) cs

-- whether none is false
abbrev pub allows : (ℕ → Bag) → List Condition → Test
allows W cs r = list_all (λ c. not (is_true (negation (truth c W r)))) cs

-- ---- what is read

abbrev pub term_columns : Term → List ℕ
term_columns (term.Column c) = c ∷ []
term_columns (term.Literal v) = []

-- whether something that a condition names passes a test, given the same of its parts
abbrev pub Passes : Type 0
Passes = (ℕ → Bool) → Bool

abbrev pub term_passes : (ℕ → Bool) → Term → Bool
term_passes p a = list_all p (term_columns a)

abbrev pub columns_layer : Condition-F Passes → Passes
columns_layer (Condition-F.Compare c a b) p = term_passes p a && term_passes p b
columns_layer (Condition-F.IsNull a) p = term_passes p a
columns_layer (Condition-F.Not c) p = c p
columns_layer (Condition-F.And a b cs) p = list_all (λ c. c p) (a ∷ b ∷ cs)
columns_layer (Condition-F.Or a b cs) p = list_all (λ c. c p) (a ∷ b ∷ cs)
columns_layer (Condition-F.Exists g) p = true
columns_layer (Condition-F.In a g k) p = term_passes p a && p k

-- whether each column that a condition names passes
unfoldable pub all_columns : Condition → Passes
all_columns = fold-Condition Passes columns_layer

abbrev pub classes_layer : Condition-F Passes → Passes
classes_layer (Condition-F.Compare c a b) p = true
classes_layer (Condition-F.IsNull a) p = true
classes_layer (Condition-F.Not c) p = c p
classes_layer (Condition-F.And a b cs) p = list_all (λ c. c p) (a ∷ b ∷ cs)
classes_layer (Condition-F.Or a b cs) p = list_all (λ c. c p) (a ∷ b ∷ cs)
classes_layer (Condition-F.Exists g) p = p g
classes_layer (Condition-F.In a g k) p = p g

-- whether each class that a condition names passes
unfoldable pub all_classes : Condition → Passes
all_classes = fold-Condition Passes classes_layer

abbrev pub named_layer : Condition-F (List ℕ) → List ℕ
named_layer (Condition-F.Compare c a b) = []
named_layer (Condition-F.IsNull a) = []
named_layer (Condition-F.Not c) = c
named_layer (Condition-F.And a b cs) = flat_map (λ c. c) (a ∷ b ∷ cs)
named_layer (Condition-F.Or a b cs) = flat_map (λ c. c) (a ∷ b ∷ cs)
named_layer (Condition-F.Exists g) = g ∷ []
named_layer (Condition-F.In a g k) = g ∷ []

-- the classes that a condition names
unfoldable pub named_classes : Condition → List ℕ
named_classes = fold-Condition (List ℕ) named_layer

-- the classes that conditions name, rising
abbrev pub classes_in : List Condition → List ℕ
classes_in C = rising (flat_map named_classes C)

-- the columns and the free columns of each class, to the columns that a condition reads there
abbrev pub Mentions : Type 0
Mentions = (ℕ → List ℕ) → (ℕ → ColumnSet) → ColumnSet

abbrev pub mentions_layer : Condition-F Mentions → Mentions
mentions_layer (Condition-F.Compare op a b) cols free c = has (term_columns a) c || has (term_columns b) c
mentions_layer (Condition-F.IsNull a) cols free c = has (term_columns a) c
mentions_layer (Condition-F.Not d) cols free c = d cols free c
mentions_layer (Condition-F.And a b ds) cols free c = list_any (λ d. d cols free c) (a ∷ b ∷ ds)
mentions_layer (Condition-F.Or a b ds) cols free c = list_any (λ d. d cols free c) (a ∷ b ∷ ds)
mentions_layer (Condition-F.Exists g) cols free c = free g c
mentions_layer (Condition-F.In a g k) cols free c = has (term_columns a) c || free g c || (k == c && not (has (cols g) k))

-- the columns that a condition reads: those of its terms, the free columns of its subqueries, and an IN's column that its
-- subquery lacks
unfoldable pub mentions : Condition → Mentions
mentions = fold-Condition Mentions mentions_layer
