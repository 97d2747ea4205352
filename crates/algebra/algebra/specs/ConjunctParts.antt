-- Lists of conjuncts put together and taken apart.
use Rattle.std.specs.Prelude.{ℕ, Bool, false, not, List, ◌++◌, filter}
use Rattle.std.specs.List.{list_all}
use Rattle.algebra.specs.declared.condition.Condition.{Condition}
use Rattle.algebra.specs.Columns.{ColumnSet}
use Rattle.algebra.specs.Conditions.{all_classes, mentions}
use Rattle.algebra.specs.ConjunctOrder.{conjuncts}

-- the conjuncts of either list, each once
abbrev pub union : List Condition → List Condition → List Condition
union C D = conjuncts (C ++ D)

-- the conjuncts that pass a test, and the others
abbrev pub part : (Condition → Bool) → List Condition → List Condition
part p C = filter p C

abbrev pub rest : (Condition → Bool) → List Condition → List Condition
rest p C = filter (λ c. not (p c)) C

-- whether a condition mentions none of the columns, over classes with these columns and free columns
abbrev pub is_without : (ℕ → List ℕ) → (ℕ → ColumnSet) → List ℕ → Condition → Bool
is_without cols free B c = list_all (λ k. not (mentions c cols free k)) B

-- whether it has no subquery
abbrev pub has_no_class : Condition → Bool
has_no_class c = all_classes c (λ g. false)
