-- Which facts a line gives of its class, by what is known of the classes.
use Rattle.std.specs.Prelude.{◌≡◌, ℕ, ◌+◌, ◌-◌, Bool, true, false, not, ◌&&◌, ◌||◌, ◌==◌, nat_le, if◌then◌else◌, List, [], ◌∷◌, ◌++◌, map, length, slice_get, Option, Some, None}
use Rattle.std.specs.List.{list_any, list_all, AllByRecursion}
use Rattle.values.specs.declared.truth.Comparison.{Comparison}
use Rattle.values.specs.declared.truth.Comparison.TheVariants as by
use Rattle.values.specs.Truth.{is_null}
use Rattle.schema.specs.declared.schema.Column.{Column}
use Rattle.schema.specs.declared.schema.Schema.{Schema}
use Rattle.schema.specs.Databases.{Database, Satisfies}
use Rattle.query.specs.declared.query.Aggregate.{Aggregate}
use Rattle.query.specs.declared.query.Aggregate.TheVariants as aggregate
use Rattle.query.specs.declared.query.TableInstance.{TableInstance}
use Rattle.query.specs.Bound.{IsOver}
use Rattle.query.specs.Rows.{tables_of}
use Rattle.algebra.specs.declared.condition.Term.{Term}
use Rattle.algebra.specs.declared.condition.Term.TheVariants as term
use Rattle.algebra.specs.declared.condition.Condition.{Condition, fold-Condition}
use Rattle.algebra.specs.declared.condition.Condition.TheOpen.{Condition-F}
use Rattle.algebra.specs.declared.expr.Aggregation.{Aggregation}
use Rattle.algebra.specs.declared.expr.Expr.{Expr}
use Rattle.algebra.specs.declared.expr.Expr.TheVariants.{Get, Select, Join, LeftJoin, Semi, Anti, Keep, Distinct, Group}
use Rattle.algebra.specs.Columns.{has, is_subset, is_same_set}
use Rattle.algebra.specs.Bags.{Bag, SameBag}
use Rattle.algebra.specs.Expressions.{means, columns_of, is_formed}
use Rattle.props.specs.declared.fact.Fact.{Fact}
use Rattle.props.specs.declared.fact.Fact.TheVariants.{NotNull, WeakKey, StrongKey}
use Rattle.props.specs.Facts.{FactHolds, fact_columns, knows}
use Rattle.props.specs.Knowledge.{Knowledge, IsTrueOf, with_rows}
use Rattle.props.specs.Outcomes.{never_true}

-- whether a fact is known of a class
abbrev pub is_known : Knowledge → ℕ → Fact → Bool
is_known K g f = knows (K.facts g) f

-- ---- at most one match

-- a literal other than NULL, or a column that isn't among these
abbrev pub is_other : List ℕ → Term → Bool
is_other B (term.Column c) = not (has B c)
is_other B (term.Literal v) = not (is_null v)

abbrev pub is_column : ℕ → Term → Bool
is_column k (term.Column c) = c == k
is_column k (term.Literal v) = false

abbrev pub is_equality : Comparison → Bool
is_equality by.Equal = true
is_equality by.NotEqual = false
is_equality by.Less = false
is_equality by.LessOrEqual = false
is_equality by.Greater = false
is_equality by.GreaterOrEqual = false

-- whether a comparison is `k = t` or `t = k`, with such a t
abbrev pub equates : List ℕ → ℕ → Comparison → Term → Term → Bool
equates B k op a b = is_equality op && ((is_column k a && is_other B b) || (is_column k b && is_other B a))

abbrev pub pins_layer : Condition-F (List ℕ → ℕ → Bool) → List ℕ → ℕ → Bool
pins_layer (Condition-F.Compare op a b) B k = equates B k op a b
pins_layer (Condition-F.IsNull a) B k = false
pins_layer (Condition-F.Not c) B k = false
pins_layer (Condition-F.And a b cs) B k = false
pins_layer (Condition-F.Or a b cs) B k = false
pins_layer (Condition-F.Exists g) B k = false
pins_layer (Condition-F.In a g j) B k = false

-- whether a condition is such a comparison
unfoldable pub pins : Condition → List ℕ → ℕ → Bool
pins = fold-Condition (List ℕ → ℕ → Bool) pins_layer

-- whether each column of a key is pinned by one of the conditions
abbrev pub are_pinned : List ℕ → List Condition → List ℕ → Bool
are_pinned B C key = list_all (λ k. list_any (λ c. pins c B k) C) key

-- whether some known key of a class is pinned, so that no row finds two of its rows
abbrev pub is_single : Knowledge → ℕ → List Condition → Bool
is_single K g C = list_any (are_pinned (K.columns g) C) (K.facts g).weak_keys || list_any (are_pinned (K.columns g) C) (K.facts g).strong_keys

-- ---- by operator

-- whether a NOT NULL column stands in the place
abbrev pub is_not_null_at : List Column → ℕ → Bool
is_not_null_at columns place = by_place (slice_get columns place)
  where
    by_place : Option Column → Bool
    by_place (Some c) = c.not_null
    by_place None = false

-- the columns of a table instance at the places
abbrev pub at_places : TableInstance → List ℕ → List ℕ
at_places t places = map (λ p. t.first_column + p) places

abbrev pub by_table : Option TableInstance → Fact → Bool
by_table None f = false
by_table (Some t) (NotNull c) = nat_le t.first_column c && is_not_null_at t.entry.columns (c - t.first_column)
by_table (Some t) (WeakKey L) = list_any (λ places. is_same_set L (at_places t places)) t.entry.unique
by_table (Some t) (StrongKey L) = false

-- a column of a class that would make the conditions false if it were Null
abbrev pub is_rejected : Knowledge → ℕ → List Condition → ℕ → Bool
is_rejected K x C c = has (K.columns x) c && never_true C (λ k. c == k)

-- whether the columns are those of a key of the one list and of a key of the other
abbrev pub is_union : List (List ℕ) → List (List ℕ) → List ℕ → Bool
is_union keys others L = list_any (λ p. list_any (λ q. is_same_set L (p ++ q)) others) keys

abbrev pub by_select : Knowledge → List Condition → ℕ → Fact → Bool
by_select K C x (NotNull c) = is_known K x (NotNull c) || is_rejected K x C c
by_select K C x (WeakKey L) = is_known K x (WeakKey L)
by_select K C x (StrongKey L) = is_known K x (StrongKey L)

-- a key of a side, where each of its rows finds one match at most
abbrev pub by_side : Knowledge → List Condition → ℕ → ℕ → Fact → Bool
by_side K C a b f = is_known K a f && is_single K b C

abbrev pub by_join : Knowledge → List Condition → ℕ → ℕ → Fact → Bool
by_join K C a b (NotNull c) = is_known K a (NotNull c) || is_known K b (NotNull c) || is_rejected K a C c || is_rejected K b C c
by_join K C a b (WeakKey L) = by_side K C a b (WeakKey L) || by_side K C b a (WeakKey L) || is_union (K.facts a).weak_keys (K.facts b).weak_keys L
by_join K C a b (StrongKey L) = by_side K C a b (StrongKey L) || by_side K C b a (StrongKey L) || is_union (K.facts a).strong_keys (K.facts b).strong_keys L

abbrev pub by_left_join : Knowledge → List Condition → ℕ → ℕ → Fact → Bool
by_left_join K C a b (NotNull c) = is_known K a (NotNull c)
by_left_join K C a b (WeakKey L) = by_side K C a b (WeakKey L) || is_union (K.facts a).weak_keys (K.facts b).weak_keys L
by_left_join K C a b (StrongKey L) = by_side K C a b (StrongKey L) || is_union (K.facts a).strong_keys (K.facts b).strong_keys L

abbrev pub by_distinct : Knowledge → ℕ → Fact → Bool
by_distinct K x (NotNull c) = is_known K x (NotNull c)
by_distinct K x (WeakKey L) = is_known K x (WeakKey L)
by_distinct K x (StrongKey L) = is_known K x (StrongKey L) || is_same_set L (K.columns x)

abbrev pub is_count : Aggregate → Bool
is_count aggregate.CountRows = true
is_count (aggregate.Count k) = true
is_count (aggregate.Sum k) = false
is_count (aggregate.Min k) = false
is_count (aggregate.Max k) = false

-- whether the column is that of a count
abbrev pub counts : List Aggregation → ℕ → Bool
counts [] c = false
counts (a ∷ G) c = if a.column == c then is_count a.aggregate else counts G c

abbrev pub by_group : Knowledge → List ℕ → List Aggregation → ℕ → Fact → Bool
by_group K L G x (NotNull c) = (has L c && is_known K x (NotNull c)) || counts G c
by_group K L G x (WeakKey N) = false
by_group K L G x (StrongKey N) = is_same_set N L

abbrev pub by_line : List TableInstance → Knowledge → Expr → Fact → Bool
by_line instances K (Get o) f = by_table (slice_get instances o) f
by_line instances K (Select C x) f = by_select K C x f
by_line instances K (Join C a b) f = by_join K C a b f
by_line instances K (LeftJoin C a b) f = by_left_join K C a b f
by_line instances K (Semi C a b) f = is_known K a f
by_line instances K (Anti S M a b) f = is_known K a f
by_line instances K (Keep L x) f = is_known K x f && is_subset (fact_columns f) L
by_line instances K (Distinct x) f = by_distinct K x f
by_line instances K (Group L G x) f = by_group K L G x f

-- ---- by other facts of the class

abbrev pub by_others : Knowledge → ℕ → Fact → Bool
by_others K g (NotNull c) = false
by_others K g (WeakKey L) = is_known K g (StrongKey L)
by_others K g (StrongKey L) = is_known K g (WeakKey L) && list_all (λ c. is_known K g (NotNull c)) L

-- keys are of four columns at most
abbrev pub is_short : Fact → Bool
is_short f = nat_le (length (fact_columns f)) 4

-- whether a line of a class gives a fact of it
abbrev pub gives : List TableInstance → Knowledge → ℕ → Expr → Fact → Bool
gives instances K g x f = is_short f && (by_others K g f || by_line instances K x f)

-- ---- soundness

-- In a database that satisfies the schema, where what is known is true, a fact that a line gives of its class holds of the class.
abbrev pub GivenFactsHold : Type 0
GivenFactsHold = (S : Schema) (D : Database) → Satisfies S D → (instances : List TableInstance) → AllByRecursion (IsOver S) instances → (own : List Aggregation)
    → (K : Knowledge) (rows : ℕ → Bag) → IsTrueOf K rows → (g : ℕ) (x : Expr) → is_formed instances own K.columns x ≡ true
    → columns_of instances K.columns x ≡ K.columns g → SameBag (rows g) (means instances (tables_of S D) (with_rows K rows) x)
    → (f : Fact) → is_subset (fact_columns f) (K.columns g) ≡ true → gives instances K g x f ≡ true → FactHolds (rows g) f
