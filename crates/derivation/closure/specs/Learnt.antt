-- Facts that a line lacks: where one may be found, and what it means that one is found, or none.
use Rattle.std.specs.Prelude.{◌≡◌, ℕ, Bool, true, false, ◌||◌, List, slice_get, Option, Some, None}
use Rattle.std.specs.List.{AllByRecursion}
use Rattle.std.specs.List.Sorted.{IsStrictlyIncreasing}
use Rattle.query.specs.declared.query.TableInstance.{TableInstance}
use Rattle.algebra.specs.declared.expr.Expr.{Expr}
use Rattle.algebra.specs.declared.expr.Expr.TheVariants.{Get, Select, Join, LeftJoin, Semi, Anti, Keep, Distinct, Group}
use Rattle.algebra.specs.Columns.{is_same_set}
use Rattle.props.specs.declared.fact.Fact.{Fact}
use Rattle.props.specs.declared.fact.Fact.TheVariants.{NotNull, WeakKey, StrongKey}
use Rattle.props.specs.Facts.{fact_columns}
use Rattle.props.specs.Given.{by_table, is_known, is_union}
use Rattle.props.specs.Keys.{Key}
use Rattle.props.specs.Knowledge.{Knowledge}
use Rattle.rules.specs.Matches as matches
use Rattle.closure.specs.Closed.{lacks_fact}

-- ---- columns that may be a key

module _ (K : Knowledge) where
  -- whether they are known to be a key of a class
  abbrev pub is_key : ℕ → Key → Bool
  is_key g L = is_known K g (WeakKey L) || is_known K g (StrongKey L)

  -- whether they are a key of the one class and one of the other, of one kind
  abbrev pub are_keys : ℕ → ℕ → Key → Bool
  are_keys a b L = is_union (K.facts a).weak_keys (K.facts b).weak_keys L || is_union (K.facts a).strong_keys (K.facts b).strong_keys L

  -- so it is, or they are a key of either
  abbrev pub joins_keys : ℕ → ℕ → Key → Bool
  joins_keys a b L = (is_key a L || is_key b L) || are_keys a b L

  module _ (instances : List TableInstance) where
    -- whether a line may give them as a key, by its operator: no other columns are one
    abbrev pub may_be_key : Expr → Key → Bool
    may_be_key (Get o) L = by_table (slice_get instances o) (WeakKey L)
    may_be_key (Select C x) L = is_key x L
    may_be_key (Join C a b) L = joins_keys a b L
    may_be_key (LeftJoin C a b) L = joins_keys a b L
    may_be_key (Semi C a b) L = is_key a L
    may_be_key (Anti S M a b) L = is_key a L
    may_be_key (Keep N x) L = is_key x L
    may_be_key (Distinct x) L = is_key x L || is_same_set L (K.columns x)
    may_be_key (Group N G x) L = is_same_set L N

-- ---- what is found

module _ (instances : List TableInstance) (K : Knowledge) (l : matches.Line) where
  -- a fact that the line lacks
  pub record LacksFact (f : Fact) : Type 0 where
    pub rises : IsStrictlyIncreasing (fact_columns f)
    pub lacks : lacks_fact instances K l f ≡ true

  -- it lacks no key of these columns
  pub record HasKey (L : Key) : Type 0 where
    pub weak : lacks_fact instances K l (WeakKey L) ≡ false
    pub strong : lacks_fact instances K l (StrongKey L) ≡ false

  -- nor one of columns that pass
  abbrev pub HasKeys : (Key → Bool) → Type 0
  HasKeys p = (L : Key) → IsStrictlyIncreasing L → p L ≡ true → HasKey L

  -- nor that a column is nowhere Null
  abbrev pub HasColumn : ℕ → Type 0
  HasColumn c = lacks_fact instances K l (NotNull c) ≡ false

  -- a fact that the line lacks; where there is none, it is so
  abbrev pub Told : Type 0 → Option Fact → Type 0
  Told P (Some f) = LacksFact f
  Told P None = P

  abbrev pub FactTold : Fact → Option Fact → Type 0
  FactTold f found = Told (lacks_fact instances K l f ≡ false) found

  abbrev pub KeysTold : (Key → Bool) → Option Fact → Type 0
  KeysTold p found = Told (HasKeys p) found

  abbrev pub EachTold : {A : Type 0} → (A → Type 0) → List A → Option Fact → Type 0
  EachTold P xs found = Told (AllByRecursion P xs) found

  abbrev pub LineTold : Option Fact → Type 0
  LineTold found = Told ((f : Fact) → IsStrictlyIncreasing (fact_columns f) → lacks_fact instances K l f ≡ false) found
