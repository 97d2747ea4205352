-- What is known of classes: their columns and free columns, which of them are the same, and facts.
use Rattle.std.specs.Prelude.{◌≡◌, ℕ, Bool, ◌==◌, true, List, slice_index_or, slice_get, Option, Some, None}
use Rattle.algebra.specs.Columns.{ColumnSet}
use Rattle.algebra.specs.Bags.{Bag, SameBag}
use Rattle.algebra.specs.Expressions.{Classes}
use Rattle.algebra.specs.GivenColumns.{given_columns, given_free}
use Rattle.laws.specs.Fitting.{AreFitting}
use Rattle.props.specs.declared.fact.FactSets.{FactSets}
use Rattle.props.specs.declared.known.KnownClasses.{KnownClasses}
use Rattle.props.specs.Facts as facts

pub record Knowledge : Type 0 where
  pub columns : ℕ → List ℕ
  pub free : ℕ → ColumnSet
  -- one class for all that are the same
  pub root : ℕ → ℕ
  -- the facts of a class and of those that are the same
  pub facts : ℕ → FactSets

-- whether two classes are known to be the same
abbrev pub are_same : Knowledge → ℕ → ℕ → Bool
are_same K g h = K.root g == K.root h

abbrev pub has_strong_key : Knowledge → ℕ → Bool
has_strong_key K g = facts.has_strong_key (K.facts g)

-- ---- as code is given it

abbrev pub root_of : List ℕ → ℕ → Option ℕ → ℕ
root_of roots g None = g
root_of roots g (Some set) = slice_index_or roots set g

abbrev pub root_in : List ℕ → List ℕ → ℕ → ℕ
root_in sets roots g = root_of roots g (slice_get sets g)

abbrev pub facts_or_none : Option FactSets → FactSets
facts_or_none (Some F) = F
facts_or_none None = facts.no_facts

abbrev pub facts_at : List FactSets → Option ℕ → Option FactSets
facts_at facts None = None
facts_at facts (Some set) = slice_get facts set

abbrev pub set_facts : List ℕ → List FactSets → ℕ → Option FactSets
set_facts sets facts g = facts_at facts (slice_get sets g)

abbrev pub known : KnownClasses → Knowledge
known given = record {
  columns = given_columns given.columns;
  free = given_free given.columns;
  root = root_in given.sets.now given.roots.now;
  facts = λ g. facts_or_none (set_facts given.sets.now given.facts.now g);
}

-- ---- what it says of the rows

-- the classes with their rows
abbrev pub with_rows : Knowledge → (ℕ → Bag) → Classes
with_rows K rows = record { rows = rows; columns = K.columns; free = K.free }

-- rows of the classes in a database of which all this is true
pub record IsTrueOf (K : Knowledge) (rows : ℕ → Bag) : Type 0 where
  pub fits : AreFitting (with_rows K rows)
  pub same : (g h : ℕ) → are_same K g h ≡ true → (K.columns g ≡ K.columns h) × SameBag (rows g) (rows h)
  pub facts : (g : ℕ) → facts.FactsHold (K.columns g) (rows g) (K.facts g)
