-- Facts of the rows of a class, and sets of them.
use Rattle.std.specs.Prelude.{◌≡◌, ℕ, true, Bool, not, ◌==◌, List, [], ◌∷◌, ◌++◌, length, Option, Some, None, Box}
use Rattle.algebra.specs.Columns.{has, is_subset, rising}
use Rattle.algebra.specs.Bags.{Bag}
use Rattle.laws.specs.Keys.{HasNoNull, IsWeakKey, IsStrongKey}
use Rattle.props.specs.declared.fact.Fact.{Fact}
use Rattle.props.specs.declared.fact.Fact.TheVariants.{NotNull, WeakKey, StrongKey}
use Rattle.props.specs.declared.fact.FactSets.{FactSets}
use Rattle.props.specs.Keys.{has_key, with_key, with_keys}

-- what a fact says of rows
abbrev pub FactHolds : Bag → Fact → Type 0
FactHolds x (NotNull c) = HasNoNull c x
FactHolds x (WeakKey K) = IsWeakKey K x
FactHolds x (StrongKey K) = IsStrongKey K x

-- the columns of which it speaks
abbrev pub fact_columns : Fact → List ℕ
fact_columns (NotNull c) = c ∷ []
fact_columns (WeakKey K) = K
fact_columns (StrongKey K) = K

-- whether a fact is among those that are known
abbrev pub knows : FactSets → Fact → Bool
knows F (NotNull c) = has F.not_null c
knows F (WeakKey K) = has_key F.weak_keys K
knows F (StrongKey K) = has_key F.strong_keys K

abbrev pub no_facts : FactSets
no_facts = record { not_null = []; weak_keys = []; strong_keys = [] }

-- the facts of a block; none where there is no block
abbrev pub facts_in : {A : Type 0} → Option (Box FactSets A) → FactSets
facts_in None = no_facts
facts_in (Some sets) = sets.value

-- the facts with one more
abbrev pub with_fact : FactSets → Fact → FactSets
with_fact F (NotNull c) = record { not_null = rising (F.not_null ++ c ∷ []); weak_keys = F.weak_keys; strong_keys = F.strong_keys }
with_fact F (WeakKey L) = record { not_null = F.not_null; weak_keys = with_key F.weak_keys L; strong_keys = F.strong_keys }
with_fact F (StrongKey L) = record { not_null = F.not_null; weak_keys = F.weak_keys; strong_keys = with_key F.strong_keys L }

-- the facts of both
abbrev pub with_facts : FactSets → FactSets → FactSets
with_facts F G = record {
  not_null = rising (F.not_null ++ G.not_null);
  weak_keys = with_keys F.weak_keys G.weak_keys;
  strong_keys = with_keys F.strong_keys G.strong_keys;
}

abbrev pub any_key : List (List ℕ) → Bool
any_key keys = not (length keys == 0)

abbrev pub has_strong_key : FactSets → Bool
has_strong_key F = any_key F.strong_keys

-- each fact that is known holds of the rows, and speaks of their columns
abbrev pub FactsHold : List ℕ → Bag → FactSets → Type 0
FactsHold columns x F = (f : Fact) → knows F f ≡ true → (is_subset (fact_columns f) columns ≡ true) × FactHolds x f
