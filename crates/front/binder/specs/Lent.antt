-- What the binder keeps by hash or is lent, as the specification sees it.
use Rattle.std.specs.Prelude.{◌≡◌, ◌+◌, ℕ, List, [], ◌∷◌, length, map, bytes_eq, Option, Some, None, option_map}
use Rattle.std.specs.Borrow.{Bor}
use Rattle.std.specs.HashMap as hash
use Rattle.std.specs.HashMap.{HashMap}
use Rattle.schema.specs.declared.schema.Kind.{Kind}
use Rattle.schema.specs.declared.schema.Table.{Table}
use Rattle.binder.specs.declared.scope.LentTable.{LentTable}
use Rattle.binder.specs.declared.scope.Placed.{Placed}
use Rattle.binder.specs.declared.scope.Meaning.{Meaning}
use Rattle.binder.specs.declared.scope.Meaning.TheVariants.{One, Several}
use Rattle.binder.specs.Scopes.{Known, Scope, named_in, instance_named}

abbrev pub known_of : LentTable → Known
known_of t = record { name = t.name.now; entry = t.entry.now }

abbrev pub scope_of : List LentTable → Scope
scope_of tables = map known_of tables

-- how many columns a FROM has
abbrev pub width : Scope → ℕ
width [] = 0
width (o ∷ scope) = length o.entry.columns + width scope

abbrev pub placed_of : Placed → ℕ × Table
placed_of p = (p.first_place, p.entry.now)

-- what the columns of a name are, in short
abbrev pub meaning_of : List (ℕ × Kind) → Option Meaning
meaning_of [] = None
meaning_of (found ∷ []) = Some (One found.0 found.1)
meaning_of (found ∷ other ∷ more) = Some Several

-- the same with one more column of the name
abbrev pub one_more : Option Meaning → ℕ × Kind → Option Meaning
one_more None found = Some (One found.0 found.1)
one_more (Some meaning) found = Some Several

-- the same with these columns of the name
abbrev pub with_more : Option Meaning → List (ℕ × Kind) → Option Meaning
with_more meaning [] = meaning
with_more meaning (found ∷ more) = with_more (one_more meaning found) more

-- the maps answer as the list of tables does
pub record IsIndexed {S T : Type 0} (scope : Scope) (by_name : HashMap (Bor (List ℕ)) Placed S) (columns : HashMap (Bor (List ℕ)) Meaning T) (places : ℕ) : Type 0 where
  pub finds_tables : (q : List ℕ) → option_map placed_of (hash.get_by (λ k. bytes_eq q k.now) by_name) ≡ instance_named q 0 scope
  pub finds_columns : (q : List ℕ) → hash.get_by (λ k. bytes_eq q k.now) columns ≡ meaning_of (named_in q 0 scope)
  pub counts : places ≡ width scope
