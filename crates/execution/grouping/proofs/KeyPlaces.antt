-- The columns of groups, by the places that they have in the keys.
use Rattle.std.proofs.Common.{◌≡◌, refl, ap, sym, ◌∙◌, ℕ, zero, suc, ◌<◌, ◌==◌, Bool, true, false, ◌||◌, if◌then◌else◌, eq-eqb, List, [], ◌∷◌, filter, length, get_or, map, Option, Some, None, MatchOption, arith}
use Rattle.std.specs.List.{range_with_len}
use Rattle.std.proofs.lemmas.List.{get_or-map}
use mathlib.Core.List.{map-map}
use Rattle.values.specs.declared.value.Value.TheVariants.{Null}
use Rattle.schema.specs.Databases.{Row}
use Rattle.algebra.specs.Columns.{has}
use Rattle.algebra.specs.Bags.{Env, lay, nulls}
use Rattle.grouping.specs.Groups.{GroupOf, first_seen}
use Rattle.grouping.specs.GroupTables.{groups_seen, keys_seen, row_key, same_key}
use Rattle.grouping.specs.KeyTables.{placed_value}

has-at : (K : List ℕ) (place column : ℕ) → place < length K → get_or K place 0 ≡ column → has K column ≡ true
has-at [] place column below is = absurd (omega (arith, below))
has-at (k ∷ K) zero column below is = ap (λ b. b || has K column) (eq-eqb k column is)
has-at (k ∷ K) (suc place) column below is = by (k == column) (has-at K place column (omega (arith, below)) is)
  where
    by : (b : Bool) → has K column ≡ true → (b || has K column) ≡ true
    by true there = refl
    by false there = there

-- it is the column of a row with the key, if the keys have it
pub placed : (K : List ℕ) (column : ℕ) (place : Option ℕ) (r : Env) → MatchOption place (has K column ≡ false) (λ p. (p < length K) × (get_or K p 0 ≡ column)) → placed_value place (map r K) ≡ lay (has K) r nulls column
placed K column None r absent = sym (ap (λ b. if b then r column else nulls column) absent)
placed K column (Some place) r at =
    get_or-map r K place 0 Null at.0 ∙ ap r at.1 ∙ sym (ap (λ b. if b then r column else nulls column) (has-at K place column at.0 at.1))

-- of the rows that were seen first
pub placed-groups : (row : ℕ → Env) (K : List ℕ) (column : ℕ) (place : Option ℕ) (count : ℕ) → MatchOption place (has K column ≡ false) (λ p. (p < length K) × (get_or K p 0 ≡ column))
    → map (placed_value place) (keys_seen (row_key row K) count) ≡ map (λ group. lay (has K) (row group.first) nulls column) (groups_seen (row_key row K) count)
placed-groups row K column place count at =
    let key : ℕ → Row = row_key row K in
    let firsts : List ℕ = first_seen (same_key key) (range_with_len 0 count) in
    let found : ℕ → GroupOf ℕ = λ n. record { first = n; rows = filter (same_key key n) (range_with_len 0 count) } in
    map-map (placed_value place) key firsts
    ∙ (λ i. map (λ n. placed K column place (row n) at i) firsts)
    ∙ sym (map-map (λ (group : GroupOf ℕ). lay (has K) (row group.first) nulls column) found firsts)
