-- Keys by columns, and one more.
use Rattle.std.proofs.Common.{◌≡◌, refl, ap, sym, ◌∙◌, ℕ, zero, suc, [], ◌∷◌, ◌++◌, ◌<◌, ◌≤◌, List, length, get_or, map, replicate, Option, None, Some, arith}
use Rattle.std.specs.List.{AllByRecursion}
use Rattle.std.proofs.lemmas.List.{get_or-map, length-map, map-append}
use Rattle.values.proofs.Lists.{all_append, all_at}
use Rattle.values.specs.declared.value.Value.{Value}
use Rattle.values.specs.declared.value.Value.TheVariants.{Null}
use Rattle.schema.specs.Databases.{Row}
use Rattle.relations.specs.declared.made_columns.MadeColumn.{MadeColumn}
use Rattle.relations.specs.MadeColumns.{made_values}
use Rattle.grouping.specs.declared.key_table.KeyTable.{KeyTable}
use Rattle.grouping.specs.KeyBuckets.{AreHashed}
use Rattle.grouping.specs.KeyTables.{HasKeys, kept_columns, placed_value}

-- the value at a place of the key with a number
pub kept-value : (width : ℕ) (keys : List Row) (t : KeyTable) → HasKeys width keys t → (place group : ℕ) (column : MadeColumn) → place < width → group < length keys → made_values column ≡ get_or (kept_columns t) place []
    → get_or (made_values column) group Null ≡ get_or (get_or keys group []) place Null
kept-value width keys t is place group column below within at =
    ap (λ l. get_or l group Null) (at ∙ is.columns_are place below) ∙ get_or-map (placed_value (Some place)) keys group [] Null within

pub kept-width : (width : ℕ) (keys : List Row) (t : KeyTable) → HasKeys width keys t → (group : ℕ) → group < length keys → length (get_or keys group []) ≡ width
kept-width width keys t is group within = all_at (λ (key : Row). length key ≡ width) keys group [] within is.wide

-- one key more, where each column has its value
pub keys-more : (width : ℕ) (keys : List Row) (key : Row) (old new : KeyTable) → HasKeys width keys old → length key ≡ width → length new.columns.items ≡ width
    → ((place : ℕ) → place < width → get_or (kept_columns new) place [] ≡ get_or (kept_columns old) place [] ++ get_or key place Null ∷ []) → AreHashed (keys ++ key ∷ []) new.hashes
    → HasKeys width (keys ++ key ∷ []) new
keys-more width keys key old new is wide columns more hashed = record {
  width_is = columns;
  columns_are = λ place below. more place below ∙ ap (λ l. l ++ get_or key place Null ∷ []) (is.columns_are place below) ∙ sym (map-append (placed_value (Some place)) keys (key ∷ []));
  wide = all_append (λ (k : Row). length k ≡ width) keys (key ∷ []) is.wide (wide, tt);
  hashed = hashed;
}

-- past their width the keys have no value
pub none-placed : (width place : ℕ) (keys : List Row) → width ≤ place → AllByRecursion (λ key. length key ≡ width) keys → replicate (length keys) Null ≡ map (placed_value (Some place)) keys
none-placed width place [] past wide = refl
none-placed width place (key ∷ keys) past wide =
    ap (λ v. v ∷ replicate (length keys) Null) (sym (past-end key place (omega (arith, past, wide.0)))) ∙ ap (λ l. get_or key place Null ∷ l) (none-placed width place keys past wide.1)
  where
    past-end : (xs : Row) (n : ℕ) → length xs ≤ n → get_or xs n Null ≡ Null
    past-end [] n far = refl
    past-end (x ∷ xs) zero far = absurd (omega (arith, far))
    past-end (x ∷ xs) (suc n) far = past-end xs n (omega (arith, far))

pub null-placed : (keys : List Row) → replicate (length keys) Null ≡ map (placed_value None) keys
null-placed [] = refl
null-placed (key ∷ keys) = ap (λ l. Null ∷ l) (null-placed keys)
