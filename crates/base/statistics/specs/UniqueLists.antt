-- When an index holds a unique list whose columns are all NOT NULL, and so no two rows have one key of it; when it is one unique column.
use Rattle.std.specs.Prelude.{ℕ, Bool, false, List, [], ◌∷◌, slice_index_or, ◌&&◌, ◌==◌, Option, Some, None, slice_get}
use Rattle.std.specs.List.{list_any, list_all}
use Rattle.schema.specs.declared.schema.Column.{Column}
use Rattle.schema.specs.declared.schema.Table.{Table}
use Rattle.schema.specs.Databases.{Row}
use Rattle.values.specs.Truth.{is_null}
use Rattle.values.specs.declared.value.Value.TheVariants as value

abbrev pub is_not_null : Option Column → Bool
is_not_null None = false
is_not_null (Some c) = c.not_null

abbrev pub is_not_null_at : List Column → ℕ → Bool
is_not_null_at columns place = is_not_null (slice_get columns place)

-- the list's places are among these, and their columns NOT NULL
abbrev pub is_held : List Column → List ℕ → List ℕ → Bool
is_held columns places list = list_all (λ p. list_any (λ q. q == p) places && is_not_null_at columns p) list

abbrev pub holds_unique_list : Table → List ℕ → Bool
holds_unique_list table places = list_any (is_held table.columns places) table.unique

-- ---- one column, which may have Nulls

abbrev pub is_single : ℕ → List ℕ → Bool
is_single place [] = false
is_single place (p ∷ []) = p == place
is_single place (p ∷ q ∷ ps) = false

abbrev pub is_unique_column : Table → ℕ → Bool
is_unique_column table place = list_any (is_single place) table.unique

abbrev pub is_null_at : ℕ → Row → Bool
is_null_at place row = is_null (slice_index_or row place value.Null)
