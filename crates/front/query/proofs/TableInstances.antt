-- The table instances of a query over a schema.
use Rattle.std.proofs.Common.{◌≡◌, ap, sym, ℕ, List, [], ◌∷◌, map, length, slice_index_or, Some}
use Prim.Native.Nat.{zero, suc}
use Rattle.std.specs.List.{AllByRecursion, slice_get}
use Rattle.schema.specs.declared.schema.Table.{Table}
use Rattle.schema.specs.declared.schema.Schema.{Schema}
use Rattle.schema.specs.Databases.{Database}
use Rattle.query.specs.declared.query.TableInstance.{TableInstance}
use Rattle.query.specs.Bound.{IsOver}
use Rattle.query.specs.Rows.{tables_of}

get-width : (tables : List Table) (k : ℕ) (entry : Table) → slice_get tables k ≡ Some entry → length entry.columns ≡ slice_index_or (map (λ t. length t.columns) tables) k 0
get-width [] k entry is = cc is
get-width (t ∷ tables) zero entry is = let same : t ≡ entry = cc is in ap (λ e. length e.columns) (sym same)
get-width (t ∷ tables) (suc k) entry is = get-width tables k entry is

-- in each database of the schema they are as wide as their tables
pub instances-wide : (S : Schema) (D : Database) (instances : List TableInstance) → AllByRecursion (IsOver S) instances → AllByRecursion (λ t. length t.entry.columns ≡ (tables_of S D).width t.table) instances
instances-wide S D [] over = tt
instances-wide S D (t ∷ instances) over = (get-width S.tables t.table t.entry over.0, instances-wide S D instances over.1)
