-- The rows of a table under a table instance's heading, one by one, and the indexes that sort them.
use Rattle.std.proofs.Common.{◌≡◌, sym, subst, ℕ, true, List, [], get_or, slice_get, Option, Some, None}
use Rattle.std.specs.List.{range_with_len}
use Rattle.schema.specs.Databases.{Row}
use Rattle.query.specs.declared.query.TableInstance.{TableInstance}
use Rattle.algebra.specs.Bags.{Env}
use Rattle.algebra.specs.Columns.{is_subset}
use Rattle.algebra.specs.Expressions.{get_columns}
use Rattle.physical.specs.declared.plan.IndexAccess.{IndexAccess}
use Rattle.physical.specs.Indexes.{columns_of_index, index_columns}
use Rattle.index_access.specs.Cuts.{AreByIndex}
use Rattle.index_access.proofs.TableIndexes.{index_sorts}
use Rattle.operators.specs.Sources.{AreTableRows, IsAccessed, IsIndexOf, table_rows}

sorts-of : (instance : Option TableInstance) (tables : List (List Row)) (index : ℕ) (numbers : List ℕ) (e : Env) (count : ℕ) (row : ℕ → Env) → AreTableRows instance tables e count row
    → is_subset (columns_of_index instance index) (get_columns instance) ≡ true → IsIndexOf instance tables index numbers → AreByIndex row (columns_of_index instance index) (range_with_len 0 count) numbers
sorts-of None tables index numbers e count row rows own sorted = absurd sorted
sorts-of (Some t) tables index numbers e count row rows own sorted =
    subst (λ (n : ℕ). AreByIndex row (columns_of_index (Some t) index) (range_with_len 0 n) numbers) (sym rows.0)
    (index_sorts t (table_rows tables t.table) e row rows.1 (get_or t.entry.indexes index []) numbers own sorted)

-- an index that is accessed sorts the rows of the table instance
pub accessed_sorts : (instances : List TableInstance) (tables : List (List Row)) (a : IndexAccess) (numbers : List ℕ) (e : Env) (count : ℕ) (row : ℕ → Env) → AreTableRows (slice_get instances a.instance) tables e count row → IsAccessed instances tables a numbers
    → AreByIndex row (index_columns instances a) (range_with_len 0 count) numbers
accessed_sorts instances tables a numbers e count row rows accessed = sorts-of (slice_get instances a.instance) tables a.index numbers e count row rows accessed.own accessed.index
