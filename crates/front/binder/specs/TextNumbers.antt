-- The numbers of a bound query, in the order of its text (this project's profile of SQL).
use Rattle.std.specs.Prelude.{◌≡◌, ℕ, List, [], ◌∷◌, ◌++◌, length, map, take, sum_by, slice_get, Option, Some, None}
use Rattle.std.specs.List.{range_with_len}
use Rattle.query.specs.declared.query.Block.{Block}
use Rattle.query.specs.declared.query.Cond.{Cond}
use Rattle.query.specs.declared.query.Cond.TheFolds.{fold-Cond, fold-From, fold-Block}
use Rattle.query.specs.declared.query.Cond.TheOpen.{Cond-F, From-F, Block-F}
use Rattle.query.specs.declared.query.From.{From}
use Rattle.query.specs.declared.query.Item.{Item}
use Rattle.query.specs.declared.query.TableReference.{TableReference}
use Rattle.query.specs.declared.query.Query.{Query}
use Rattle.query.specs.declared.query.TableInstance.{TableInstance}
use Rattle.query.specs.Bound.{aggregate_numbers}

-- What stands in a part: its instances, as they stand in the text, and the numbers of its aggregates, SELECT by SELECT from
-- the outside, those of a HAVING behind all others in its SELECT.
pub record Listing : Type 0 where
  pub references : List TableReference
  pub aggregates : List ℕ

abbrev pub no_listing : Listing
no_listing = record { references = []; aggregates = [] }

abbrev pub one_listing : TableReference → Listing
one_listing o = record { references = o ∷ []; aggregates = [] }

abbrev pub both_listings : Listing → Listing → Listing
both_listings a b = record { references = a.references ++ b.references; aggregates = a.aggregates ++ b.aggregates }

abbrev pub all_listings : List Listing → Listing
all_listings [] = no_listing
all_listings (x ∷ xs) = both_listings x (all_listings xs)

abbrev pub filter_listing : Option Listing → Listing
filter_listing None = no_listing
filter_listing (Some x) = x

abbrev pub cond_layer : Cond-F Listing Listing Listing → Listing
cond_layer (Cond-F.Compare op a b) = no_listing
cond_layer (Cond-F.IsNull a) = no_listing
cond_layer (Cond-F.Not c) = c
cond_layer (Cond-F.And cs) = all_listings cs
cond_layer (Cond-F.Or cs) = all_listings cs
cond_layer (Cond-F.Exists q) = q
cond_layer (Cond-F.In a q) = q

abbrev pub from_layer : From-F Listing Listing Listing → Listing
from_layer (From-F.Table o) = one_listing o
from_layer (From-F.Join f o on) = both_listings f (both_listings (one_listing o) on)
from_layer (From-F.LeftJoin f o on) = both_listings f (both_listings (one_listing o) on)
from_layer (From-F.Comma f g) = both_listings f g

abbrev pub items_listing : List Item → Listing
items_listing items = record { references = []; aggregates = aggregate_numbers items }

abbrev pub block_layer : Block-F Listing Listing Listing → Listing
block_layer x = both_listings (items_listing x.items) (both_listings x.from (both_listings (filter_listing x.filter) (both_listings (filter_listing x.having) (items_listing x.having_items))))

unfoldable pub cond_listing : Cond → Listing
cond_listing = fold-Cond Listing Listing Listing cond_layer from_layer block_layer

unfoldable pub from_listing : From → Listing
from_listing = fold-From Listing Listing Listing cond_layer from_layer block_layer

unfoldable pub block_listing : Block → Listing
block_listing = fold-Block Listing Listing Listing cond_layer from_layer block_layer

-- how many columns table instances have together
abbrev pub columns_together : List TableInstance → ℕ
columns_together = sum_by (λ t. length t.entry.columns)

pub record IsNumbered (q : Query) : Type 0 where
  -- the table instances have the numbers 0, 1, 2 and so on as they stand in the text, and are listed by them
  pub numbers : map (λ o. o.number) (block_listing q.block).references ≡ range_with_len 0 (length q.tables)
  pub tables : map (λ o. o.table) (block_listing q.block).references ≡ map (λ t. t.table) q.tables
  -- their columns are numbered on, from one instance to the next
  pub columns : (i : ℕ) (t : TableInstance) → slice_get q.tables i ≡ Some t → t.first_column ≡ columns_together (take i q.tables)
  -- and behind all of these the aggregates
  pub aggregates : (block_listing q.block).aggregates ≡ range_with_len (columns_together q.tables) (length (block_listing q.block).aggregates)
