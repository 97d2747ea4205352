-- The meaning of conditions, FROMs and blocks in its computing form: lists of rows by nested loops.
-- WHERE, IN and EXISTS: Guagliardo and Libkin, PVLDB 11(1), 2017. Joins with ON, groups and aggregates are this project's
-- profile of SQL.
use Rattle.std.specs.Prelude.{ℕ, ◌+◌, ◌==◌, Bool, true, false, not, if◌then◌else◌, List, [], ◌∷◌, ◌++◌, map, filter, flat_map, fold, Option, Some, None}
use Rattle.values.specs.declared.truth.Truth.{Truth}
use Rattle.values.specs.declared.truth.Truth.TheVariants.{False, True}
use Rattle.values.specs.declared.truth.Comparison.TheVariants as by
use Rattle.values.specs.declared.value.Value.{Value}
use Rattle.values.specs.declared.value.Value.TheVariants as value
use Rattle.values.specs.Truth.{negation, conjunction, disjunction, truth_of, is_true, is_null, compare}
use Rattle.schema.specs.Databases.{Row}
use Rattle.query.specs.declared.query.Item.{Item}
use Rattle.query.specs.declared.query.Item.TheVariants as item
use Rattle.query.specs.declared.query.Cond.{Cond}
use Rattle.query.specs.declared.query.From.{From}
use Rattle.query.specs.declared.query.Block.{Block}
use Rattle.query.specs.declared.query.Cond.TheOpen.{Cond-F, From-F, Block-F}
use Rattle.query.specs.declared.query.Cond.TheFolds.{fold-Cond, fold-From, fold-Block}
use Rattle.query.specs.Rows.{Env, Tables, value_at, column, term_value, nulls, count, distinct}
use Rattle.query.specs.Aggregates.{Group, aggregate, groups}

abbrev pub CondMeaning : Type 0
CondMeaning = Tables → Env → Truth

abbrev pub RowsMeaning : Type 0
RowsMeaning = Tables → Env → List Row

-- ---- conditions

-- AND of a list, from the left
abbrev pub all_of : List Truth → Truth
all_of = fold conjunction True

-- OR of a list, from the left
abbrev pub any_of : List Truth → Truth
any_of = fold disjunction False

abbrev pub is_empty : List Row → Bool
is_empty [] = true
is_empty (r ∷ rows) = false

-- whether a value equals the one value of a row
abbrev pub equals_row : Value → Row → Truth
equals_row v r = compare by.Equal v (value_at 0 r)

-- what a condition is, given the meaning of its parts
abbrev pub cond_layer : Cond-F CondMeaning RowsMeaning RowsMeaning → CondMeaning
cond_layer (Cond-F.Compare c a b) D e = compare c (term_value a e) (term_value b e)
cond_layer (Cond-F.IsNull a) D e = truth_of (is_null (term_value a e))
cond_layer (Cond-F.Not c) D e = negation (c D e)
cond_layer (Cond-F.And cs) D e = all_of (map (λ c. c D e) cs)
cond_layer (Cond-F.Or cs) D e = any_of (map (λ c. c D e) cs)
cond_layer (Cond-F.Exists q) D e = truth_of (not (is_empty (q D e)))
cond_layer (Cond-F.In a q) D e = any_of (map (equals_row (term_value a e)) (q D e))

-- ---- FROM

-- an ON or a WHERE holds of a row where it is true, and not where it is unknown
abbrev pub passes : CondMeaning → Tables → Env → Row → Bool
passes c D e s = is_true (c D (s ∷ e))

-- an absent WHERE holds of each row, an absent HAVING of each group
abbrev pub passes_filter : Option CondMeaning → Tables → Env → Row → Bool
passes_filter None D e s = true
passes_filter (Some c) D e s = passes c D e s

-- a left row with each right row
abbrev pub pairs_of : Row → List Row → List Row
pairs_of l rows = map (λ r. l ++ r) rows

-- a left row with each right row at which the ON holds of both
abbrev pub matches : CondMeaning → ℕ → Tables → Env → Row → List Row
matches on t D e l = filter (passes on D e) (pairs_of l (D.rows t))

-- a row in place of no rows
abbrev pub or_else_row : {X : Type 0} → X → List X → List X
or_else_row pad [] = pad ∷ []
or_else_row pad (s ∷ rows) = s ∷ rows

-- a left row's matches, or where it has none the left row with Nulls
abbrev pub padded : CondMeaning → ℕ → Tables → Env → Row → List Row
padded on t D e l = or_else_row (l ++ nulls (D.width t)) (matches on t D e l)

-- the rows of a FROM, given the meaning of its parts
abbrev pub from_layer : From-F CondMeaning RowsMeaning RowsMeaning → RowsMeaning
from_layer (From-F.Table o) D e = D.rows o.table
from_layer (From-F.Join f o on) D e = flat_map (matches on o.table D e) (f D e)
from_layer (From-F.LeftJoin f o on) D e = flat_map (padded on o.table D e) (f D e)
from_layer (From-F.Comma f g) D e = flat_map (λ l. pairs_of l (g D e)) (f D e)

-- ---- blocks

-- an item of a row; an aggregate stands in grouped blocks alone
abbrev pub item_of_row : Env → Row → Item → Value
item_of_row e s (item.Column c) = column c (s ∷ e)
item_of_row e s (item.Aggregate n a) = value.Null

-- a key's value, by the place of its column
abbrev pub key_value : List ℕ → Row → ℕ → Value
key_value [] key place = value.Null
key_value (k ∷ keys) [] place = value.Null
key_value (k ∷ keys) (v ∷ key) place = if k == place then v else key_value keys key place

-- an item of a group: a column of the own FROM is a key
abbrev pub item_of_group : List ℕ → Env → Group → Item → Value
item_of_group keys e g (item.Column c) = if c.level == 0 then key_value keys g.key c.place else column c ([] ∷ e)
item_of_group keys e g (item.Aggregate n a) = aggregate a g.rows

-- the row that items show of a row of FROM
abbrev pub row_of_row : Env → List Item → Row → Row
row_of_row e items s = map (item_of_row e s) items

-- the row that items show of a group
abbrev pub row_of_group : List ℕ → Env → List Item → Group → Row
row_of_group keys e items g = map (item_of_group keys e g) items

-- what the items show of the rows of FROM at which the WHERE holds, or of their groups: of those alone whose row of HAVING's
-- items passes
abbrev pub all_shown : Bool → List ℕ → List Item → (Row → Bool) → List Item → Env → List Row → List Row
all_shown false keys asked keeps items e source = map (row_of_row e items) (filter (λ s. keeps (row_of_row e asked s)) source)
all_shown true keys asked keeps items e source = map (row_of_group keys e items) (filter (λ g. keeps (row_of_group keys e asked g)) (groups keys source))

-- the same, each row once with DISTINCT
abbrev pub shown : Bool → Bool → List ℕ → List Item → (Row → Bool) → List Item → Env → List Row → List Row
shown false grouped keys asked keeps items e source = all_shown grouped keys asked keeps items e source
shown true grouped keys asked keeps items e source = distinct (all_shown grouped keys asked keeps items e source)

-- the rows of a block, given the meaning of its parts; HAVING sees nothing but what its items show
abbrev pub block_layer : Block-F CondMeaning RowsMeaning RowsMeaning → RowsMeaning
block_layer q D e = shown q.distinct q.grouped q.keys q.having_items (passes_filter q.having D []) q.items e (filter (passes_filter q.filter D e) (q.from D e))

-- ---- the whole

-- whether a condition is true
unfoldable pub truth : Cond → CondMeaning
truth = fold-Cond CondMeaning RowsMeaning RowsMeaning cond_layer from_layer block_layer

-- the rows of a FROM
unfoldable pub source : From → RowsMeaning
source = fold-From CondMeaning RowsMeaning RowsMeaning cond_layer from_layer block_layer

-- the rows of a block
unfoldable pub rows : Block → RowsMeaning
rows = fold-Block CondMeaning RowsMeaning RowsMeaning cond_layer from_layer block_layer

-- how often a row comes out of a FROM
abbrev pub src : From → Tables → Env → Row → ℕ
src f D e s = count s (source f D e)

-- how often a row answers a block
abbrev pub often : Block → Tables → Env → Row → ℕ
often q D e r = count r (rows q D e)

-- ---- how wide a FROM's row is

abbrev pub Width : Type 0
Width = Tables → ℕ

-- how many columns a FROM has, given those of its parts
abbrev pub width_layer : From-F (Unit {0}) Width (Unit {0}) → Width
width_layer (From-F.Table o) D = D.width o.table
width_layer (From-F.Join f o on) D = f D + D.width o.table
width_layer (From-F.LeftJoin f o on) D = f D + D.width o.table
width_layer (From-F.Comma f g) D = f D + g D

-- how many columns a FROM has
unfoldable pub from_width : From → Width
from_width = fold-From (Unit {0}) Width (Unit {0}) (λ c. tt) width_layer (λ q. tt)
