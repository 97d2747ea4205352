-- The frame of a query of the whole language: the expressions that found its classes, the last of which is the query's own.
-- What stands in the frame and in which order is this project's profile.
use Rattle.std.specs.Prelude.{◌≡◌, ℕ, ◌==◌, Bool, true, false, if◌then◌else◌, List, [], ◌∷◌, ◌++◌, length, map, reverse, Option, Some, None}
use Rattle.std.specs.List.{AllByRecursion}
use Rattle.schema.specs.Databases.{Row}
use Rattle.query.specs.declared.query.Term as named
use Rattle.query.specs.declared.query.Term.TheVariants as place
use Rattle.query.specs.declared.query.Aggregate.{Aggregate}
use Rattle.query.specs.declared.query.Aggregate.TheVariants as by
use Rattle.query.specs.declared.query.Item.{Item}
use Rattle.query.specs.declared.query.Item.TheVariants as item
use Rattle.query.specs.declared.query.TableReference.{TableReference}
use Rattle.query.specs.declared.query.TableInstance.{TableInstance}
use Rattle.query.specs.declared.query.Cond.{Cond}
use Rattle.query.specs.declared.query.From.{From}
use Rattle.query.specs.declared.query.Block.{Block}
use Rattle.query.specs.declared.query.Query.{Query}
use Rattle.query.specs.declared.query.Cond.TheOpen.{Cond-F, From-F, Block-F}
use Rattle.query.specs.declared.query.Cond.TheFolds.{fold-Cond, fold-From, fold-Block}
use Rattle.query.specs.Rows.{Tables, IsFitting, count}
use Rattle.query.specs.Meaning.{often}
use Rattle.query.specs.Bound.{is_bound, Scope, number, number_at, instance_numbers, item_number, having_scope}
use Rattle.algebra.specs.declared.condition.Term.{Term}
use Rattle.algebra.specs.declared.condition.Term.TheVariants as term
use Rattle.algebra.specs.declared.condition.Condition.{Condition}
use Rattle.algebra.specs.declared.condition.Condition.TheVariants.{Compare, IsNull, Not, Exists, In}
use Rattle.algebra.specs.declared.expr.Aggregation.{Aggregation}
use Rattle.algebra.specs.declared.expr.Expr.{Expr}
use Rattle.algebra.specs.declared.expr.Expr.TheVariants.{Get, Select, Join, LeftJoin, Semi, Anti, Keep, Distinct, Group}
use Rattle.algebra.specs.AggregateOrder.{by_column}
use Rattle.algebra.specs.Columns.{rising}
use Rattle.algebra.specs.Bags.{Env}
use Rattle.algebra.specs.Classes.{root_rows}
use Rattle.algebra.specs.Connectives.{and_of, or_of}
use Rattle.algebra.specs.ConjunctOrder.{conjuncts}

-- ---- lines, the last first

-- the class that the last line founds
abbrev pub last : List Expr → ℕ
last [] = 0
last (x ∷ lines) = length lines

-- what a condition becomes behind some lines: itself over classes, and the lines with those of its subqueries
pub record CondLines : Type 0 where
  pub condition : Condition
  pub lines : List Expr

abbrev pub CondFrame : Type 0
CondFrame = Scope → List Expr → CondLines

-- the column numbers of a FROM's rows, and its lines behind others
pub record FromFrame : Type 0 where
  pub numbers : List ℕ
  pub lines : Scope → List Expr → List Expr

-- the column numbers of a block's items, and its lines behind others
pub record BlockFrame : Type 0 where
  pub shown : Scope → List ℕ
  pub lines : Scope → List Expr → List Expr

-- ---- conditions

-- a term with its column's number in place of its level and place
abbrev pub numbered : Scope → named.Term → Term
numbered scope (place.Column c) = term.Column (number scope c)
numbered scope (place.Literal v) = term.Literal v

abbrev pub framed_as : Condition → List Expr → CondLines
framed_as c lines = record { condition = c; lines = lines }

-- what conditions become, one after another
pub record AllLines : Type 0 where
  pub conditions : List Condition
  pub lines : List Expr

abbrev pub all_frames : List CondFrame → Scope → List Expr → AllLines
all_frames [] scope lines = record { conditions = []; lines = lines }
all_frames (c ∷ cs) scope lines =
    let first = c scope lines in
    let rest = all_frames cs scope first.lines in
    record { conditions = first.condition ∷ rest.conditions; lines = rest.lines }

-- the number of the first item
abbrev pub first_shown : List ℕ → ℕ
first_shown shown = number_at shown 0

abbrev pub cond_frame_layer : Cond-F CondFrame FromFrame BlockFrame → CondFrame
cond_frame_layer (Cond-F.Compare op a b) scope lines = framed_as (Compare op (numbered scope a) (numbered scope b)) lines
cond_frame_layer (Cond-F.IsNull a) scope lines = framed_as (IsNull (numbered scope a)) lines
cond_frame_layer (Cond-F.Not c) scope lines = let part = c scope lines in framed_as (Not part.condition) part.lines
cond_frame_layer (Cond-F.And cs) scope lines = let parts = all_frames cs scope lines in framed_as (and_of parts.conditions) parts.lines
cond_frame_layer (Cond-F.Or cs) scope lines = let parts = all_frames cs scope lines in framed_as (or_of parts.conditions) parts.lines
cond_frame_layer (Cond-F.Exists q) scope lines = let more = q.lines scope lines in framed_as (Exists (last more)) more
cond_frame_layer (Cond-F.In a q) scope lines = let more = q.lines scope lines in framed_as (In (numbered scope a) (last more) (first_shown (q.shown scope))) more

-- ---- FROM

-- the conjuncts of a condition
abbrev pub conjuncts_of : CondLines → List Condition
conjuncts_of framed = conjuncts (framed.condition ∷ [])

-- the table of a join and the join; a bound ON has no subquery, so it stands directly behind its table
abbrev pub join_lines : (List Condition → ℕ → ℕ → Expr) → TableReference → CondFrame → Scope → List Expr → List Expr
join_lines join o on scope left =
    let lines = Get o.number ∷ left in
    let framed = on scope lines in
    join (conjuncts_of framed) (last left) (last lines) ∷ framed.lines

-- all that is left of a comma, the chain at its right, and their pairs
abbrev pub comma_lines : List Expr → List Expr → List Expr
comma_lines left lines = Join [] (last left) (last lines) ∷ lines

abbrev pub join_frame : (List Condition → ℕ → ℕ → Expr) → List TableInstance → FromFrame → TableReference → CondFrame → FromFrame
join_frame join instances f o on =
    let numbers = f.numbers ++ instance_numbers instances o in
    record { numbers = numbers; lines = λ scope lines. join_lines join o on (numbers ∷ scope) (f.lines scope lines) }

abbrev pub from_frame_layer : List TableInstance → From-F CondFrame FromFrame BlockFrame → FromFrame
from_frame_layer instances (From-F.Table o) = record { numbers = instance_numbers instances o; lines = λ scope lines. Get o.number ∷ lines }
from_frame_layer instances (From-F.Join f o on) = join_frame Join instances f o on
from_frame_layer instances (From-F.LeftJoin f o on) = join_frame LeftJoin instances f o on
from_frame_layer instances (From-F.Comma f g) = record {
  numbers = f.numbers ++ g.numbers;
  lines = λ scope lines. let left = f.lines scope lines in comma_lines left (g.lines scope left);
}

-- ---- blocks

-- the lines of the subqueries of a WHERE or a HAVING, and its Select
abbrev pub select_lines : Option CondFrame → Scope → List Expr → List Expr
select_lines None scope lines = lines
select_lines (Some c) scope lines = let framed = c scope lines in Select (conjuncts_of framed) (last lines) ∷ framed.lines

-- an aggregate that names its column by its number
abbrev pub numbered_aggregate : List ℕ → Aggregate → Aggregate
numbered_aggregate numbers by.CountRows = by.CountRows
numbered_aggregate numbers (by.Count k) = by.Count (number_at numbers k)
numbered_aggregate numbers (by.Sum k) = by.Sum (number_at numbers k)
numbered_aggregate numbers (by.Min k) = by.Min (number_at numbers k)
numbered_aggregate numbers (by.Max k) = by.Max (number_at numbers k)

-- the aggregates of the items
abbrev pub aggregations : List ℕ → List Item → List Aggregation
aggregations numbers [] = []
aggregations numbers (item.Column c ∷ items) = aggregations numbers items
aggregations numbers (item.Aggregate n a ∷ items) = record { column = n; aggregate = numbered_aggregate numbers a } ∷ aggregations numbers items

-- the columns of the keys
abbrev pub key_columns : List ℕ → List ℕ → List ℕ
key_columns numbers keys = rising (map (number_at numbers) keys)

abbrev pub group_lines : Bool → List ℕ → List ℕ → List Item → List Expr → List Expr
group_lines false numbers keys items lines = lines
group_lines true numbers keys items lines = Group (key_columns numbers keys) (by_column (aggregations numbers items)) (last lines) ∷ lines

-- whether it is of the block itself, and no column of a row around
abbrev pub is_block_item : Item → Bool
is_block_item (item.Column c) = c.level == 0
is_block_item (item.Aggregate n a) = true

-- the block's own numbers among those that it shows
abbrev pub own_numbers : Scope → List Item → List ℕ
own_numbers scope [] = []
own_numbers scope (i ∷ items) = if is_block_item i then item_number scope i ∷ own_numbers scope items else own_numbers scope items

-- the columns that a block keeps
abbrev pub kept : Scope → List Item → List ℕ
kept scope items = rising (own_numbers scope items)

abbrev pub keep_lines : Scope → List Item → List Expr → List Expr
keep_lines scope items lines = Keep (kept scope items) (last lines) ∷ lines

abbrev pub distinct_lines : Bool → List Expr → List Expr
distinct_lines false lines = lines
distinct_lines true lines = Distinct (last lines) ∷ lines

abbrev pub block_frame_layer : Block-F CondFrame FromFrame BlockFrame → BlockFrame
block_frame_layer q =
    let numbers = q.from.numbers in
    record {
      shown = λ scope. map (item_number (numbers ∷ scope)) q.items;
      lines = λ scope lines.
          let groups = group_lines q.grouped numbers q.keys (q.items ++ q.having_items) (select_lines q.filter (numbers ∷ scope) (q.from.lines scope lines)) in
          distinct_lines q.distinct (keep_lines (numbers ∷ scope) q.items (select_lines q.having (having_scope (numbers ∷ scope) q.having_items) groups));
    }

-- ---- the whole

unfoldable pub cond_frame : List TableInstance → Cond → CondFrame
cond_frame instances = fold-Cond CondFrame FromFrame BlockFrame cond_frame_layer (from_frame_layer instances) block_frame_layer

unfoldable pub from_frame : List TableInstance → From → FromFrame
from_frame instances = fold-From CondFrame FromFrame BlockFrame cond_frame_layer (from_frame_layer instances) block_frame_layer

-- what the ON of a join becomes behind the lines of its left side and its table
abbrev pub on_lines : List TableInstance → List ℕ → TableReference → Cond → Scope → List Expr → CondLines
on_lines instances numbers o on scope left = cond_frame instances on ((numbers ++ instance_numbers instances o) ∷ scope) (Get o.number ∷ left)

unfoldable pub block_frame : List TableInstance → Block → BlockFrame
block_frame instances = fold-Block CondFrame FromFrame BlockFrame cond_frame_layer (from_frame_layer instances) block_frame_layer

-- the frame of a query
unfoldable pub query_frame : Query → List Expr
query_frame q = reverse ((block_frame q.tables q.block).lines [] [])

-- the column numbers of a query's items
unfoldable pub query_numbers : Query → List ℕ
query_numbers q = (block_frame q.tables q.block).shown []

-- whether frames have the operator: they have no semijoin and no antijoin
abbrev pub is_framed : Expr → Bool
is_framed (Semi C a b) = false
is_framed (Anti S M a b) = false
is_framed x = true

-- ---- what it means

-- each table instance has as many columns as its table
abbrev pub AreOver : Tables → List TableInstance → Type 0
AreOver D instances = AllByRecursion (λ t. length t.entry.columns ≡ D.width t.table) instances

-- the query's columns of rows
abbrev pub query_shown : Query → List Env → List Row
query_shown q rows = map (λ r. map r (query_numbers q)) rows

-- the rows of the class that the last line founds, projected to the query's columns, are those that answer the query: in every
-- database with the query's tables and every environment, each as often
abbrev pub FrameMeans : Query → List Expr → Type 0
FrameMeans q lines = (D : Tables) → IsFitting D → AreOver D q.tables → (e : Env) (r : Row) → count r (query_shown q (root_rows q.tables D lines e)) ≡ often q.block D [] r

-- the frame of a query means it, whatever its form, if all that it names is there
abbrev pub FramesMean : Type 0
FramesMean = (q : Query) → is_bound q ≡ true → FrameMeans q (query_frame q)
