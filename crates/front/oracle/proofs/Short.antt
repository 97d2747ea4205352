-- The rows of a FROM are put together of the tables' rows and of Nulls, so their numbers have 64 bits.
use Rattle.std.proofs.Common.{ℕ, zero, suc, List, [], ◌∷◌}
use Rattle.std.specs.List.{AllByRecursion}
use Rattle.values.proofs.Each.{all_filter, all_flat_map}
use Rattle.values.proofs.Lists.{all_append}
use Rattle.schema.specs.declared.schema.Schema.{Schema}
use Rattle.schema.specs.Databases.{Row, Database, Satisfies}
use Rattle.query.specs.declared.query.From.{From}
use Rattle.query.specs.Rows.{Env, Tables, tables_of, nulls}
use Rattle.query.specs.Meaning.{CondMeaning, source, truth, or_else_row, pairs_of, matches, padded, passes}
use Rattle.query.proofs.Equations.{source-Table, source-Join, source-LeftJoin, source-Comma}
use Rattle.query.proofs.Froms.{each_from}
use Rattle.values.specs.Short.{IsShort}
use Rattle.query.specs.Aggregates.{AreShort, AreShortTables}
use Rattle.query.proofs.ShortTables.{satisfying_short}

-- ---- lists

short-pairs : (l : Row) → AllByRecursion IsShort l → (R : List Row) → AreShort R → AreShort (pairs_of l R)
short-pairs l h [] k = tt
short-pairs l h (r ∷ R) k = (all_append IsShort l r h k.0, short-pairs l h R k.1)

short-nulls : (width : ℕ) → AllByRecursion IsShort (nulls width)
short-nulls zero = tt
short-nulls (suc width) = (tt, short-nulls width)

short-or_else : (pad : Row) (M : List Row) → AllByRecursion IsShort pad → AreShort M → AreShort (or_else_row pad M)
short-or_else pad [] h k = (h, tt)
short-or_else pad (m ∷ M) h k = k

-- ---- FROMs

short-matches : (on : CondMeaning) (t : ℕ) (D : Tables) (e : Env) → AreShortTables D → (l : Row) → AllByRecursion IsShort l → AreShort (matches on t D e l)
short-matches on t D e short l h = all_filter (AllByRecursion IsShort) (passes on D e) (pairs_of l (D.rows t)) (short-pairs l h (D.rows t) (short t))

short-padded : (on : CondMeaning) (t : ℕ) (D : Tables) (e : Env) → AreShortTables D → (l : Row) → AllByRecursion IsShort l → AreShort (padded on t D e l)
short-padded on t D e short l h = short-or_else _ (matches on t D e l) (all_append IsShort l (nulls (D.width t)) h (short-nulls (D.width t))) (short-matches on t D e short l h)

abbrev GivesShort : From → Type 0
GivesShort f = (D : Tables) (e : Env) → AreShortTables D → AreShort (source f D e)

short-source : (f : From) → GivesShort f
short-source = each_from GivesShort (λ o D e short. rw (source-Table o D e) (short o.table))
    (λ f o on left D e short. rw (source-Join f o on D e) (all_flat_map (AllByRecursion IsShort) (AllByRecursion IsShort) (matches (truth on) o.table D e) (short-matches (truth on) o.table D e short) (source f D e) (left D e short)))
    (λ f o on left D e short. rw (source-LeftJoin f o on D e) (all_flat_map (AllByRecursion IsShort) (AllByRecursion IsShort) (padded (truth on) o.table D e) (short-padded (truth on) o.table D e short) (source f D e) (left D e short)))
    (λ f g left right D e short. rw (source-Comma f g D e) (all_flat_map (AllByRecursion IsShort) (AllByRecursion IsShort) (λ l. pairs_of l (source g D e)) (λ l h. short-pairs l h (source g D e) (right D e short)) (source f D e) (left D e short)))

-- ---- databases

pub short-from : (S : Schema) (D : Database) (f : From) (e : Env) → Satisfies S D → AreShort (source f (tables_of S D) e)
short-from S D f e h = short-source f (tables_of S D) e (satisfying_short S D h)
