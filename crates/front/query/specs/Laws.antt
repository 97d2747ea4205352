-- What a reader believes of a meaning: the laws of conditions, FROMs and blocks, one or two for each form, in numbers and
-- 'some row', with no loop, over three unknown functions: when a condition is true, how often a row comes out of a FROM, and
-- how often it answers a block.
-- Conditions, IN and EXISTS: Guagliardo and Libkin, PVLDB 11(1), 2017. Joins with ON, groups and aggregates are this
-- project's profile of SQL.
use Rattle.std.specs.Prelude.{◌≡◌, ◌↔◌, ◌≢◌, ℕ, ◌+◌, ◌*◌, ◌-◌, ◌<◌, min, Bool, true, if◌then◌else◌, List, [], ◌∷◌, ◌++◌, length, take, drop, map, Option, Some, None}
use Rattle.values.specs.declared.truth.Truth.{Truth}
use Rattle.values.specs.declared.truth.Truth.TheVariants.{False, True}
use Rattle.values.specs.declared.truth.Comparison.{Comparison}
use Rattle.values.specs.Truth.{negation, truth_of, is_true, is_null, compare}
use Rattle.schema.specs.Databases.{Row}
use Rattle.query.specs.declared.query.Term.{Term}
use Rattle.query.specs.declared.query.Cond.{Cond}
use Rattle.query.specs.declared.query.Cond.TheVariants as cond
use Rattle.query.specs.declared.query.TableReference.{TableReference}
use Rattle.query.specs.declared.query.From.{From}
use Rattle.query.specs.declared.query.From.TheVariants as from
use Rattle.query.specs.declared.query.Block.{Block}
use Rattle.query.specs.Rows.{Env, Tables, IsFitting, term_value, nulls, count}
use Rattle.query.specs.Meaning.{all_of, any_of, equals_row, all_shown, from_width}

-- a row's values but for its last so many
abbrev pub left_part : ℕ → Row → Row
left_part width s = take (length s - width) s

-- a row's last so many values
abbrev pub right_part : ℕ → Row → Row
right_part width s = drop (length s - width) s

-- how often a block shows a row, given whether its HAVING holds of a row, where the list is the rows of its FROM at which its WHERE holds
abbrev pub number_shown : Block → (Row → Bool) → Env → List Row → Row → ℕ
number_shown q keeps e source r =
    let number = count r (all_shown q.grouped q.keys q.having_items keeps q.items e source) in
    if q.distinct then min 1 number else number

module _ (truth : Cond → Tables → Env → Truth) (src : From → Tables → Env → Row → ℕ) (often : Block → Tables → Env → Row → ℕ) where
  -- a condition holds of a row where it is true with that row innermost, and not where it is unknown
  abbrev pub holds : Cond → Tables → Env → Row → Bool
  holds c D e s = is_true (truth c D (s ∷ e))

  -- an absent WHERE holds of each row, an absent HAVING of each group
  abbrev pub holds_filter : Option Cond → Tables → Env → Row → Bool
  holds_filter None D e s = true
  holds_filter (Some c) D e s = holds c D e s

  -- how often a pair of a left row and a row of a table comes out of a join
  abbrev pub number_joined : From → TableReference → Cond → Tables → Env → Row → ℕ
  number_joined f o on D e s =
      let width = D.width o.table in
      if holds on D e s then src f D e (left_part width s) * count (right_part width s) (D.rows o.table) else 0

  -- a left row with Nulls beside it, at which the ON holds with no row of the table
  pub record IsPadded (o : TableReference) (on : Cond) (D : Tables) (e : Env) (s : Row) : Type 0 where
    pub nulls : right_part (D.width o.table) s ≡ Rattle.query.specs.Rows.nulls (D.width o.table)
    pub unmatched : (r : Row) → 0 < count r (D.rows o.table) → truth on D ((left_part (D.width o.table) s ++ r) ∷ e) ≢ True

  -- the row answers the block
  abbrev pub Comes : Block → Tables → Env → Row → Type 0
  Comes q D e r = 0 < often q D e r

  -- the list has each row of the FROM at which the WHERE holds, as often as it comes out of the FROM, and no other
  abbrev pub IsSource : Block → Tables → Env → List Row → Type 0
  IsSource q D e L = (s : Row) → count s L ≡ (if holds_filter q.filter D e s then src q.from D e s else 0)

  -- the laws at a database, in an environment
  pub record IsMeaningAt (D : Tables) (e : Env) : Type 0 where
    pub compare : (c : Comparison) (a b : Term) → truth (cond.Compare c a b) D e ≡ Rattle.values.specs.Truth.compare c (term_value a e) (term_value b e)
    pub is_null : (a : Term) → truth (cond.IsNull a) D e ≡ truth_of (Rattle.values.specs.Truth.is_null (term_value a e))
    pub not : (c : Cond) → truth (cond.Not c) D e ≡ negation (truth c D e)
    pub and : (cs : List Cond) → truth (cond.And cs) D e ≡ all_of (map (λ c. truth c D e) cs)
    pub or : (cs : List Cond) → truth (cond.Or cs) D e ≡ any_of (map (λ c. truth c D e) cs)
    -- EXISTS is true where some row answers, and else false
    pub exists_true : (q : Block) → truth (cond.Exists q) D e ≡ True ↔ ((r : Row) × Comes q D e r)
    pub exists_false : (q : Block) → truth (cond.Exists q) D e ≡ False ↔ ((r : Row) → Comes q D e r → ⊥)
    -- IN is true where some row equals, false where each is unequal, and else unknown
    pub in_true : (a : Term) (q : Block) → truth (cond.In a q) D e ≡ True ↔ ((r : Row) × Comes q D e r × (equals_row (term_value a e) r ≡ True))
    pub in_false : (a : Term) (q : Block) → truth (cond.In a q) D e ≡ False ↔ ((r : Row) → Comes q D e r → equals_row (term_value a e) r ≡ False)
    -- a table has its rows; a pair comes as often as its parts together, where the ON holds
    pub table : (o : TableReference) (s : Row) → src (from.Table o) D e s ≡ count s (D.rows o.table)
    pub join : (f : From) (o : TableReference) (on : Cond) (s : Row) → src (from.Join f o on) D e s ≡ number_joined f o on D e s
    pub comma : (f g : From) (s : Row) → src (from.Comma f g) D e s ≡ src f D e (left_part (from_width g D) s) * src g D e (right_part (from_width g D) s)
    -- a left join is the join, and in addition each left row without a match, as often as it comes
    pub left_join : (f : From) (o : TableReference) (on : Cond) (s : Row) → (IsPadded o on D e s → ⊥)
        → src (from.LeftJoin f o on) D e s ≡ number_joined f o on D e s
    pub left_join_padded : (f : From) (o : TableReference) (on : Cond) (s : Row) → IsPadded o on D e s
        → src (from.LeftJoin f o on) D e s ≡ number_joined f o on D e s + src f D e (left_part (D.width o.table) s)
    -- a block shows the rows of its FROM at which its WHERE holds, whatever order they are taken in, or their groups; of these
    -- it shows those at which its HAVING holds, which sees the row of its items and no other
    pub source_exists : (q : Block) → (L : List Row) × IsSource q D e L
    pub number : (q : Block) (L : List Row) (r : Row) → IsSource q D e L → often q D e r ≡ number_shown q (holds_filter q.having D []) e L r

  -- the laws at a database, in each environment
  abbrev pub IsMeaningOn : Tables → Type 0
  IsMeaningOn D = (e : Env) → IsMeaningAt D e

  -- the laws at each database whose rows have their tables' widths
  abbrev pub IsMeaning : Type 0
  IsMeaning = (D : Tables) → IsFitting D → IsMeaningOn D
