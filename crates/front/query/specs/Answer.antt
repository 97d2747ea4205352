-- What an answer of a query is, and that the laws determine it (this project's profile of SQL).
use Rattle.std.specs.Prelude.{◌≡◌, ◌↔◌, ℕ, false, List, [], ◌∷◌}
use Rattle.std.specs.declared.cmp.Ordering.{Ordering}
use Rattle.std.specs.Ordering.{is_gt, on}
use Rattle.values.specs.declared.truth.Truth.{Truth}
use Rattle.values.specs.Order.{directed, by_keys}
use Rattle.schema.specs.declared.schema.Schema.{Schema}
use Rattle.schema.specs.Databases.{Row, Database, Satisfies}
use Rattle.query.specs.declared.query.Cond.{Cond}
use Rattle.query.specs.declared.query.From.{From}
use Rattle.query.specs.declared.query.Block.{Block}
use Rattle.query.specs.declared.query.SortKey.{SortKey}
use Rattle.query.specs.declared.query.Query.{Query}
use Rattle.query.specs.Rows.{Env, Tables, IsFitting, tables_of, value_at, count}
use Rattle.query.specs.Meaning.{truth, src, often}
use Rattle.query.specs.Laws.{IsMeaningOn}

-- ---- ORDER BY

-- the order of values at the key's item, turned round under DESC
abbrev pub key_order : SortKey → Row → Row → Ordering
key_order k = on (value_at k.item) (directed k.descending)

-- a later key decides where the earlier ones do not
abbrev pub keys_order : List SortKey → Row → Row → Ordering
keys_order = by_keys key_order

-- no row stands right before one that goes before it
abbrev pub IsAllowed : List SortKey → List Row → Type 0
IsAllowed keys [] = Unit {0}
IsAllowed keys (a ∷ []) = Unit {0}
IsAllowed keys (a ∷ b ∷ rows) = (is_gt (keys_order keys a b) ≡ false) × IsAllowed keys (b ∷ rows)

-- ---- answers

-- each row stands in the list as often as it answers the query, in an order that its ORDER BY allows
pub record IsAnswer (q : Query) (D : Tables) (A : List Row) : Type 0 where
  pub spread : (r : Row) → count r A ≡ often q.block D [] r
  pub ordered : IsAllowed q.order A

-- ---- the laws determine the meaning

-- three functions agree with the meaning's computing form at the tables
pub record Agree (truth' : Cond → Tables → Env → Truth) (src' : From → Tables → Env → Row → ℕ) (often' : Block → Tables → Env → Row → ℕ) (D : Tables) : Type 0 where
  pub truth : (c : Cond) (e : Env) → truth' c D e ≡ Rattle.query.specs.Meaning.truth c D e
  pub src : (f : From) (e : Env) (s : Row) → src' f D e s ≡ Rattle.query.specs.Meaning.src f D e s
  pub often : (q : Block) (e : Env) (r : Row) → often' q D e r ≡ Rattle.query.specs.Meaning.often q D e r

-- whatever obeys the laws at a database agrees there with the computing form
abbrev pub LawsDetermineMeaning : Type 0
LawsDetermineMeaning = (truth' : Cond → Tables → Env → Truth) (src' : From → Tables → Env → Row → ℕ) (often' : Block → Tables → Env → Row → ℕ) (D : Tables)
    → IsFitting D → IsMeaningOn truth' src' often' D → Agree truth' src' often' D

-- a database that satisfies its schema is one of those
abbrev pub SatisfyingFits : Type 0
SatisfyingFits = (S : Schema) (D : Database) → Satisfies S D → IsFitting (tables_of S D)

-- each row stands in the list as often as it answers the query by whatever obeys the laws, in an order that its ORDER BY allows
pub record IsAnswerByLaws (q : Query) (D : Tables) (A : List Row) : Type 0 where
  pub spread : (truth' : Cond → Tables → Env → Truth) (src' : From → Tables → Env → Row → ℕ) (often' : Block → Tables → Env → Row → ℕ)
      → IsMeaningOn truth' src' often' D → (r : Row) → count r A ≡ often' q.block D [] r
  pub ordered : IsAllowed q.order A

-- an answer is one by the laws alone
abbrev pub AnswersAreByLaws : Type 0
AnswersAreByLaws = (q : Query) (D : Tables) (A : List Row) → IsFitting D → IsAnswer q D A ↔ IsAnswerByLaws q D A
