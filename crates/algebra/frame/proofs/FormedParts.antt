-- What it is that the lines which a condition, a FROM or a block adds are well formed.
use Rattle.std.proofs.Common.{◌≡◌, refl, subst, ℕ, zero, suc, Bool, true, ◌&&◌, List, [], ◌∷◌, ◌++◌}
use Rattle.std.specs.Prelude.{slice_index_or}
use Rattle.std.specs.List.{list_all, list_any, AllByRecursion}
use Rattle.std.proofs.lemmas.Bool.{and_from, ltb-true, false≢true}
use Rattle.query.specs.declared.query.Column.{Column}
use Rattle.query.specs.declared.query.Term.{Term}
use Rattle.query.specs.declared.query.Term.TheVariants as read
use Rattle.query.specs.declared.query.TableInstance.{TableInstance}
use Rattle.query.specs.declared.query.Cond.{Cond}
use Rattle.query.specs.declared.query.From.{From}
use Rattle.query.specs.declared.query.Block.{Block}
use Rattle.query.specs.Bound.{Scope, number, names, bound_term, all_differ, cond_scope, from_scope, block_scope}
use Rattle.algebra.specs.Classes.{AreFormed}
use Rattle.algebra.specs.declared.expr.Aggregation.{Aggregation}
use Rattle.algebra.specs.declared.expr.Expr.{Expr}
use Rattle.algebra.specs.Columns.{has}
use Rattle.algebra.specs.Conditions.{all_columns, term_passes}
use Rattle.algebra.specs.Equality.{same_aggregation}
use Rattle.algebra.specs.Expressions.{is_query_column, names_own}
use Rattle.frame.specs.FormedFrames.{group_aggregates}
use Rattle.frame.specs.Frames.{CondLines, AllLines, BlockFrame, cond_frame, from_frame, block_frame, numbered}
use Rattle.frame.proofs.FrameGroups.{place-has}
use Rattle.frame.proofs.Growth.{Grows}

pub all-three : (a b c : Bool) → a ≡ true → b ≡ true → c ≡ true → (a && b && c) ≡ true
all-three a b c e f g = rw (e, f, g) refl

module _ (instances : List TableInstance) (own : List Aggregation) where
  -- ---- what is the query's own

  -- the columns are the query's own
  abbrev pub AreOwn : List ℕ → Type 0
  AreOwn numbers = (c : ℕ) → has numbers c ≡ true → is_query_column instances own c ≡ true

  -- so are those of all rows around
  abbrev pub AllOwn : Scope → Type 0
  AllOwn scope = AllByRecursion AreOwn scope

  -- the aggregates are among the query's own
  abbrev pub among_own : List Aggregation → Bool
  among_own added = list_all (λ a. list_any (same_aggregation a) own) added

  -- so are those of all groups
  abbrev pub GroupsOwn : List Expr → Type 0
  GroupsOwn lines = AllByRecursion (λ x. among_own (group_aggregates x) ≡ true) lines

  later-own : (M E : List Expr) → GroupsOwn (M ++ E) → GroupsOwn E
  later-own [] E h = h
  later-own (x ∷ M) E h = later-own M E h.1

  pub groups-before : (F E : List Expr) → Grows F E → GroupsOwn F → GroupsOwn E
  groups-before F E grows h = later-own grows.0 E (subst GroupsOwn grows.1 h)

  level-own : (scope : Scope) → AllOwn scope → (l : ℕ) → AreOwn (slice_index_or scope l [])
  level-own [] all l c h = absurd (false≢true h)
  level-own (ks ∷ scope) all zero c h = all.0 c h
  level-own (ks ∷ scope) all (suc l) c h = level-own scope all.1 l c h

  -- a column that the scope has is the query's own
  pub number-own : (scope : Scope) → AllOwn scope → (c : Column) → names scope c ≡ true → is_query_column instances own (number scope c) ≡ true
  number-own scope all c there = level-own scope all c.level (number scope c) (place-has (slice_index_or scope c.level []) c.place (ltb-true _ _ there))

  pub term-own : (scope : Scope) → AllOwn scope → (a : Term) → bound_term scope a ≡ true → term_passes (is_query_column instances own) (numbered scope a) ≡ true
  term-own scope all (read.Column c) there = and_from _ _ (number-own scope all c there) refl
  term-own scope all (read.Literal v) there = refl

  -- ---- what is known of each

  -- of a condition: its lines are well formed, and it names the query's own columns
  pub record FormedCond (f : CondLines) : Type 0 where
    pub lines : AreFormed instances own f.lines
    pub named : all_columns f.condition (is_query_column instances own) ≡ true

  pub record FormedAll (f : AllLines) : Type 0 where
    pub lines : AreFormed instances own f.lines
    pub named : names_own instances own f.conditions ≡ true

  -- of a block: it shows the query's own columns
  pub record FormedBlock (f : BlockFrame) (scope : Scope) (E : List Expr) : Type 0 where
    pub lines : AreFormed instances own (f.lines scope E)
    pub shown : list_all (is_query_column instances own) (f.shown scope) ≡ true

  abbrev pub CondFormed : Cond → Type 0
  CondFormed c = (scope : Scope) (E : List Expr) → AllOwn scope → AreFormed instances own E → (cond_scope instances c).bound scope ≡ true → GroupsOwn (cond_frame instances c scope E).lines → FormedCond (cond_frame instances c scope E)

  abbrev pub FromFormed : From → Type 0
  FromFormed f = (scope : Scope) (E : List Expr) → AllOwn scope → AreFormed instances own E → (from_scope instances f).bound scope ≡ true → all_differ (from_frame instances f).numbers ≡ true → GroupsOwn ((from_frame instances f).lines scope E)
      → AreFormed instances own ((from_frame instances f).lines scope E)

  abbrev pub BlockFormed : Block → Type 0
  BlockFormed q = (scope : Scope) (E : List Expr) → AllOwn scope → AreFormed instances own E → (block_scope instances q).bound scope ≡ true → GroupsOwn ((block_frame instances q).lines scope E) → FormedBlock (block_frame instances q) scope E
