-- What it is that a frame means a condition, a FROM or a block.
use Rattle.std.proofs.Common.{◌≡◌, ap, sym, ◌∙◌, ℕ, true, List, map, length}
use Rattle.std.specs.List.{list_all}
use Rattle.values.specs.declared.truth.Truth.{Truth}
use Rattle.schema.specs.Databases.{Row}
use Rattle.query.specs.declared.query.TableInstance.{TableInstance}
use Rattle.query.specs.declared.query.Cond.{Cond}
use Rattle.query.specs.declared.query.From.{From}
use Rattle.query.specs.declared.query.Block.{Block}
use Rattle.query.specs.Rows.{Tables}
use Rattle.query.specs.Meaning as query
use Rattle.query.specs.Meaning.{from_width}
use Rattle.query.specs.Bound.{Scope, CondScope, FromScope, BlockScope, cond_scope, from_scope, block_scope}
use Rattle.algebra.specs.declared.expr.Expr.{Expr}
use Rattle.algebra.specs.Bags.{Env}
use Rattle.algebra.specs.Conditions.{truth}
use Rattle.algebra.specs.Classes.{class_rows}
use Rattle.frame.specs.Frames.{CondLines, AllLines, FromFrame, BlockFrame, cond_frame, from_frame, block_frame, last}
use Rattle.frame.proofs.Growth.{Grows}
use Rattle.algebra.proofs.Puts.{put, Agrees, IsNew}

module _ (instances : List TableInstance) (D : Tables) where
  -- the rows of the lines' last class
  abbrev pub last_rows : List Expr → Env → List Env
  last_rows lines e = class_rows instances D lines (last lines) e

  -- what a condition became is at an environment what the condition is of the rows that it agrees with
  pub record CondRight (f : CondLines) (s : CondScope) (m : List Row → Truth) (scope : Scope) : Type 0 where
    pub truth : (F : List Expr) (ρ : List Row) (e : Env) → Grows F f.lines → s.bound scope ≡ true → Agrees scope ρ e → Rattle.algebra.specs.Conditions.truth f.condition (class_rows instances D F) e ≡ m ρ

  -- the same of a list of conditions
  pub record AllRight (f : AllLines) (cs : List Cond) (scope : Scope) : Type 0 where
    pub truths : (F : List Expr) (ρ : List Row) (e : Env) → Grows F f.lines → list_all (λ s. s.bound scope) (map (cond_scope instances) cs) ≡ true → Agrees scope ρ e
        → map (λ c. Rattle.algebra.specs.Conditions.truth c (class_rows instances D F) e) f.conditions ≡ map (λ c. query.truth c D ρ) cs

  -- the last class of a FROM's lines has its rows, put into its columns
  pub record FromRight (f : FromFrame) (s : FromScope) (m : List Row → List Row) (w : ℕ) (scope : Scope) (E : List Expr) : Type 0 where
    pub width : s.bound scope ≡ true → w ≡ length f.numbers
    pub rows : (ρ : List Row) (e : Env) → s.bound scope ≡ true → IsNew f.numbers scope → Agrees scope ρ e → last_rows (f.lines scope E) e ≡ map (λ r. put f.numbers r e) (m ρ)

  -- the last class of a block's lines has rows that show the block's
  abbrev pub BlockRight : BlockFrame → BlockScope → (List Row → List Row) → Scope → List Expr → Type 0
  BlockRight f s m scope E = (ρ : List Row) (e : Env) → s.bound scope ≡ true → Agrees scope ρ e → map (λ r. map r (f.shown scope)) (last_rows (f.lines scope E) e) ≡ m ρ

  abbrev pub CondMeans : Cond → Type 0
  CondMeans c = (scope : Scope) (E : List Expr) → CondRight (cond_frame instances c scope E) (cond_scope instances c) (λ ρ. query.truth c D ρ) scope

  abbrev pub FromMeans : From → Type 0
  FromMeans f = (scope : Scope) (E : List Expr) → FromRight (from_frame instances f) (from_scope instances f) (λ ρ. query.source f D ρ) (from_width f D) scope E

  abbrev pub BlockMeans : Block → Type 0
  BlockMeans q = (scope : Scope) (E : List Expr) → BlockRight (block_frame instances q) (block_scope instances q) (λ ρ. query.rows q D ρ) scope E

  -- the meaning may be said in other words
  pub cond-right : (f g : CondLines) (s t : CondScope) (m n : List Row → Truth) (scope : Scope) → f ≡ g → s ≡ t → ((ρ : List Row) → m ρ ≡ n ρ) → CondRight g t n scope → CondRight f s m scope
  cond-right f g s t m n scope is as_ same right = rw (is, as_) (record { truth = λ F ρ e grows bound agree. right.truth F ρ e grows bound agree ∙ sym (same ρ) })

  pub from-right : (f g : FromFrame) (s t : FromScope) (m n : List Row → List Row) (v w : ℕ) (scope : Scope) (E : List Expr) → f ≡ g → s ≡ t → ((ρ : List Row) → m ρ ≡ n ρ) → v ≡ w → FromRight g t n w scope E → FromRight f s m v scope E
  from-right f g s t m n v w scope E is as_ same wide right = rw (is, as_, wide) (record {
    width = right.width;
    rows = λ ρ e bound new agree. right.rows ρ e bound new agree ∙ ap (map (λ r. put g.numbers r e)) (sym (same ρ));
  })

  pub block-right : (f g : BlockFrame) (s t : BlockScope) (m n : List Row → List Row) (scope : Scope) (E : List Expr) → f ≡ g → s ≡ t → ((ρ : List Row) → m ρ ≡ n ρ) → BlockRight g t n scope E → BlockRight f s m scope E
  block-right f g s t m n scope E is as_ same right = rw (is, as_) (λ ρ e bound agree. right ρ e bound agree ∙ sym (same ρ))
