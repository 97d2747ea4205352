-- The first line of a log reads a table, so the first class has no free columns.
use Rattle.std.proofs.Common.{◌≡◌, refl, ◌∙◌, ℕ, ◌<◌, true, false, List, [], ◌∷◌, length, arith}
use Rattle.std.proofs.lemmas.Bool.{ne_eqb}
use Rattle.query.specs.declared.query.TableInstance.{TableInstance}
use Rattle.algebra.specs.declared.expr.Aggregation.{Aggregation}
use Rattle.algebra.specs.declared.expr.Expr.{Expr}
use Rattle.algebra.specs.declared.expr.Expr.TheVariants.{Get, Select, Join, LeftJoin, Semi, Anti, Keep, Distinct, Group}
use Rattle.algebra.specs.Expressions.{free_of, classes_pass}
use Rattle.algebra.specs.Classes.{class_columns, class_free}
use Rattle.derivation.specs.declared.line.Line.{Line}
use Rattle.derivation.specs.declared.line.Line.TheVariants.{Founds, Adds, Unites, Alike, Gives}
use Rattle.derivation.specs.Logs.{Log, entries, founds}
use Rattle.derivation.specs.Replay.{Replays}
use Rattle.derivation.proofs.Lookups.{founded, member-within}
use Rattle.derivation.proofs.Standing.{founds-stands, adds-stands, unites-stands, alike-stands, gives-stands}
use Rattle.logs.specs.Knowledge.{IsClosed}

module _ (instances : List TableInstance) (own : List Aggregation) where
  -- an expression that names no class
  no-free : (x : Expr) (c : ℕ) → classes_pass (founds []) x ≡ true → free_of (class_columns instances []) (class_free instances []) x c ≡ false
  no-free (Get o) c pass = refl
  no-free (Select C a) c pass = cc
  no-free (Join C a b) c pass = cc
  no-free (LeftJoin C a b) c pass = cc
  no-free (Semi C a b) c pass = cc
  no-free (Anti S M a b) c pass = cc
  no-free (Keep K a) c pass = cc
  no-free (Distinct a) c pass = cc
  no-free (Group K G a) c pass = cc

  -- behind a line
  later : (l k : Line) (E : Log) (c : ℕ) → class_free instances (entries (l ∷ k ∷ E)) 0 c ≡ class_free instances (entries (k ∷ E)) 0 c
  later l k E c = rw (ne_eqb 0 (length (entries (k ∷ E))) (λ e. omega (arith, e))) refl

  pub closed : (E : Log) → Replays instances own E → IsClosed instances E
  closed [] replays c = refl
  closed (l ∷ k ∷ E) replays c = later l k E c ∙ closed (k ∷ E) replays.1 c
  closed (Founds x ∷ []) replays c = no-free x c (founds-stands instances own [] x (Founds x) replays.0).known
  closed (Adds g s x ∷ []) replays c = let no : g < 0 = founded [] g (adds-stands instances own [] g s x (Adds g s x) replays.0).class in absurd (omega (arith, no))
  closed (Unites g h s ∷ []) replays c = let no : g < 0 = founded [] g (unites-stands instances own [] g h s (Unites g h s) replays.0).first in absurd (omega (arith, no))
  closed (Alike i j ∷ []) replays c =
      let is = alike-stands instances own [] i j (Alike i j) replays.0 in
      let no : i < 0 = member-within [] i is.first is.first_at in
      absurd (omega (arith, no))
  closed (Gives g m f ∷ []) replays c = let no : g < 0 = founded [] g (gives-stands instances own [] g m f (Gives g m f) replays.0).class in absurd (omega (arith, no))
