-- The classes of which a line speaks are those of earlier lines.
use Rattle.std.proofs.Common.{◌≡◌, refl, ap, sym, ◌∙◌, subst, ℕ, suc, ◌<◌, Bool, true, false, ◌==◌, nat_lt, reverse, List, [], ◌∷◌, length, Some, Ok, if◌then◌else◌, arith}
use Rattle.std.proofs.lemmas.Bool.{eqb-true}
use Rattle.std.proofs.lemmas.List.{length-reverse}
use Rattle.query.specs.declared.query.TableInstance.{TableInstance}
use Rattle.algebra.specs.declared.expr.Aggregation.{Aggregation}
use Rattle.algebra.specs.declared.expr.Expr.{Expr}
use Rattle.algebra.specs.Expressions.{classes_pass}
use Rattle.rules.specs.Matches as matches
use Rattle.derivation.specs.declared.line.Line.{Line}
use Rattle.derivation.specs.declared.line.Line.TheVariants.{Founds, Adds, Unites, Alike, Gives}
use Rattle.derivation.specs.Logs.{Log, founds, line_at, as_member, or_class, member}
use Rattle.derivation.specs.Replay.{stands, Replays}
use Rattle.derivation.proofs.Lookups.{below, founded, member-within}
use Rattle.derivation.proofs.Standing.{founds-stands, adds-stands, unites-stands, alike-stands, gives-stands}
use Rattle.logs.specs.Knowledge.{NamesEarlier}

module _ (instances : List TableInstance) (own : List Aggregation) where
  -- the class of a line's own expression
  last-class : (E : Log) (k : Line) → stands instances own E k ≡ Ok k → (i : ℕ) (l : matches.Line) → i ≡ length E → as_member i (Some k) ≡ Some l → l.class < suc (length E)
  last-class E (Founds x) stands i l is at = let e : i ≡ l.class = cc in omega (arith, e, is)
  last-class E (Adds g s x) stands i l is at =
      let e : g ≡ l.class = cc in
      let lt = founded E g (adds-stands instances own E g s x (Adds g s x) stands).class in
      omega (arith, e, lt)
  last-class E (Unites g h s) stands i l is at = cc
  last-class E (Alike a b) stands i l is at = cc
  last-class E (Gives g m f) stands i l is at = cc

  pub class-below : (E : Log) → Replays instances own E → (i : ℕ) (l : matches.Line) → member E i ≡ Some l → l.class < length E
  class-below [] replays i l is = cc
  class-below (k ∷ E) replays i l is = by (i == length E) refl (class-below E replays.1 i l) is
    where
      by : (b : Bool) → (i == length E) ≡ b → (member E i ≡ Some l → l.class < length E) → as_member i (if b then Some k else line_at E i) ≡ Some l → l.class < suc (length E)
      by true here earlier at = last-class E k replays.0 i l (eqb-true i (length E) here) at
      by false here earlier at = let lt = earlier at in omega (arith, lt)

  pub names-earlier : (E : Log) → Replays instances own E → (l : Line) → stands instances own E l ≡ Ok l → NamesEarlier E l
  names-earlier E replays (Founds x) is = below E x (founds-stands instances own E x (Founds x) is).known
  names-earlier E replays (Adds g s x) is = founded E g (adds-stands instances own E g s x (Adds g s x) is).class
  names-earlier E replays (Unites g h s) is =
      let it = unites-stands instances own E g h s (Unites g h s) is in
      (founded E g it.first, founded E h it.second)
  names-earlier E replays (Alike i j) is =
      let it = alike-stands instances own E i j (Alike i j) is in (
        member-within E i it.first it.first_at,
        subst (λ c. c < length E) (sym (ap (or_class i) it.first_at)) (class-below E replays i it.first it.first_at),
        subst (λ c. c < length E) (sym (ap (or_class j) it.second_at)) (class-below E replays j it.second it.second_at),
      )
  names-earlier E replays (Gives g m f) is = founded E g (gives-stands instances own E g m f (Gives g m f) is).class

-- those that an expression names
pub named_below : (lines : List Line) (count : ℕ) (x : Expr) → count ≡ length lines → classes_pass (founds (reverse lines)) x ≡ true → classes_pass (λ g. nat_lt g count) x ≡ true
named_below lines count x is pass = subst (λ n. classes_pass (λ g. nat_lt g n) x ≡ true) (length-reverse lines ∙ sym is) (below (reverse lines) x pass)
