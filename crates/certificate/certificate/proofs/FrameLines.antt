-- Lines that found the classes of a bound query's frame, and no other ones, replay.
use Rattle.std.proofs.Common.{◌≡◌, refl, ap, sym, ◌∙◌, subst, ℕ, ◌<◌, Bool, true, false, ◌==◌, if◌then◌else◌, List, [], ◌∷◌, ◌++◌, map, length, reverse, Some, Ok, nat_lt, arith}
use mathlib.Core.List.{reverse_aux}
use Rattle.std.specs.List.{slice_get}
use Rattle.std.proofs.lemmas.Bool.{le-leb, ltb-true, eqb-false}
use Rattle.std.proofs.lemmas.Grind.{reverse_onto}
use Rattle.std.proofs.lemmas.List.{length-reverse, length-map}
use Rattle.values.proofs.Lists.{slice_get_behind}
use Rattle.query.specs.declared.query.Query.{Query}
use Rattle.algebra.specs.declared.expr.Expr.{Expr}
use Rattle.algebra.specs.Equality.{same_expr}
use Rattle.algebra.specs.Expressions.{classes_pass, is_formed}
use Rattle.algebra.specs.Classes.{class_columns, AreFormed}
use Rattle.algebra.proofs.Same.{tested_expr, same-expr}
use Rattle.frame.specs.Frames.{query_frame}
use Rattle.frame.specs.FormedFrames.{own_aggregates}
use Rattle.frame.proofs.FormedQueries.{frames_formed}
use Rattle.derivation.specs.declared.line.Line.TheVariants.{Founds}
use Rattle.derivation.specs.Logs.{Log, line_at, entries, is_founding, founds}
use Rattle.derivation.proofs.Lookups.{classes-wider}
use Rattle.certificate.specs.Replay.{line_replays, lines_replay, FramesReplay}

-- the log whose lines found classes by these expressions, the last first
abbrev log : List Expr → Log
log E = map Founds E

pub founded-entries : (E : List Expr) → entries (log E) ≡ E
founded-entries [] = refl
founded-entries (x ∷ E) = ap (λ K. x ∷ K) (founded-entries E)

-- each of its lines founds a class
pub all-found : (E : List Expr) (g : ℕ) → g < length E → founds (log E) g ≡ true
all-found [] g lt = absurd (omega (arith, lt))
all-found (x ∷ E) g lt = by (g == length (log E)) refl (all-found E g)
  where
    by : (b : Bool) → (g == length (log E)) ≡ b → (g < length E → founds (log E) g ≡ true) → is_founding (if b then Some (Founds x) else line_at (log E) g) ≡ true
    by true is more = refl
    by false is more =
        let off : (g ≡ length (log E) → ⊥) = eqb-false g (length (log E)) is in
        let long : length (log E) ≡ length E = length-map E Founds in
        more (omega (arith, lt, off, long))

module _ (q : Query) where
  abbrev Formed : List Expr → Type 0
  Formed E = AreFormed q.tables (own_aggregates q) E

  earlier-formed : (xs E : List Expr) → Formed (reverse_aux xs E) → Formed E
  earlier-formed [] E formed = formed
  earlier-formed (x ∷ xs) E formed = (earlier-formed xs (x ∷ E) formed).2

  line-replays : (E : List Expr) (x : Expr) → Formed (x ∷ E) → slice_get (query_frame q) (length E) ≡ Some x → line_replays q (log E) (Founds x) ≡ Ok (Founds x)
  line-replays E x formed at =
      let known : classes_pass (founds (log E)) x ≡ true = classes-wider (λ g. nat_lt g (length E)) (founds (log E)) (λ g lt. all-found E g (ltb-true g (length E) lt)) x formed.0 in
      let well : is_formed q.tables (own_aggregates q) (class_columns q.tables (entries (log E))) x ≡ true = ap (λ K. is_formed q.tables (own_aggregates q) (class_columns q.tables K) x) (founded-entries E) ∙ formed.1 in
      let there : slice_get (query_frame q) (length (log E)) ≡ Some x = ap (slice_get (query_frame q)) (length-map E Founds) ∙ at in
      rw (known, well, there, same-expr x) refl

  -- the lines from one on, behind those before it
  lines-replay : (xs E : List Expr) → reverse_aux E xs ≡ query_frame q → Formed (reverse_aux xs E) → lines_replay q (log E) (map Founds xs) ≡ Ok (log (reverse_aux xs E))
  lines-replay [] E is formed =
      let count : length (query_frame q) ≡ length (log E) = ap length (sym is) ∙ length-reverse E ∙ sym (length-map E Founds) in
      rw (le-leb (length (query_frame q)) (length (log E)) (rw count (omega arith))) refl
  lines-replay (x ∷ xs) E is formed =
      let at : slice_get (query_frame q) (length E) ≡ Some x
      = ap (λ L. slice_get L (length E)) (sym (sym (reverse_onto E x xs) ∙ is)) ∙ subst (λ n. slice_get (reverse E ++ x ∷ xs) n ≡ Some x) (length-reverse E) (slice_get_behind (reverse E) x xs) in
      rw (line-replays E x (earlier-formed xs (x ∷ E) formed) at) (lines-replay xs (x ∷ E) is formed)

pub frame_replays : FramesReplay
frame_replays q bound = lines-replay q (query_frame q) [] refl (frames_formed q bound).lines
