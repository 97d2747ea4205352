-- Logs that begin with a query's frame: their lines replay for the query.
use Rattle.std.proofs.Common.{◌≡◌, refl, ap, sym, ◌∙◌, subst, inl, inr, ◌⊎◌, ℕ, zero, suc, ◌+◌, ◌<◌, ◌≤◌, Bool, true, false, ◌==◌, nat_le, nat_lt, List, [], ◌∷◌, ◌++◌, length, map, reverse, take, drop, get_or, slice_get, Option, Some, None, Result, Ok, Err, arith}
use mathlib.Core.List.{reverse_aux}
use Rattle.std.proofs.lemmas.Bool.{eqb-false, eqb-true, le-leb}
use Rattle.std.proofs.lemmas.List.{reverse-append, take-append-drop, take_more}
use Rattle.values.specs.Faults.{◌>>=◌, wanted_if}
use Rattle.query.specs.declared.query.Query.{Query}
use Rattle.query.specs.declared.query.TableInstance.{TableInstance}
use Rattle.algebra.specs.declared.expr.Aggregation.{Aggregation}
use Rattle.algebra.specs.declared.expr.Expr.{Expr}
use Rattle.algebra.proofs.Same.{same-expr}
use Rattle.frame.specs.Frames.{query_frame}
use Rattle.frame.specs.FormedFrames.{own_aggregates}
use Rattle.logs.specs.Logged.{Logged}
use Rattle.derivation.specs.declared.line.LineReason.{LineReason}
use Rattle.derivation.specs.declared.line.Line.{Line}
use Rattle.derivation.specs.declared.line.Line.TheVariants.{Founds}
use Rattle.derivation.specs.Logs.{Log, line_at}
use Rattle.derivation.specs.Replay.{Replays, stands}
use Rattle.derivation.proofs.Lookups.{earlier, here, within}
use Rattle.certificate.specs.declared.certificate.CheckReason.TheVariants.{OtherLine}
use Rattle.certificate.specs.Replay.{is_frame_line, line_replays, lines_replay, refusal}

-- the first lines found the classes of these expressions
abbrev pub Begins : List Expr → Log → Type 0
Begins frame E = (n : ℕ) (x : Expr) → slice_get frame n ≡ Some x → line_at E n ≡ Some (Founds x)

-- a line stands where it did, however many come behind it
line-stays : (lines : List Line) (E : Log) (n : ℕ) (l : Line) → line_at E n ≡ Some l → line_at (reverse_aux lines E) n ≡ Some l
line-stays [] E n l at = at
line-stays (k ∷ lines) E n l at = line-stays lines (k ∷ E) n l (earlier k E n (within E n l at) ∙ at)

replays-before : (instances : List TableInstance) (own : List Aggregation) (lines : List Line) (E : Log) → Replays instances own (reverse_aux lines E) → Replays instances own E
replays-before instances own [] E replays = replays
replays-before instances own (l ∷ lines) E replays = (replays-before instances own lines (l ∷ E) replays).1

pub last-some : {X : Type 0} (xs : List X) → (length xs ≡ 0) ⊎ ((n : ℕ) × (x : X) × (length xs ≡ suc n) × (slice_get xs n ≡ Some x))
last-some [] = inl refl
last-some (x ∷ []) = inr (0, x, refl, refl)
last-some (x ∷ y ∷ xs) = elim (last-some (y ∷ xs)) [
  | inl none ↦ absurd (omega (arith, none))
  | inr is ↦ inr (suc is.0, is.1, ap suc is.2, is.3)
]

module _ (q : Query) where
  long-enough : (E : Log) → Begins (query_frame q) E → nat_le (length (query_frame q)) (length E) ≡ true
  long-enough E begins = elim (last-some (query_frame q)) [
    | inl none ↦ le-leb (length (query_frame q)) (length E) (omega (arith, none))
    | inr is ↦ le-leb (length (query_frame q)) (length E) (let lt : is.0 < length E = within E is.0 (Founds is.1) (begins is.0 is.1 is.3) in omega (arith, lt, is.2))
  ]

  frame-line : (o : Option Expr) (l : Line) → ((x : Expr) → o ≡ Some x → l ≡ Founds x) → is_frame_line o l ≡ true
  frame-line None l is = refl
  frame-line (Some x) l is = ap (is_frame_line (Some x)) (is x refl) ∙ same-expr x

  pub begun-replay : (lines : List Line) (E : Log) → Replays q.tables (own_aggregates q) (reverse_aux lines E) → Begins (query_frame q) (reverse_aux lines E) → lines_replay q E lines ≡ Ok (reverse_aux lines E)
  begun-replay [] E replays begins = rw (long-enough E begins) refl
  begun-replay (l ∷ lines) E replays begins =
      let own = (replays-before q.tables (own_aggregates q) lines (l ∷ E) replays).0 in
      let of_frame : (x : Expr) → slice_get (query_frame q) (length E) ≡ Some x → l ≡ Founds x
      = λ x at. let e : Some l ≡ Some (Founds x) = sym (line-stays lines (l ∷ E) (length E) l (here l E)) ∙ begins (length E) x at in cc in
      rw (own, frame-line (slice_get (query_frame q) (length E)) l of_frame) (begun-replay lines (l ∷ E) replays begins)

-- ---- lines one by one

-- a line of lines that replay isn't refused
suffix-replays : (instances : List TableInstance) (own : List Aggregation) (rest E : Log) → Replays instances own (rest ++ E) → Replays instances own E
suffix-replays instances own [] E replays = replays
suffix-replays instances own (l ∷ rest) E replays = suffix-replays instances own rest E replays.1

pub not_refused : (instances : List TableInstance) (own : List Aggregation) (lines : List Line) (i : ℕ) (l : Line) (log : Logged) (r : LineReason) → i < length lines → l ≡ get_or lines i l
    → log ≡ record { instances = instances; own = own; log = reverse (take i lines) } → stands log.instances log.own log.log l ≡ Err r → Replays instances own (reverse lines) → ⊥
not_refused instances own lines i l log r lt at is refused replays =
    let parts : reverse lines ≡ reverse (drop (i + 1) lines) ++ (l ∷ reverse (take i lines))
    = ap reverse (sym (take-append-drop (i + 1) lines)) ∙ reverse-append (take (i + 1) lines) (drop (i + 1) lines)
    ∙ ap (λ E. reverse (drop (i + 1) lines) ++ E) (ap reverse (take_more lines i l lt) ∙ reverse-append (take i lines) (get_or lines i l ∷ []) ∙ ap (λ k. k ∷ reverse (take i lines)) (sym at)) in
    let here = suffix-replays instances own (reverse (drop (i + 1) lines)) (l ∷ reverse (take i lines)) (subst (Replays instances own) parts replays) in
    let ok : stands instances own (reverse (take i lines)) l ≡ Ok l = here.0 in
    let e : Ok l ≡ Err r = sym ok ∙ sym (ap (λ (g : Logged). stands g.instances g.own g.log l) is) ∙ refused in cc
