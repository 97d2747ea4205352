-- The rows of a log's classes, in lists by their numbers.
use Rattle.std.proofs.Common.{◌≡◌, refl, ap, sym, ◌∙◌, ℕ, ◌≤◌, Bool, true, false, nat_lt, List, [], ◌∷◌, length, arith}
use Rattle.std.proofs.lemmas.Bool.{ltb-true, ltb-false}
use Rattle.query.specs.declared.query.TableInstance.{TableInstance}
use Rattle.algebra.specs.declared.expr.Aggregation.{Aggregation}
use Rattle.props.specs.Knowledge.{Knowledge}
use Rattle.derivation.specs.declared.line.Line.TheVariants.{Founds, Adds, Unites, Alike, Gives}
use Rattle.derivation.specs.Logs.{Log, knowledge, least}
use Rattle.derivation.specs.Replay.{Replays}
use Rattle.derivation.proofs.Sameness.{AreBelow, least-high}
use Rattle.logs.proofs.NamedLines.{names-earlier}
use Rattle.statistics.specs.declared.counts.Statistics.{Statistics}
use Rattle.costs.specs.Cardinalities.{rows_at, own_rows, class_rows, AreRows, ShareRows}
use Rattle.costs.proofs.RowsWhere.{nothing-past, rows-past}

are-below : (instances : List TableInstance) (own : List Aggregation) (E : Log) → Replays instances own E → AreBelow E
are-below instances own [] replays = tt
are-below instances own (Founds x ∷ E) replays = are-below instances own E replays.1
are-below instances own (Adds g s x ∷ E) replays = are-below instances own E replays.1
are-below instances own (Unites g h s ∷ E) replays = let names = names-earlier instances own E replays.1 (Unites g h s) replays.0 in (names.0, names.1, are-below instances own E replays.1)
are-below instances own (Alike i j ∷ E) replays = let names = names-earlier instances own E replays.1 (Alike i j) replays.0 in (names.1, names.2, are-below instances own E replays.1)
are-below instances own (Gives g m f ∷ E) replays = are-below instances own E replays.1

pub are-rows : (S : Statistics) (instances : List TableInstance) (added : List Aggregation) (E : Log) (K : Knowledge) (own rows : List ℕ) (count : ℕ) → Replays instances added E → K ≡ knowledge instances E → count ≡ length E
    → ((k : ℕ) → rows_at own k ≡ own_rows S instances K E k []) → ShareRows K.root own count rows → AreRows S instances E rows
are-rows S instances added E K own rows count replays is size each shared k = by (nat_lt k count) refl
  where
    by : (b : Bool) → nat_lt k count ≡ b → rows_at rows k ≡ class_rows S instances E k
    by true lt = shared.each k (ltb-true k count lt) ∙ each (K.root k) ∙ ap (λ (K : Knowledge). own_rows S instances K E (K.root k) []) is
    by false past =
        let le : count ≤ k = ltb-false k count past in
        let high : least E k ≡ k = least-high E (are-below instances added E replays) k (omega (arith, le, size)) in
        nothing-past rows k 0 (omega (arith, le, shared.length_)) ∙ sym (ap (λ j. own_rows S instances (knowledge instances E) E j []) high ∙ rows-past S instances (knowledge instances E) [] E k (omega (arith, le, size)))
