-- A log that grew by lines that say something new, and are named, is lean past those that it had.
use Rattle.std.proofs.Common.{◌≡◌, refl, ap, sym, ◌∙◌, subst, inl, inr, ◌⊎◌, ℕ, ◌+◌, ◌≤◌, Bool, true, false, not, List, [], ◌∷◌, ◌++◌, filter, length, if◌then◌else◌, arith}
use Rattle.std.specs.List.{list_any}
use Rattle.std.proofs.lemmas.Bool.{eq-eqb, or_left, or_right}
use Rattle.std.proofs.lemmas.List.{length-append}
use Rattle.query.specs.declared.query.TableInstance.{TableInstance}
use Rattle.algebra.specs.declared.expr.Expr.{Expr}
use Rattle.algebra.specs.Columns.{has}
use Rattle.derivation.specs.declared.line.Line.{Line}
use Rattle.derivation.specs.declared.line.Line.TheVariants.{Founds}
use Rattle.derivation.specs.Logs.{Log}
use Rattle.logs.specs.Logged.{Logged}
use Rattle.bindings.specs.Founding.{founds_something}
use Rattle.bindings.specs.Lean.{SaysNew, made_of, IsLean}
use Rattle.lean_logs.proofs.Numbers.{stays_in}
use Rattle.lean_logs.specs.Growth.{Grows, AreNew, waiting, FillsLean}

-- ---- where a line stands among those that were added

-- lines behind which others stand, of which one stands behind the log
record Amid (E : Log) (more later : List Line) (l : Line) (before : Log) : Type 0 where
  lines : List Line
  whole : more ≡ later ++ (l ∷ lines)
  behind : before ≡ lines ++ E

amid : (E : Log) (more later : List Line) (l : Line) (before : Log) → more ++ E ≡ later ++ (l ∷ before) → length E ≤ length before → Amid E more later l before
amid E [] later l before is long =
    let count : length E ≡ length later + length (l ∷ before) = ap length is ∙ length-append later (l ∷ before) in
    absurd (omega (arith, count, long))
amid E (m ∷ more) [] l before is long = record { lines = more; whole = ap (λ k. k ∷ more) (let e : m ≡ l = cc in e); behind = sym (let e : more ++ E ≡ before = cc in e) }
amid E (m ∷ more) (k ∷ later) l before is long =
    let rest = amid E more later l before (let e : more ++ E ≡ later ++ (l ∷ before) = cc in e) long in
    record { lines = rest.lines; whole = ap (λ k. k ∷ more) (let e : m ≡ k = cc in e) ∙ ap (λ ls. k ∷ ls) rest.whole; behind = rest.behind }

says-new : (instances : List TableInstance) (E : Log) (later : List Line) (l : Line) (lines : List Line) → AreNew instances E (later ++ (l ∷ lines)) → SaysNew instances (lines ++ E) l
says-new instances E [] l lines are = are.0
says-new instances E (k ∷ later) l lines are = says-new instances E later l lines are.1

-- ---- a line that founds something is named, or waits

more-wait : (b : Bool) (m n : ℕ) (ns : List ℕ) → has ns n ≡ true → has (if b then m ∷ ns else ns) n ≡ true
more-wait true m n ns in_ = or_right _ _ in_
more-wait false m n ns in_ = in_

module _ (names : Line → List ℕ) (k : ℕ) where
  waits-or : (later : List Line) (x : Expr) (lines : List Line) → (list_any (λ l. has (names l) (length lines + k)) later ≡ true) ⊎ (has (waiting names k (later ++ (Founds x ∷ lines))) (length lines + k) ≡ true)
  waits-or [] x lines = inr (or_left _ _ (eq-eqb (length lines + k) (length lines + k) refl))
  waits-or (l ∷ later) x lines = elim (waits-or later x lines) [
    | inl named ↦ inl (or_right _ _ named)
    | inr waits ↦ by (has (names l) (length lines + k)) refl waits
  ]
    where
      n : ℕ
      n = length lines + k

      all : List Line
      all = later ++ (Founds x ∷ lines)

      by : (b : Bool) → has (names l) n ≡ b → has (waiting names k all) n ≡ true
          → (list_any (λ l. has (names l) n) (l ∷ later) ≡ true) ⊎ (has (waiting names k (l ∷ all)) n ≡ true)
      by true is waits = inl (or_left _ _ is)
      by false is waits = inr (more-wait (founds_something l) (length all + k) n (filter (λ n. not (has (names l) n)) (waiting names k all)) (stays_in (λ n. not (has (names l) n)) n (waiting names k all) waits (ap not is)))

-- ---- whole logs

pub lean_of : (names : Line → List ℕ) (old new : Logged) (grows : Grows old new) → AreNew old.instances old.log grows.more → ((n : ℕ) → has (waiting names (length old.log) grows.more) n ≡ true → length new.log ≤ n + 2) → IsLean old.instances names (length old.log) new.log
lean_of names old new grows news served = record {
  new = λ later l before whole long.
      let at = amid old.log grows.more later l before (sym grows.log ∙ whole) long in
      subst (λ F. SaysNew old.instances F l) (sym at.behind) (says-new old.instances old.log later l at.lines (subst (AreNew old.instances old.log) at.whole news));
  served = λ later x before whole long two.
      let at = amid old.log grows.more later (Founds x) before (sym grows.log ∙ whole) long in
      let count : length before ≡ length at.lines + length old.log = ap length at.behind ∙ length-append at.lines old.log in
      elim (waits-or names (length old.log) later x at.lines) [
        | inl named ↦ subst (λ n. list_any (λ l. has (names l) n) later ≡ true) (sym count) named
        | inr waits ↦
            let last : length new.log ≤ (length at.lines + length old.log) + 2 = served (length at.lines + length old.log) (subst (λ m. has (waiting names (length old.log) m) (length at.lines + length old.log) ≡ true) (sym at.whole) waits) in
            let long : length new.log ≡ length later + length (Founds x ∷ before) = ap length whole ∙ length-append later (Founds x ∷ before) in
            absurd (omega (arith, last, long, count, two))
      ];
}

pub filled_is_lean : (limit : ℕ) (old new : Logged) → FillsLean limit old new → IsLean old.instances made_of (length old.log) new.log
filled_is_lean limit old new is = lean_of made_of old new is.grows is.news (λ n waits. (is.served n waits).1)
