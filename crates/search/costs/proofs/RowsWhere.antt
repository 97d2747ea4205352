-- The rows of classes at which conditions are true, and the equations of classes, by the first lines of a log.
use Rattle.std.proofs.Common.{◌≡◌, refl, ap, sym, ◌∙◌, ℕ, zero, suc, ◌+◌, ◌<◌, ◌≤◌, ◌==◌, Bool, true, false, nat_lt, if◌then◌else◌, List, [], ◌∷◌, ◌++◌, length, get_or, reverse, take, drop, Some, slice_get, take-append-drop, inl, inr, arith}
use Rattle.std.proofs.lemmas.Bool.Decides.{eqb_tells}
use Rattle.std.proofs.lemmas.Bool.{eq-eqb, ne_eqb, ltb-true, ltb-false}
use Rattle.std.proofs.lemmas.List.{take_more, length-reverse, length-append, length-take-le, reverse-append}
use Rattle.std.proofs.lemmas.Option.{slice_get_within}
use Rattle.algebra.specs.declared.condition.Condition.{Condition}
use Rattle.query.specs.declared.query.TableInstance.{TableInstance}
use Rattle.algebra.specs.declared.expr.Expr.{Expr}
use Rattle.derivation.specs.declared.line.Line.{Line}
use Rattle.derivation.specs.Logs.{Log}
use Rattle.props.specs.declared.known.KnownClasses.{KnownClasses}
use Rattle.props.specs.Knowledge.{Knowledge, known}
use Rattle.statistics.specs.declared.counts.Statistics.{Statistics}
use Rattle.costs.specs.declared.cardinalities.Estimator.{Estimator}
use Rattle.costs.specs.Cardinalities.{IsBefore, equations_at, equations_by, expr_rows, expr_rows_by, founded, founded_equations, line_rows, own_equations, own_rows, rows_at}

-- a list has nothing past its end
pub nothing-past : {X : Type 0} (xs : List X) (k : ℕ) (d : X) → length xs ≤ k → get_or xs k d ≡ d
nothing-past [] k d le = refl
nothing-past (x ∷ xs) zero d le = absurd (omega (arith, le))
nothing-past (x ∷ xs) (suc k) d le = nothing-past xs k d (omega (arith, le))

taken-at : {X : Type 0} (xs : List X) (n k : ℕ) (d : X) → k < n → get_or (take n xs) k d ≡ get_or xs k d
taken-at [] zero k d below = refl
taken-at [] (suc n) k d below = refl
taken-at (x ∷ xs) zero k d below = absurd (omega (arith, below))
taken-at (x ∷ xs) (suc n) zero d below = refl
taken-at (x ∷ xs) (suc n) (suc k) d below = taken-at xs n k d (omega (arith, below))

-- the last item of a list, or one before it
last-or-before : {X : Type 0} (xs : List X) (x d : X) (k : ℕ) → get_or (xs ++ x ∷ []) k d ≡ (if k == length xs then x else get_or xs k d)
last-or-before [] x d zero = refl
last-or-before [] x d (suc k) = ap (λ b. if b then x else d) (sym (ne_eqb (suc k) 0 (λ e. absurd (omega (arith, e)))))
last-or-before (y ∷ xs) x d zero = ap (λ b. if b then x else y) (sym (ne_eqb 0 (length (y ∷ xs)) (λ e. absurd (omega (arith, e)))))
last-or-before (y ∷ xs) x d (suc k) = last-or-before xs x d k ∙ elim (eqb_tells k (length xs)) [
  | inl same ↦ ap (λ b. if b then x else get_or xs k d) (same.0 ∙ sym (eq-eqb (suc k) (length (y ∷ xs)) (ap suc same.1)))
  | inr other ↦ ap (λ b. if b then x else get_or xs k d) (other.0 ∙ sym (ne_eqb (suc k) (length (y ∷ xs)) (λ e. other.1 (omega (arith, e)))))
]

split-at : (lines : List Line) (n : ℕ) → reverse lines ≡ reverse (drop n lines) ++ reverse (take n lines)
split-at lines n = ap reverse (sym (take-append-drop n lines)) ∙ reverse-append (take n lines) (drop n lines)

-- what a log's classes have by their own lines, each by the lines before it
module _ {X : Type 0} (own : Log → ℕ → X) (none : X) (by-line : Line → Log → X) (empty : (k : ℕ) → own [] k ≡ none) (at-line : (line : Line) (E : Log) (k : ℕ) → own (line ∷ E) k ≡ (if k == length E then by-line line E else own E k)) where
  -- a later line founds another class
  own-later : (line : Line) (E : Log) (k : ℕ) → k < length E → own (line ∷ E) k ≡ own E k
  own-later line E k below = at-line line E k ∙ ap (λ b. if b then by-line line E else own E k) (ne_eqb k (length E) (λ e. absurd (omega (arith, below, e))))

  own-behind : (F E : Log) (k : ℕ) → k < length E → own (F ++ E) k ≡ own E k
  own-behind [] E k below = refl
  own-behind (line ∷ F) E k below = own-later line (F ++ E) k (omega (arith, below, length-append F E)) ∙ own-behind F E k below

  pub own-past : (E : Log) (k : ℕ) → length E ≤ k → own E k ≡ none
  own-past [] k past = empty k
  own-past (line ∷ E) k past =
      at-line line E k ∙ ap (λ b. if b then by-line line E else own E k) (ne_eqb k (length E) (λ e. absurd (omega (arith, past, e))))
      ∙ own-past E k (omega (arith, past))

  -- the first lines give their classes what all lines do
  pub own-first : (lines : List Line) (n k : ℕ) → n ≤ length lines → k < n → own (reverse lines) k ≡ own (reverse (take n lines)) k
  own-first lines n k within below =
      ap (λ E. own E k) (split-at lines n)
      ∙ own-behind (reverse (drop n lines)) (reverse (take n lines)) k (omega (arith, below, length-reverse (take n lines), length-take-le n lines within))

  -- the first items of a list are those of the classes of the first lines
  pub items-first : (items : List X) (lines : List Line) (n : ℕ) → length items ≡ length lines → n ≤ length lines → ((k : ℕ) → get_or items k none ≡ own (reverse lines) k) → (k : ℕ) → get_or (take n items) k none ≡ own (reverse (take n lines)) k
  items-first items lines n size within each k = by (nat_lt k n) refl
    where
      by : (b : Bool) → nat_lt k n ≡ b → get_or (take n items) k none ≡ own (reverse (take n lines)) k
      by true lt = let below : k < n = ltb-true k n lt in taken-at items n k none below ∙ each k ∙ own-first lines n k within below
      by false past =
          let le : n ≤ k = ltb-false k n past in
          nothing-past (take n items) k none (omega (arith, le, length-take-le n items (omega (arith, within, size))))
          ∙ sym (own-past (reverse (take n lines)) k (omega (arith, le, length-reverse (take n lines), length-take-le n lines within)))

  -- what a class has, by its own line
  pub own-at : (lines : List Line) (k : ℕ) (line : Line) → slice_get lines k ≡ Some line → own (reverse lines) k ≡ by-line line (reverse (take k lines))
  own-at lines k line there =
      let within : k < length lines = slice_get_within lines k line there in
      let size : length (reverse (take k lines)) ≡ k = length-reverse (take k lines) ∙ length-take-le k lines (omega (arith, within)) in
      own-first lines (suc k) k (omega (arith, within)) (omega arith)
      ∙ ap (λ (ls : List Line). own (reverse ls) k) (take-next lines k line there)
      ∙ ap (λ E. own E k) (reverse-append (take k lines) (line ∷ []))
      ∙ at-line line (reverse (take k lines)) k
      ∙ ap (λ b. if b then by-line line (reverse (take k lines)) else own (reverse (take k lines)) k) (eq-eqb k (length (reverse (take k lines))) (sym size))
    where
      take-next : (ls : List Line) (i : ℕ) (l : Line) → slice_get ls i ≡ Some l → take (suc i) ls ≡ take i ls ++ l ∷ []
      take-next [] i l at = cc
      take-next (m ∷ ls) zero l at = let same : m ≡ l = cc in ap (λ x. x ∷ []) same
      take-next (m ∷ ls) (suc i) l at = ap (λ xs. m ∷ xs) (take-next ls i l at)

  -- the items of a line more
  pub items-more : (kept more : List X) (lines : List Line) (n : ℕ) (line : Line) (x : X) → n < length lines → length kept ≡ n → line ≡ get_or lines n line → more ≡ kept ++ x ∷ [] → x ≡ by-line line (reverse (take n lines)) → ((k : ℕ) → get_or kept k none ≡ own (reverse (take n lines)) k)
      → (k : ℕ) → get_or more k none ≡ own (reverse (take (n + 1) lines)) k
  items-more kept more lines n line x low count here is gives each k =
      ap (λ xs. get_or xs k none) is ∙ last-or-before kept x none k
      ∙ ap (λ m. if k == m then x else get_or kept k none) (count ∙ sym (length-reverse (take n lines) ∙ length-take-le n lines (omega (arith, low))))
      ∙ ap (λ y. if k == length (reverse (take n lines)) then y else get_or kept k none) gives
      ∙ ap (λ y. if k == length (reverse (take n lines)) then by-line line (reverse (take n lines)) else y) (each k)
      ∙ sym (at-line line (reverse (take n lines)) k)
      ∙ ap (λ E. own E k) (sym (ap reverse (take_more lines n line low ∙ ap (λ l. take n lines ++ l ∷ []) (sym here)) ∙ reverse-append (take n lines) (line ∷ [])))

-- ---- equations

module _ (root : ℕ → ℕ) where
  abbrev pub equations-by : Line → Log → List (ℕ × ℕ)
  equations-by line E = founded_equations (λ g. own_equations root E (root g)) (founded line)

  pub equations-first : (kept : List (List (ℕ × ℕ))) (lines : List Line) (n : ℕ) → length kept ≡ length lines → n ≤ length lines → ((k : ℕ) → equations_at kept k ≡ own_equations root (reverse lines) k) → (k : ℕ) → equations_at (take n kept) k ≡ own_equations root (reverse (take n lines)) k
  equations-first = items-first (own_equations root) [] equations-by (λ k. refl) (λ line E k. refl)

  pub equations-more : (kept more : List (List (ℕ × ℕ))) (lines : List Line) (n : ℕ) (line : Line) (x : List (ℕ × ℕ)) → n < length lines → length kept ≡ n → line ≡ get_or lines n line → more ≡ kept ++ x ∷ [] → x ≡ equations-by line (reverse (take n lines)) → ((k : ℕ) → equations_at kept k ≡ own_equations root (reverse (take n lines)) k)
      → (k : ℕ) → equations_at more k ≡ own_equations root (reverse (take (n + 1) lines)) k
  equations-more = items-more (own_equations root) [] equations-by (λ k. refl) (λ line E k. refl)

  pub equations-at : (lines : List Line) (k : ℕ) (line : Line) → slice_get lines k ≡ Some line → own_equations root (reverse lines) k ≡ equations-by line (reverse (take k lines))
  equations-at = own-at (own_equations root) [] equations-by (λ k. refl) (λ line E k. refl)

-- ---- rows

module _ (S : Statistics) (instances : List TableInstance) (K : Knowledge) (C : List Condition) where
  abbrev own : Log → ℕ → ℕ
  own E k = own_rows S instances K E k C

  abbrev pub rows-by : Line → Log → ℕ
  rows-by line E = line_rows S instances K (λ g. own_equations K.root E (K.root g)) (λ g D. own_rows S instances K E (K.root g) D) line C

  pub rows-past : (E : Log) (k : ℕ) → length E ≤ k → own_rows S instances K E k C ≡ 0
  rows-past = own-past own 0 rows-by (λ k. refl) (λ line E k. refl)

  pub rows-first : (kept : List ℕ) (lines : List Line) (n : ℕ) → length kept ≡ length lines → n ≤ length lines → ((k : ℕ) → rows_at kept k ≡ own_rows S instances K (reverse lines) k C) → (k : ℕ) → rows_at (take n kept) k ≡ own_rows S instances K (reverse (take n lines)) k C
  rows-first = items-first own 0 rows-by (λ k. refl) (λ line E k. refl)

  pub rows-more : (kept more : List ℕ) (lines : List Line) (n : ℕ) (line : Line) (x : ℕ) → n < length lines → length kept ≡ n → line ≡ get_or lines n line → more ≡ kept ++ x ∷ [] → x ≡ rows-by line (reverse (take n lines)) → ((k : ℕ) → rows_at kept k ≡ own_rows S instances K (reverse (take n lines)) k C)
      → (k : ℕ) → rows_at more k ≡ own_rows S instances K (reverse (take (n + 1) lines)) k C
  rows-more = items-more own 0 rows-by (λ k. refl) (λ line E k. refl)

  pub rows-at : (lines : List Line) (k : ℕ) (line : Line) → slice_get lines k ≡ Some line → own_rows S instances K (reverse lines) k C ≡ rows-by line (reverse (take k lines))
  rows-at = own-at own 0 rows-by (λ k. refl) (λ line E k. refl)

-- the same by the lines before one
pub rows-before : (by earlier : Estimator) (line : ℕ) (x : Expr) (C : List Condition) → IsBefore by line earlier
    → expr_rows_by earlier x C ≡ expr_rows by.statistics.now by.instances.now (known by.classes) (λ g. own_equations (known by.classes).root (reverse (take line by.lines.now)) ((known by.classes).root g)) (λ g. own_rows by.statistics.now by.instances.now (known by.classes) (reverse (take line by.lines.now)) ((known by.classes).root g)) x C
rows-before by earlier line x C h =
    let rows : Statistics → List TableInstance → KnownClasses → List Line → ℕ = λ S I K L. expr_rows S I (known K) (λ g. own_equations (known K).root (reverse L) ((known K).root g)) (λ g. own_rows S I (known K) (reverse L) ((known K).root g)) x C in
    ap (λ S. rows S earlier.instances.now earlier.classes earlier.lines.now) h.statistics_are
    ∙ ap (λ I. rows by.statistics.now I earlier.classes earlier.lines.now) h.instances_are
    ∙ ap (λ K. rows by.statistics.now by.instances.now K earlier.lines.now) h.classes_are
    ∙ ap (rows by.statistics.now by.instances.now by.classes) h.lines_are

pub equations-before : (by earlier : Estimator) (line : ℕ) → IsBefore by line earlier → equations_by earlier ≡ (λ g. own_equations (known by.classes).root (reverse (take line by.lines.now)) ((known by.classes).root g))
equations-before by earlier line h =
    let equations : KnownClasses → List Line → ℕ → List (ℕ × ℕ) = λ K L g. own_equations (known K).root (reverse L) ((known K).root g) in
    ap (λ K. equations K earlier.lines.now) h.classes_are ∙ ap (equations by.classes) h.lines_are
