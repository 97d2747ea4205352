-- The computing form of the meaning obeys the laws.
use Rattle.std.proofs.Common.{◌≡◌, ◌≢◌, ◌↔◌, refl, ℕ, ◌+◌, ◌*◌, ◌<◌, Bool, true, false, not, if◌then◌else◌, List, [], ◌∷◌, ◌++◌, filter, ap, sym, ◌∙◌, arith, subst, Option, Some, None, option_map, inl, inr}
use Rattle.std.proofs.lemmas.Bool.{and_parts, and_from, false_from_ne_true}
use Rattle.values.specs.declared.truth.Truth.{Truth}
use Rattle.values.specs.declared.truth.Truth.TheVariants.{False, Unknown, True}
use Rattle.values.specs.Truth.{truth_of, is_true}
use Rattle.schema.specs.Databases.{Row}
use Rattle.query.specs.declared.query.Cond.{Cond}
use Rattle.query.specs.declared.query.TableReference.{TableReference}
use Rattle.query.specs.declared.query.From.{From}
use Rattle.query.specs.declared.query.From.TheVariants.{LeftJoin}
use Rattle.query.specs.declared.query.Block.{Block}
use Rattle.query.specs.Rows.{Env, Tables, IsFitting, term_value, nulls, count, same_rows}
use Rattle.query.specs.Meaning.{truth, source, rows, often, src, from_width, passes, passes_filter, pairs_of, matches, is_empty, equals_row}
use Rattle.query.specs.Laws.{left_part, right_part, IsMeaning, holds_filter, number_joined, number_shown, IsPadded}
use Rattle.query.proofs.Counting.{same_rows-equal, same_rows-from, counted-first, counted-later, counted-either, count-filter}
use Rattle.query.proofs.Equations.{truth-Compare, truth-IsNull, truth-Not, truth-And, truth-Or, truth-Exists, truth-In, source-Table, source-Join, source-LeftJoin, source-Comma, rows-Block}
use Rattle.query.proofs.Truths.{any-true, any-false}
use Rattle.query.proofs.Widths.{source_fits}
use Rattle.query.proofs.Sources.{count-product, count-join, count-left_join, is_padded, one_if}
use Rattle.query.proofs.Groups.{count-shown, same-number}

-- ---- whether there is a row

no-row : (L : List Row) → is_empty L ≡ true ↔ ((r : Row) → 0 < count r L → ⊥)
no-row [] = ((λ h r c. absurd (omega arith)), (λ none. refl))
no-row (s ∷ L) = ((λ h. cc), (λ none. absurd (none s (counted-first s L))))

exists-true : (L : List Row) → truth_of (not (is_empty L)) ≡ True ↔ ((r : Row) × (0 < count r L))
exists-true [] = ((λ h. cc), (λ found. let c : 0 < count found.0 [] = found.1 in absurd (omega arith)))
exists-true (s ∷ L) = ((λ h. (s, counted-first s L)), (λ found. refl))

exists-false : (L : List Row) → truth_of (not (is_empty L)) ≡ False ↔ ((r : Row) → 0 < count r L → ⊥)
exists-false [] = ((λ h r c. absurd (omega arith)), (λ none. refl))
exists-false (s ∷ L) = ((λ h. cc), (λ none. absurd (none s (counted-first s L))))

-- ---- left rows without a match

-- a row of the table gives a pair
pair-in : (l r : Row) (R : List Row) → 0 < count r R → 0 < count (l ++ r) (pairs_of l R)
pair-in l r [] h = h
pair-in l r (s ∷ R) h = elim (counted-either r s R h) [
  | inl e ↦ rw (← e) (counted-first (l ++ r) (pairs_of l R))
  | inr c ↦ counted-later (l ++ r) (l ++ s) (pairs_of l R) (pair-in l r R c)
]

-- a pair is of a row of the table
in-pairs : (l x : Row) (R : List Row) → 0 < count x (pairs_of l R) → (r : Row) × (0 < count r R) × (x ≡ l ++ r)
in-pairs l x [] h = absurd (omega arith)
in-pairs l x (s ∷ R) h = elim (counted-either x (l ++ s) (pairs_of l R) h) [
  | inl e ↦ (s, counted-first s R, e)
  | inr c ↦ let found = in-pairs l x R c in (found.0, counted-later found.0 s R found.1, found.2)
]

pub is_true-True : (t : Truth) → is_true t ≡ true → t ≡ True
is_true-True True h = refl
is_true-True Unknown h = cc
is_true-True False h = cc

kept : (b : Bool) (n : ℕ) → 0 < (if b then n else 0) → (b ≡ true) × (0 < n)
kept true n h = (refl, h)
kept false n h = absurd (omega arith)

-- a left row has no match where the ON is true with no right row
no-match : (on : Cond) (t : ℕ) (D : Tables) (e : Env) (l : Row) → is_empty (matches (truth on) t D e l) ≡ true ↔ ((r : Row) → 0 < count r (D.rows t) → truth on D ((l ++ r) ∷ e) ≢ True)
no-match on t D e l = (
  (λ h r c is. (no-row (matches (truth on) t D e l)).0 h (l ++ r) (rw (counted (l ++ r), is) (pair-in l r (D.rows t) c))),
  (λ none. (no-row _).1 (λ x c.
      let both = kept (is_true (truth on D (x ∷ e))) _ (rw (counted x) at c) in
      let pair = in-pairs l x (D.rows t) both.1 in
      none pair.0 pair.1 (subst (λ y. truth on D (y ∷ e) ≡ True) pair.2 (is_true-True _ both.0)))),
)
  where
    counted : (x : Row) → count x (matches (truth on) t D e l) ≡ (if is_true (truth on D (x ∷ e)) then count x (pairs_of l (D.rows t)) else 0)
    counted x = count-filter (passes (truth on) D e) x (pairs_of l (D.rows t))

pub padded-test : (o : TableReference) (on : Cond) (D : Tables) (e : Env) (s : Row) → is_padded (truth on) o.table D e s ≡ true ↔ IsPadded truth src often o on D e s
padded-test o on D e s = (
  (λ h. let both = and_parts (same_rows (right_part (D.width o.table) s) (nulls (D.width o.table))) _ h in
      record { nulls = same_rows-equal _ _ both.0; unmatched = (no-match on o.table D e (left_part (D.width o.table) s)).0 both.1 }),
  (λ is. and_from _ _ (same_rows-from _ _ is.nulls) ((no-match on o.table D e (left_part (D.width o.table) s)).1 is.unmatched)),
)

-- ---- the laws

passes-holds : (o : Option Cond) (D : Tables) (e : Env) (s : Row) → passes_filter (option_map truth o) D e s ≡ holds_filter truth src often o D e s
passes-holds None D e s = refl
passes-holds (Some c) D e s = refl

-- the rows of a block's FROM at which its WHERE holds
abbrev kept_rows : Block → Tables → Env → List Row
kept_rows q D e = filter (passes_filter (option_map truth q.filter) D e) (source q.from D e)

count-kept : (q : Block) (D : Tables) (e : Env) (s : Row) → count s (kept_rows q D e) ≡ (if holds_filter truth src often q.filter D e s then src q.from D e s else 0)
count-kept q D e s = count-filter (passes_filter (option_map truth q.filter) D e) s (source q.from D e)
    ∙ ap (λ b. if b then count s (source q.from D e) else 0) (passes-holds q.filter D e s)

-- the join, and in addition a left row without a match
count-left : (f : From) (o : TableReference) (on : Cond) (D : Tables) (e : Env) (s : Row) (b : Bool) → IsFitting D → is_padded (truth on) o.table D e s ≡ b
    → src (LeftJoin f o on) D e s ≡ number_joined truth src often f o on D e s + src f D e (left_part (D.width o.table) s) * one_if b
count-left f o on D e s b fits h =
    ap (count s) (source-LeftJoin f o on D e) ∙ count-left_join (truth on) o.table D e s (source f D e)
    ∙ ap (λ n. n + src f D e (left_part (D.width o.table) s) * one_if (is_padded (truth on) o.table D e s)) (count-join (truth on) o.table D e s (source f D e) (fits o.table))
    ∙ ap (λ c. number_joined truth src often f o on D e s + src f D e (left_part (D.width o.table) s) * one_if c) h

pub meaning_obeys : IsMeaning truth src often
meaning_obeys D fits e = record {
  compare = λ c a b. truth-Compare c a b D e;
  is_null = λ a. truth-IsNull a D e;
  not = λ c. truth-Not c D e;
  and = λ cs. truth-And cs D e;
  or = λ cs. truth-Or cs D e;
  exists_true = λ q. rw (truth-Exists q D e) (exists-true (rows q D e));
  exists_false = λ q. rw (truth-Exists q D e) (exists-false (rows q D e));
  in_true = λ a q. rw (truth-In a q D e) (any-true (equals_row (term_value a e)) (rows q D e));
  in_false = λ a q. rw (truth-In a q D e) (any-false (equals_row (term_value a e)) (rows q D e));
  table = λ o s. ap (count s) (source-Table o D e);
  join = λ f o on s. ap (count s) (source-Join f o on D e) ∙ count-join (truth on) o.table D e s (source f D e) (fits o.table);
  comma = λ f g s. ap (count s) (source-Comma f g D e) ∙ count-product (from_width g D) s (source g D e) (source_fits g D e fits) (source f D e);
  left_join = λ f o on s unpadded. count-left f o on D e s false fits (false_from_ne_true _ (λ h. unpadded ((padded-test o on D e s).0 h))) ∙ omega arith;
  left_join_padded = λ f o on s padded. count-left f o on D e s true fits ((padded-test o on D e s).1 padded) ∙ omega arith;
  source_exists = λ q. (kept_rows q D e, count-kept q D e);
  number = λ q L r h. ap (count r) (rows-Block q D e)
      ∙ count-shown q.distinct q.grouped q.keys q.having_items (passes_filter (option_map truth q.having) D []) q.items e (kept_rows q D e) r
      ∙ same-number q (passes_filter (option_map truth q.having) D []) e (kept_rows q D e) L (λ s. count-kept q D e s ∙ sym (h s)) r
      ∙ ap (λ (keeps : Row → Bool). number_shown q keeps e L r) (λ i s. passes-holds q.having D [] s i);
}
