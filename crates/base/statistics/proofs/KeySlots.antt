-- Slots of keys: two rows have one slot exactly where they have one key.
use Rattle.std.proofs.Common.{◌≡◌, refl, sym, ap, ◌∙◌, ℕ, zero, suc, ◌+◌, ◌*◌, ◌<◌, ◌≤◌, ℤ, List, [], ◌∷◌, ◌++◌, length, get_or, take, slice_index_or, nat_eq, subst, eq-eqb, arith}
use Rattle.std.specs.Cmp.{both_ways}
use Rattle.std.proofs.lemmas.Bool.{eqb-true}
use Rattle.store.specs.Keys.{key_eq, key_decides}
use Rattle.std.specs.Prelude.{◌≤ℤ◌, ◌-ℤ◌, unsigned_abs}
use Rattle.std.specs.List.{fold, AllByRecursion}
use Rattle.std.proofs.lemmas.Int.{ints}
use Rattle.std.proofs.lemmas.Nat.{mul-le, same_from_place}
use Rattle.std.proofs.lemmas.List.Sums.{fold_more}
use Rattle.values.specs.declared.value.Value.{Value}
use Rattle.values.specs.declared.value.Value.TheVariants as value
use Rattle.schema.specs.Databases.{Row}
use Rattle.store.specs.NumberColumns.{number_at, AreNumbersOf}
use Rattle.store.specs.declared.numbers.Numbers.{Numbers}
use Rattle.store.proofs.Rising.{key_at}
use Rattle.statistics.specs.declared.digits.DigitColumn.{DigitColumn}
use Rattle.statistics.specs.Digits.{digit_of, digit_in, HasDigit, HasDigitIn, HasDigits, slots_of, slot_in, ColumnsOf}

-- ---- digits

digit_below : (least : ℤ) (base : ℕ) (v : Value) → HasDigit least base v → digit_of least v < base
digit_below least base value.Null h = h
digit_below least base (value.Int n) h = h.1
digit_below least base (value.Text t) h = absurd h

gap_apart : (least m n : ℤ) → least ≤ℤ m → least ≤ℤ n → unsigned_abs (m -ℤ least) ≡ unsigned_abs (n -ℤ least) → m ≡ n
gap_apart least m n h k same = omega (arith, ints, h, k, same)

digit_apart : (least : ℤ) (base : ℕ) (v w : Value) → HasDigit least base v → HasDigit least base w → digit_of least v ≡ digit_of least w → v ≡ w
digit_apart least base value.Null value.Null h k same = refl
digit_apart least base value.Null (value.Int n) h k same = absurd (omega (arith, same))
digit_apart least base value.Null (value.Text t) h k same = absurd k
digit_apart least base (value.Int m) value.Null h k same = absurd (omega (arith, same))
digit_apart least base (value.Int m) (value.Int n) h k same = ap value.Int (gap_apart least m n h.0 k.0 (omega (arith, same)))
digit_apart least base (value.Int m) (value.Text t) h k same = absurd k
digit_apart least base (value.Text t) w h k same = absurd h

-- ---- slots

abbrev slot_from : ℕ → ℕ → List DigitColumn → ℕ
slot_from row s cs = fold (λ a c. a * c.base + digit_in row c) s cs

abbrev slots_from : ℕ → List DigitColumn → ℕ
slots_from n cs = fold (λ a c. a * c.base) n cs

slot_below : (row : ℕ) (cs : List DigitColumn) (s n : ℕ) → s < n → AllByRecursion (HasDigitIn row) cs → slot_from row s cs < slots_from n cs
slot_below row [] s n lt all = lt
slot_below row (c ∷ cs) s n lt all =
    let digit : digit_in row c < c.base = digit_below c.least c.base (number_at c.column row) all.0.digit in
    let most : (s + 1) * c.base ≤ n * c.base = mul-le (s + 1) c.base n c.base (omega arith) (omega arith) in
    slot_below row cs (s * c.base + digit_in row c) (n * c.base) (omega arith) all.1

pub slot_within : (row : ℕ) (cs : List DigitColumn) → AllByRecursion (HasDigitIn row) cs → slot_in row cs < slots_of cs
slot_within row cs all = slot_below row cs 0 1 (omega arith) all

slots_grow : (row : ℕ) (cs : List DigitColumn) (n : ℕ) → AllByRecursion (HasDigitIn row) cs → n ≤ slots_from n cs
slots_grow row [] n all = omega arith
slots_grow row (c ∷ cs) n all =
    let digit : digit_in row c < c.base = digit_below c.least c.base (number_at c.column row) all.0.digit in
    let most : n * 1 ≤ n * c.base = mul-le n 1 n c.base (omega arith) (omega arith) in
    let rest = slots_grow row cs (n * c.base) all.1 in
    omega arith

slots_take : (row : ℕ) (cs : List DigitColumn) (i n : ℕ) → AllByRecursion (HasDigitIn row) cs → slots_from n (take i cs) ≤ slots_from n cs
slots_take row [] zero n all = omega arith
slots_take row [] (suc i) n all = omega arith
slots_take row (c ∷ cs) zero n all = slots_grow row (c ∷ cs) n all
slots_take row (c ∷ cs) (suc i) n all = slots_take row cs i (n * c.base) all.1

all_take : {X : Type 0} (P : X → Type 0) (xs : List X) (i : ℕ) → AllByRecursion P xs → AllByRecursion P (take i xs)
all_take P [] zero all = tt
all_take P [] (suc i) all = tt
all_take P (x ∷ xs) zero all = tt
all_take P (x ∷ xs) (suc i) all = (all.0, all_take P xs i all.1)

pub slot_more : (row : ℕ) (cs : List DigitColumn) (i : ℕ) (d : DigitColumn) → i < length cs → slot_in row (take (i + 1) cs) ≡ slot_in row (take i cs) * (get_or cs i d).base + digit_in row (get_or cs i d)
slot_more row cs i d lt = fold_more (λ a c. a * c.base + digit_in row c) 0 cs i d lt

-- the slot so far fits where the slots do
slot_fits : (row : ℕ) (cs : List DigitColumn) (i most : ℕ) → AllByRecursion (HasDigitIn row) cs → slots_of cs < most → slot_in row (take i cs) < most
slot_fits row cs i most all few =
    let low : slot_in row (take i cs) < slots_of (take i cs) = slot_within row (take i cs) (all_take (HasDigitIn row) cs i all) in
    let high : slots_of (take i cs) ≤ slots_of cs = slots_take row cs i 1 all in
    omega arith

pub slot_step : (row : ℕ) (cs : List DigitColumn) (i most s digit : ℕ) (d : DigitColumn) → i < length cs → AllByRecursion (HasDigitIn row) cs → slots_of cs < most → s ≡ slot_in row (take i cs)
    → digit ≡ digit_in row (get_or cs i d) → s * (get_or cs i d).base + digit < most
slot_step row cs i most s digit d lt all few is at = rw (is, at, ← slot_more row cs i d lt) (slot_fits row cs (i + 1) most all few)

-- ---- keys

pub all_digits : (rows : List Row) (places : List ℕ) (cs : List DigitColumn) (row : ℕ) → ColumnsOf rows places cs → row < length rows → AllByRecursion (HasDigitIn row) cs
all_digits rows [] [] row h lt = tt
all_digits rows [] (c ∷ cs) row h lt = absurd h
all_digits rows (p ∷ places) [] row h lt = absurd h
all_digits rows (p ∷ places) (c ∷ cs) row h lt = (h.1 row lt, all_digits rows places cs row h.2 lt)

-- rows of one key have one slot
slot_same : (rows : List Row) (places : List ℕ) (cs : List DigitColumn) (i j s : ℕ) → ColumnsOf rows places cs → i < length rows → j < length rows → key_at rows places i ≡ key_at rows places j
    → slot_from i s cs ≡ slot_from j s cs
slot_same rows [] [] i j s h low high same = refl
slot_same rows [] (c ∷ cs) i j s h low high same = absurd h
slot_same rows (p ∷ places) [] i j s h low high same = absurd h
slot_same rows (p ∷ places) (c ∷ cs) i j s h low high same =
    let first : slice_index_or (slice_index_or rows i []) p value.Null ≡ slice_index_or (slice_index_or rows j []) p value.Null = cc same in
    let rest : key_at rows places i ≡ key_at rows places j = cc same in
    let one : number_at c.column i ≡ number_at c.column j = sym (h.0.value i low) ∙ first ∙ h.0.value j high in
    ap (λ v. slot_from i (s * c.base + digit_of c.least v) cs) one ∙ slot_same rows places cs i j (s * c.base + digit_in j c) h.2 low high rest

-- rows of one slot have one key
slot_apart : (rows : List Row) (places : List ℕ) (cs : List DigitColumn) (i j s t : ℕ) → ColumnsOf rows places cs → i < length rows → j < length rows → slot_from i s cs ≡ slot_from j t cs
    → (s ≡ t) × (key_at rows places i ≡ key_at rows places j)
slot_apart rows [] [] i j s t h low high same = (same, refl)
slot_apart rows [] (c ∷ cs) i j s t h low high same = absurd h
slot_apart rows (p ∷ places) [] i j s t h low high same = absurd h
slot_apart rows (p ∷ places) (c ∷ cs) i j s t h low high same =
    let rest = slot_apart rows places cs i j (s * c.base + digit_in i c) (t * c.base + digit_in j c) h.2 low high same in
    let mine = (h.1 i low).digit in
    let other = (h.1 j high).digit in
    let parts = same_from_place s (digit_in i c) t (digit_in j c) c.base (digit_below c.least c.base (number_at c.column i) mine) (digit_below c.least c.base (number_at c.column j) other) rest.0 in
    let one : number_at c.column i ≡ number_at c.column j = digit_apart c.least c.base (number_at c.column i) (number_at c.column j) mine other parts.1 in
    let first : slice_index_or (slice_index_or rows i []) p value.Null ≡ slice_index_or (slice_index_or rows j []) p value.Null = h.0.value i low ∙ one ∙ sym (h.0.value j high) in
    (parts.0, rw (first, rest.1) refl)

pub slot_alike : (rows : List Row) (places : List ℕ) (cs : List DigitColumn) (i j : ℕ) → ColumnsOf rows places cs → i < length rows → j < length rows
    → nat_eq (slot_in i cs) (slot_in j cs) ≡ key_eq (key_at rows places i) (key_at rows places j)
slot_alike rows places cs i j h low high =
    both_ways (nat_eq (slot_in i cs) (slot_in j cs)) (key_eq (key_at rows places i) (key_at rows places j))
    (λ same. (key_decides (key_at rows places i) (key_at rows places j)).1 (slot_apart rows places cs i j 0 0 h low high (eqb-true (slot_in i cs) (slot_in j cs) same)).1)
    (λ same. eq-eqb (slot_in i cs) (slot_in j cs) (slot_same rows places cs i j 0 h low high ((key_decides (key_at rows places i) (key_at rows places j)).0 same)))

-- ---- one column more

columns_after : (rows : List Row) (places : List ℕ) (cs : List DigitColumn) (i p : ℕ) (c : DigitColumn) → i < length places → p ≡ get_or places i 0 → ColumnsOf rows (take i places) cs → AreNumbersOf rows p c.column
    → HasDigits (length rows) c → ColumnsOf rows (take (i + 1) places) (cs ++ c ∷ [])
columns_after rows [] cs i p c lt at h numbers digits = absurd (omega arith)
columns_after rows (q ∷ places) [] zero p c lt at h numbers digits = (subst (λ (x : ℕ). AreNumbersOf rows x c.column) at numbers, digits, tt)
columns_after rows (q ∷ places) (d ∷ cs) zero p c lt at h numbers digits = absurd h
columns_after rows (q ∷ places) [] (suc i) p c lt at h numbers digits = absurd h
columns_after rows (q ∷ places) (d ∷ cs) (suc i) p c lt at h numbers digits =
    let next : ColumnsOf rows (take (i + 1) places) (cs ++ c ∷ []) = columns_after rows places cs i p c (omega arith) at h.2 numbers digits in
    let one : suc i + 1 ≡ suc (i + 1) = omega arith in
    rw one (h.0, h.1, next)

pub columns_more : (rows : List Row) (places : List ℕ) (cs new : List DigitColumn) (i : ℕ) (n : Numbers) (c : DigitColumn) → i < length places → ColumnsOf rows (take i places) cs → AreNumbersOf rows (get_or places i 0) n
    → (c.column ≡ n) × HasDigits (length n.known.now) c → new ≡ cs ++ c ∷ [] → ColumnsOf rows (take (i + 1) places) new
columns_more rows places cs new i n c lt h numbers column is =
    let all : HasDigits (length rows) c = subst (λ (m : ℕ). HasDigits m c) numbers.known column.1 in
    rw is (columns_after rows places cs i (get_or places i 0) c lt refl h (subst (AreNumbersOf rows (get_or places i 0)) (sym column.0) numbers) all)

pub slots_more : (cs : List DigitColumn) (c : DigitColumn) → slots_of (cs ++ c ∷ []) ≡ slots_of cs * c.base
slots_more cs c = from 1 cs
  where
    from : (n : ℕ) (cs : List DigitColumn) → slots_from n (cs ++ c ∷ []) ≡ slots_from n cs * c.base
    from n [] = refl
    from n (d ∷ cs) = from (n * d.base) cs
