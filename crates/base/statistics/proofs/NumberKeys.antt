-- The numbers of an index over one column differ as its keys do; Null is one key more.
use Rattle.std.proofs.Common.{◌≡◌, refl, sym, ap, ◌∙◌, subst, ℕ, zero, suc, ◌+◌, ◌^◌, ◌<◌, ◌≤◌, ℤ, Bool, true, false, cond, ◌||◌, List, [], ◌∷◌, ◌++◌, length, map, flat_map, nat_eq, nat_lt, append-nil, slice_index_or, pos, FitsSigned, to_z, if◌then◌else◌, arith}
use Rattle.std.specs.Cmp.{both_ways}
use Rattle.std.specs.Int.{cast_unsigned, w64}
use Rattle.std.specs.List.{range_with_len}
use Rattle.std.specs.Set.{is_member, distinct_count}
use Rattle.std.proofs.lemmas.Bool.{eq-eqb, eqb-true, ltb-true, lt-ltb, le-ltb}
use Rattle.std.proofs.lemmas.Bool.Decides.{Decides-eqb}
use Rattle.std.proofs.lemmas.Int.{to_z-of_z}
use Rattle.std.proofs.lemmas.List.{length-append, length-map, map-append, get_or-map}
use Rattle.std.proofs.lemmas.List.FromFn.{fill_by_all}
use Rattle.std.proofs.lemmas.List.Concat.{flat_map-append}
use Rattle.std.proofs.lemmas.Map.Made.{distinct_count-le}
use Rattle.values.specs.declared.value.Value.{Value}
use Rattle.values.specs.declared.value.Value.TheVariants as value
use Rattle.values.specs.Short.{IsShort}
use Rattle.schema.specs.Databases.{Row, values_at}
use Rattle.store.specs.Keys.{key_eq, key_decides}
use Rattle.store.specs.NumberColumns.{number_at, AreNumbersOf}
use Rattle.store.specs.declared.numbers.Numbers.{Numbers}
use Rattle.store.proofs.IndexLists.{numbers_more}
use Rattle.statistics.specs.ColumnKeys.{AreShort}
use Rattle.statistics.specs.Counting.{different_keys}
use Rattle.statistics.specs.NumberKeys.{known_numbers, number_in}
use Rattle.statistics.proofs.Marks.{or_false, or_true}
use Rattle.statistics.proofs.Sifts.{member-more, distinct-more}

-- ---- keys and numbers

abbrev bits : ℤ → ℕ
bits n = cast_unsigned w64 n

bits-apart : (m n : ℤ) → FitsSigned w64 m → FitsSigned w64 n → bits m ≡ bits n → m ≡ n
bits-apart m n h k same = sym (to_z-of_z w64 m h) ∙ ap (to_z w64) same ∙ to_z-of_z w64 n k

key-as-bits : (m n : ℤ) → FitsSigned w64 m → FitsSigned w64 n → key_eq (value.Int m ∷ []) (value.Int n ∷ []) ≡ nat_eq (bits m) (bits n)
key-as-bits m n h k =
    both_ways (key_eq (value.Int m ∷ []) (value.Int n ∷ [])) (nat_eq (bits m) (bits n))
    (λ same. eq-eqb (bits m) (bits n) (let is : value.Int m ∷ [] ≡ value.Int n ∷ [] = (key_decides (value.Int m ∷ []) (value.Int n ∷ [])).0 same in let e : m ≡ n = cc is in ap bits e))
    (λ same. (key_decides (value.Int m ∷ []) (value.Int n ∷ [])).1 (ap (λ (z : ℤ). value.Int z ∷ []) (bits-apart m n h k (eqb-true (bits m) (bits n) same))))

-- the key of one value of a column
abbrev key_of : Numbers → ℕ → Row
key_of c i = number_at c i ∷ []

abbrev keys_to : Numbers → ℕ → List Row
keys_to c n = map (key_of c) (range_with_len 0 n)

-- one where a row had Null
abbrev null_key : Numbers → ℕ → ℕ
null_key c n = cond (nat_lt (length (known_numbers c n)) n) 1 0

record AgreeTo (c : Numbers) (n : ℕ) : Type 0 where
  count : distinct_count key_eq (keys_to c n) ≡ distinct_count nat_eq (known_numbers c n) + null_key c n
  numbers : (z : ℤ) → FitsSigned w64 z → is_member key_eq (keys_to c n) (value.Int z ∷ []) ≡ is_member nat_eq (known_numbers c n) (bits z)
  nulls : is_member key_eq (keys_to c n) (value.Null ∷ []) ≡ nat_lt (length (known_numbers c n)) n
  few : length (known_numbers c n) ≤ n

keys_more : (c : Numbers) (n : ℕ) → keys_to c (n + 1) ≡ keys_to c n ++ key_of c n ∷ []
keys_more c n = ap (map (key_of c)) (numbers_more n) ∙ map-append (key_of c) (range_with_len 0 n) (n ∷ [])

pub known_more : (c : Numbers) (n : ℕ) → known_numbers c (n + 1) ≡ known_numbers c n ++ number_in c n
known_more c n = ap (flat_map (number_in c)) (numbers_more n) ∙ flat_map-append (number_in c) (range_with_len 0 n) (n ∷ []) ∙ ap (λ l. known_numbers c n ++ l) (append-nil (number_in c n))

-- a row with a number more
number-more : (c : Numbers) (n : ℕ) (z : ℤ) → FitsSigned w64 z → number_at c n ≡ value.Int z → number_in c n ≡ bits z ∷ [] → AgreeTo c n → AgreeTo c (n + 1)
number-more c n z fits is at h =
    let keys : keys_to c (n + 1) ≡ keys_to c n ++ (value.Int z ∷ []) ∷ [] = keys_more c n ∙ ap (λ (v : Value). keys_to c n ++ (v ∷ []) ∷ []) is in
    let known : known_numbers c (n + 1) ≡ known_numbers c n ++ bits z ∷ [] = known_more c n ∙ ap (λ (l : List ℕ). known_numbers c n ++ l) at in
    let long : length (known_numbers c (n + 1)) ≡ length (known_numbers c n) + 1 = ap length known ∙ length-append (known_numbers c n) (bits z ∷ []) in
    let nulls : nat_lt (length (known_numbers c n)) n ≡ nat_lt (length (known_numbers c (n + 1))) (n + 1) = sym (ap (λ m. nat_lt m (n + 1)) long ∙ next (length (known_numbers c n)) n) in
    record {
      count =
          ap (distinct_count key_eq) keys ∙ distinct-more key_eq key_decides (keys_to c n) (value.Int z ∷ [])
          ∙ ap (λ b. distinct_count key_eq (keys_to c n) + cond b 0 1) (h.numbers z fits)
          ∙ turned (distinct_count key_eq (keys_to c n)) (distinct_count nat_eq (known_numbers c n)) (null_key c n) (cond (is_member nat_eq (known_numbers c n) (bits z)) 0 1) h.count
          ∙ ap (λ m. m + null_key c n) (sym (ap (distinct_count nat_eq) known ∙ distinct-more nat_eq Decides-eqb (known_numbers c n) (bits z)))
          ∙ ap (λ b. distinct_count nat_eq (known_numbers c (n + 1)) + cond b 1 0) nulls;
      numbers = λ y its.
          ap (λ l. is_member key_eq l (value.Int y ∷ [])) keys ∙ member-more key_eq key_decides (keys_to c n) (value.Int z ∷ []) (value.Int y ∷ [])
          ∙ ap (λ b. b || key_eq (value.Int y ∷ []) (value.Int z ∷ [])) (h.numbers y its) ∙ ap (λ b. is_member nat_eq (known_numbers c n) (bits y) || b) (key-as-bits y z its fits)
          ∙ sym (ap (λ l. is_member nat_eq l (bits y)) known ∙ member-more nat_eq Decides-eqb (known_numbers c n) (bits z) (bits y));
      nulls =
          ap (λ l. is_member key_eq l (value.Null ∷ [])) keys ∙ member-more key_eq key_decides (keys_to c n) (value.Int z ∷ []) (value.Null ∷ [])
          ∙ or_false (is_member key_eq (keys_to c n) (value.Null ∷ [])) ∙ h.nulls ∙ nulls;
      few = let le = h.few in omega (arith, long, le);
    }
  where
    next : (m n : ℕ) → nat_lt (m + 1) (n + 1) ≡ nat_lt m n
    next m n = both_ways (nat_lt (m + 1) (n + 1)) (nat_lt m n) (λ t. lt-ltb m n (let lt = ltb-true (m + 1) (n + 1) t in omega (arith, lt))) (λ t. lt-ltb (m + 1) (n + 1) (let lt = ltb-true m n t in omega (arith, lt)))

    turned : (a d k m : ℕ) → a ≡ d + k → a + m ≡ d + m + k
    turned a d k m is = omega (arith, is)

-- a row with Null more
null-more : (c : Numbers) (n : ℕ) → number_at c n ≡ value.Null → number_in c n ≡ [] → AgreeTo c n → AgreeTo c (n + 1)
null-more c n is at h =
    let keys : keys_to c (n + 1) ≡ keys_to c n ++ (value.Null ∷ []) ∷ [] = keys_more c n ∙ ap (λ (v : Value). keys_to c n ++ (v ∷ []) ∷ []) is in
    let known : known_numbers c (n + 1) ≡ known_numbers c n = known_more c n ∙ ap (λ (l : List ℕ). known_numbers c n ++ l) at ∙ append-nil (known_numbers c n) in
    let le = h.few in
    let short : length (known_numbers c (n + 1)) < n + 1 = rw known (omega (arith, le)) in
    let nulls : nat_lt (length (known_numbers c (n + 1))) (n + 1) ≡ true = lt-ltb (length (known_numbers c (n + 1))) (n + 1) short in
    record {
      count =
          ap (distinct_count key_eq) keys ∙ distinct-more key_eq key_decides (keys_to c n) (value.Null ∷ [])
          ∙ ap (λ b. distinct_count key_eq (keys_to c n) + cond b 0 1) h.nulls
          ∙ once (distinct_count key_eq (keys_to c n)) (distinct_count nat_eq (known_numbers c n)) (nat_lt (length (known_numbers c n)) n) h.count
          ∙ ap (λ l. distinct_count nat_eq l + 1) (sym known) ∙ ap (λ b. distinct_count nat_eq (known_numbers c (n + 1)) + cond b 1 0) (sym nulls);
      numbers = λ y its.
          ap (λ l. is_member key_eq l (value.Int y ∷ [])) keys ∙ member-more key_eq key_decides (keys_to c n) (value.Null ∷ []) (value.Int y ∷ [])
          ∙ or_false (is_member key_eq (keys_to c n) (value.Int y ∷ [])) ∙ h.numbers y its ∙ ap (λ l. is_member nat_eq l (bits y)) (sym known);
      nulls =
          ap (λ l. is_member key_eq l (value.Null ∷ [])) keys ∙ member-more key_eq key_decides (keys_to c n) (value.Null ∷ []) (value.Null ∷ [])
          ∙ or_true (is_member key_eq (keys_to c n) (value.Null ∷ [])) ∙ sym nulls;
      few = omega (arith, short);
    }
  where
    once : (a d : ℕ) (b : Bool) → a ≡ d + cond b 1 0 → a + cond b 0 1 ≡ d + 1
    once a d true is = omega (arith, is)
    once a d false is = omega (arith, is)

agree : (rows : List Row) (place : ℕ) (c : Numbers) → AreNumbersOf rows place c → AreShort place rows → (n : ℕ) → n ≤ length rows → AgreeTo c n
agree rows place c are short zero within = record { count = refl; numbers = λ z fits. refl; nulls = refl; few = omega arith }
agree rows place c are short (suc n) within =
    let one : n + 1 ≡ suc n = omega arith in
    subst (AgreeTo c) one (by (agree rows place c are short n (omega (arith, within))) (slice_index_or c.known.now n false) refl)
  where
    z : ℤ
    z = slice_index_or c.numbers.now n (pos 0)

    by : AgreeTo c n → (b : Bool) → slice_index_or c.known.now n false ≡ b → AgreeTo c (n + 1)
    by before true known =
        let is : number_at c n ≡ value.Int z = ap (λ b. if b then value.Int z else value.Null) known in
        number-more c n z (subst IsShort (are.value n (omega (arith, within)) ∙ is) (short n (omega (arith, within)))) is (ap (λ b. if b then bits z ∷ [] else []) known) before
    by before false known = null-more c n (ap (λ b. if b then value.Int z else value.Null) known) (ap (λ b. if b then bits z ∷ [] else []) known) before

keys-to-all : (rows : List Row) (place : ℕ) (c : Numbers) → AreNumbersOf rows place c → map (values_at (place ∷ [])) rows ≡ keys_to c (length rows)
keys-to-all rows place c are = fill_by_all (key_of c) (map (values_at (place ∷ [])) rows) (length rows) [] (length-map rows (values_at (place ∷ []))) (λ k lt. get_or-map (values_at (place ∷ [])) rows k [] [] lt ∙ ap (λ (v : Value). v ∷ []) (are.value k lt))

pub counted-numbers : (rows : List Row) (place : ℕ) (c : Numbers) → AreNumbersOf rows place c → AreShort place rows
    → different_keys rows (place ∷ []) ≡ distinct_count nat_eq (known_numbers c (length rows)) + cond (nat_lt (length (known_numbers c (length rows))) (length rows)) 1 0
counted-numbers rows place c are short = ap (distinct_count key_eq) (keys-to-all rows place c are) ∙ (agree rows place c are short (length rows) (omega arith)).count

-- ---- as code has it

-- a number that is read has the bits of the column's
pub read-bits : (c : Numbers) (row n : ℕ) → IsShort (number_at c row) → slice_index_or c.known.now row false ≡ true → n ≡ bits (to_z w64 (bits (slice_index_or c.numbers.now row (pos 0))))
    → known_numbers c row ++ n ∷ [] ≡ known_numbers c (row + 1)
read-bits c row n short known is =
    let z : ℤ = slice_index_or c.numbers.now row (pos 0) in
    let fits : FitsSigned w64 z = subst IsShort (ap (λ b. if b then value.Int z else value.Null) known) short in
    ap (λ (m : ℕ). known_numbers c row ++ m ∷ []) (is ∙ ap bits (to_z-of_z w64 z fits)) ∙ sym (known_more c row ∙ ap (λ b. known_numbers c row ++ (if b then bits z ∷ [] else [])) known)

pub number-short : (rows : List Row) (place : ℕ) (c : Numbers) → AreNumbersOf rows place c → AreShort place rows → (row : ℕ) → row < length c.known.now → IsShort (number_at c row)
number-short rows place c are short row low =
    let within : row < length rows = subst (λ (n : ℕ). row < n) are.known low in
    subst IsShort (are.value row within) (short row within)

pub few-known : (c : Numbers) (n : ℕ) → length (known_numbers c n) ≤ n
few-known c zero = omega arith
few-known c (suc n) =
    let one : n + 1 ≡ suc n = omega arith in
    let before = few-known c n in
    subst (λ (m : ℕ). length (known_numbers c m) ≤ m) one (by before (slice_index_or c.known.now n false) refl)
  where
    by : length (known_numbers c n) ≤ n → (b : Bool) → slice_index_or c.known.now n false ≡ b → length (known_numbers c (n + 1)) ≤ n + 1
    by before true known =
        let more : known_numbers c (n + 1) ≡ known_numbers c n ++ bits (slice_index_or c.numbers.now n (pos 0)) ∷ [] = known_more c n ∙ ap (λ b. known_numbers c n ++ (if b then bits (slice_index_or c.numbers.now n (pos 0)) ∷ [] else [])) known in
        let long = ap length more ∙ length-append (known_numbers c n) (bits (slice_index_or c.numbers.now n (pos 0)) ∷ []) in
        omega (arith, long, before)
    by before false known =
        let more : known_numbers c (n + 1) ≡ known_numbers c n = known_more c n ∙ ap (λ b. known_numbers c n ++ (if b then bits (slice_index_or c.numbers.now n (pos 0)) ∷ [] else [])) known ∙ append-nil (known_numbers c n) in
        let long = ap length more in
        omega (arith, long, before)

-- the keys of rows whose known numbers are so many, with Null among the keys and without
module _ (rows : List Row) (place : ℕ) (c : Numbers) (known : List ℕ) (keys : ℕ) (are : AreNumbersOf rows place c) (short : AreShort place rows) (is : known ≡ known_numbers c (length c.known.now)) (count : keys ≡ distinct_count nat_eq known) where
  all-known : known ≡ known_numbers c (length rows)
  all-known = is ∙ ap (known_numbers c) are.known

  pub known-few : length known ≤ length rows
  known-few = subst (λ (l : List ℕ). length l ≤ length rows) (sym all-known) (few-known c (length rows))

  pub keys-fit : length rows ≤ 1000000 → keys + 1 < 2 ^ 64
  keys-fit few = let le = known-few in let most = distinct_count-le nat_eq known in omega (arith, few, le, most, count)

  counted : different_keys rows (place ∷ []) ≡ keys + cond (nat_lt (length known) (length rows)) 1 0
  counted =
      counted-numbers rows place c are short
      ∙ ap (λ (l : List ℕ). distinct_count nat_eq l + cond (nat_lt (length l) (length rows)) 1 0) (sym all-known)
      ∙ ap (λ n. n + cond (nat_lt (length known) (length rows)) 1 0) (sym count)

  pub with-null : length known < length rows → keys + 1 ≡ different_keys rows (place ∷ [])
  with-null lt = sym (counted ∙ ap (λ b. keys + cond b 1 0) (lt-ltb (length known) (length rows) lt))

  pub without-null : length rows ≤ length known → keys ≡ different_keys rows (place ∷ [])
  without-null le = sym (counted ∙ ap (λ b. keys + cond b 1 0) (le-ltb (length known) (length rows) le) ∙ omega arith)
