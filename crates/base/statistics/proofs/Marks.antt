-- Marks at the slots of keys: as many as the keys that differ.
use Rattle.std.proofs.Common.{◌≡◌, ◌≢◌, refl, sym, ap, ◌∙◌, ℕ, zero, suc, ◌+◌, ◌<◌, ◌≤◌, Bool, true, false, cond, ◌||◌, List, [], ◌∷◌, ◌++◌, length, get_or, map, replicate, nat_eq, inl, inr, arith}
use Rattle.std.proofs.Math.ListN.{set}
use Rattle.std.specs.Cmp.{nat_eq_equiv}
use Rattle.std.specs.List.{count_by, range_with_len, AllByRecursion, IsDistinct}
use Rattle.std.specs.Set.{is_member, distinct_count, unique_keys}
use Rattle.std.proofs.lemmas.Bool.Decides.{eqb_tells}
use Rattle.std.proofs.lemmas.List.{get_or-set_same, get_or-set_other}
use Rattle.std.proofs.lemmas.List.Folds.{list_any-append}
use Rattle.std.proofs.lemmas.List.FromFn.{map-range_with_len_more, fill_by_all}
use Rattle.std.proofs.lemmas.List.Sums.{sum_by-cons}
use Rattle.std.proofs.lemmas.List.{get_or-map, length-map}
use Rattle.std.proofs.lemmas.Map.Made.{length-from_keys}
use Rattle.schema.specs.Databases.{Row, values_at}
use Rattle.store.specs.Keys.{key_eq}
use Rattle.store.proofs.Rising.{key_at}
use Rattle.statistics.specs.Counting.{different_keys}
use Rattle.statistics.specs.declared.digits.DigitColumn.{DigitColumn}
use Rattle.statistics.specs.Digits.{slot_in, AreMarked, ColumnsOf}
use Rattle.statistics.proofs.KeySlots.{slot_alike}

-- ---- a mark more

pub or_false : (b : Bool) → (b || false) ≡ b
or_false true = refl
or_false false = refl

pub or_true : (b : Bool) → (b || true) ≡ true
or_true true = refl
or_true false = refl

pub eqb_same : (n : ℕ) → nat_eq n n ≡ true
eqb_same n = elim (eqb_tells n n) [ inl same ↦ same.0 | inr other ↦ absurd (other.1 refl) ]

pub no_marks : (n s : ℕ) → get_or (replicate n false) s false ≡ false
no_marks zero s = refl
no_marks (suc n) zero = refl
no_marks (suc n) (suc s) = no_marks n s

pub mark_next : (xs : List ℕ) (marks : List Bool) (k : ℕ) → k < length marks → ((s : ℕ) → get_or marks s false ≡ is_member nat_eq xs s) → (s : ℕ) → get_or (set marks k true) s false ≡ is_member nat_eq (xs ++ k ∷ []) s
mark_next xs marks k lt before s =
    at (nat_eq s k) refl ∙ sym (list_any-append (nat_eq s) xs (k ∷ []) ∙ ap (λ b. is_member nat_eq xs s || b) (or_false (nat_eq s k)))
  where
    at : (b : Bool) → nat_eq s k ≡ b → get_or (set marks k true) s false ≡ (is_member nat_eq xs s || nat_eq s k)
    at b e = elim (eqb_tells s k) [
      | inl same ↦ rw (same.1, get_or-set_same marks k true false lt, eqb_same k) (sym (or_true (is_member nat_eq xs k)))
      | inr other ↦ get_or-set_other marks k s true false other.1 ∙ before s ∙ sym (ap (λ c. is_member nat_eq xs s || c) other.0 ∙ or_false (is_member nat_eq xs s))
    ]

pub mark_more : (f : ℕ → ℕ) (marks : List Bool) (row k : ℕ) → k < length marks → k ≡ f row → ((s : ℕ) → get_or marks s false ≡ is_member nat_eq (map f (range_with_len 0 row)) s)
    → (s : ℕ) → get_or (set marks k true) s false ≡ is_member nat_eq (map f (range_with_len 0 (row + 1))) s
mark_more f marks row k lt is before s =
    mark_next (map f (range_with_len 0 row)) marks k lt before s
    ∙ ap (λ xs. is_member nat_eq xs s) (ap (λ (x : ℕ). map f (range_with_len 0 row) ++ x ∷ []) is ∙ sym (map-range_with_len_more f 0 row row (omega arith)))

-- ---- their count

-- the places of the marks, the first place being n
abbrev places_from : ℕ → List Bool → List ℕ
places_from n [] = []
places_from n (m ∷ ms) = cond m (n ∷ places_from (n + 1) ms) (places_from (n + 1) ms)

length_places : (n : ℕ) (ms : List Bool) → length (places_from n ms) ≡ count_by (λ m. m) ms
length_places n [] = refl
length_places n (true ∷ ms) = let rest = length_places (n + 1) ms in let more = sum_by-cons (λ m. cond m 1 0) true ms in omega (arith, rest, more)
length_places n (false ∷ ms) = let rest = length_places (n + 1) ms in let more = sum_by-cons (λ m. cond m 1 0) false ms in omega (arith, rest, more)

pub apart : (m n : ℕ) → m ≢ n → nat_eq m n ≡ false
apart m n ne = elim (eqb_tells m n) [ inl same ↦ absurd (ne same.1) | inr other ↦ other.0 ]

places_apart : (x n : ℕ) (ms : List Bool) → x < n → AllByRecursion (λ y. nat_eq x y ≡ false) (places_from n ms)
places_apart x n [] lt = tt
places_apart x n (true ∷ ms) lt = let ne : x ≢ n = omega arith in (apart x n ne, places_apart x (n + 1) ms (omega arith))
places_apart x n (false ∷ ms) lt = places_apart x (n + 1) ms (omega arith)

places_distinct : (n : ℕ) (ms : List Bool) → IsDistinct nat_eq (places_from n ms)
unfolding IsDistinct
places_distinct n [] = tt
places_distinct n (true ∷ ms) = (places_apart n (n + 1) ms (omega arith), places_distinct (n + 1) ms)
places_distinct n (false ∷ ms) = places_distinct (n + 1) ms

not_below : (x n : ℕ) (ms : List Bool) → x < n → is_member nat_eq (places_from n ms) x ≡ false
not_below x n [] lt = refl
not_below x n (true ∷ ms) lt = let ne : x ≢ n = omega arith in rw (apart x n ne) (not_below x (n + 1) ms (omega arith))
not_below x n (false ∷ ms) lt = not_below x (n + 1) ms (omega arith)

same_number : (m n : ℕ) → m ≡ n → nat_eq m n ≡ true
same_number m n e = elim (eqb_tells m n) [ inl same ↦ same.0 | inr other ↦ absurd (other.1 e) ]

place_there : (x n i : ℕ) (ms : List Bool) → n + i ≡ x → is_member nat_eq (places_from n ms) x ≡ get_or ms i false
place_there x n i [] at = refl
place_there x n zero (true ∷ ms) at = let same : x ≡ n = omega arith in ap (λ b. b || is_member nat_eq (places_from (n + 1) ms) x) (same_number x n same)
place_there x n zero (false ∷ ms) at = not_below x (n + 1) ms (omega arith)
place_there x n (suc i) (true ∷ ms) at = let ne : x ≢ n = omega arith in ap (λ b. b || is_member nat_eq (places_from (n + 1) ms) x) (apart x n ne) ∙ place_there x (n + 1) i ms (omega arith)
place_there x n (suc i) (false ∷ ms) at = place_there x (n + 1) i ms (omega arith)

pub marks_counted : (marks : List Bool) (xs : List ℕ) → ((s : ℕ) → get_or marks s false ≡ is_member nat_eq xs s) → count_by (λ m. m) marks ≡ distinct_count nat_eq xs
marks_counted marks xs h = sym (length_places 0 marks) ∙ length-from_keys nat_eq_equiv (places_from 0 marks) xs (places_distinct 0 marks) (λ q. place_there q 0 q marks (omega arith) ∙ h q)

-- ---- two lists with the same items equal

length_cond : {A : Type 0} (b : Bool) (x : A) (xs : List A) → length (cond b xs (x ∷ xs)) ≡ cond b (length xs) (suc (length xs))
length_cond true x xs = refl
length_cond false x xs = refl

module _ {A B : Type 0} (d : A → A → Bool) (e : B → B → Bool) (f : ℕ → A) (g : ℕ → B) (most : ℕ) (alike : (i j : ℕ) → i < most → j < most → d (f i) (f j) ≡ e (g i) (g j)) where
  member_alike : (x a n : ℕ) → x < most → a + n ≤ most → is_member d (map f (range_with_len a n)) (f x) ≡ is_member e (map g (range_with_len a n)) (g x)
  member_alike x a zero lt le = refl
  member_alike x a (suc n) lt le = rw (alike x a lt (omega arith), member_alike x (a + 1) n lt (omega arith)) refl

  count_alike : (a n : ℕ) → a + n ≤ most → distinct_count d (map f (range_with_len a n)) ≡ distinct_count e (map g (range_with_len a n))
  count_alike a zero le = refl
  count_alike a (suc n) le =
      length_cond (is_member d (map f (range_with_len (a + 1) n)) (f a)) (f a) (unique_keys d (map f (range_with_len (a + 1) n)))
      ∙ ap (λ b. cond b (distinct_count d (map f (range_with_len (a + 1) n))) (suc (distinct_count d (map f (range_with_len (a + 1) n))))) (member_alike a (a + 1) n (omega arith) (omega arith))
      ∙ ap (λ (m : ℕ). cond (is_member e (map g (range_with_len (a + 1) n)) (g a)) m (suc m)) (count_alike (a + 1) n (omega arith))
      ∙ sym (length_cond (is_member e (map g (range_with_len (a + 1) n)) (g a)) (g a) (unique_keys e (map g (range_with_len (a + 1) n))))

keys_listed : (rows : List Row) (places : List ℕ) → map (values_at places) rows ≡ map (key_at rows places) (range_with_len 0 (length rows))
keys_listed rows places = fill_by_all (key_at rows places) (map (values_at places) rows) (length rows) [] (length-map rows (values_at places)) (λ k lt. get_or-map (values_at places) rows k [] [] lt)

-- as many marks as different keys
pub marked_keys : (rows : List Row) (places : List ℕ) (cs : List DigitColumn) (marks : List Bool) → ColumnsOf rows places cs → AreMarked cs (length rows) marks → count_by (λ m. m) marks ≡ different_keys rows places
marked_keys rows places cs marks h marked =
    marks_counted marks (map (λ row. slot_in row cs) (range_with_len 0 (length rows))) marked
    ∙ count_alike nat_eq key_eq (λ row. slot_in row cs) (key_at rows places) (length rows) (λ i j low high. slot_alike rows places cs i j h low high) 0 (length rows) (omega arith)
    ∙ ap (distinct_count key_eq) (sym (keys_listed rows places))
