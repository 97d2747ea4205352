-- The first row that repeats an earlier one on some list.
use Rattle.std.proofs.Common.{◌≡◌, ℕ, ◌+◌, ◌-◌, ◌<◌, ◌≤◌, List, [], ◌∷◌, ◌++◌, length, true, false, slice_index_or, Option, Some, None, MatchOption, refl, sym, ap, ◌∙◌, subst, arith, inl, inr}
use Rattle.std.specs.List.{list_any, AllByRecursion}
use Rattle.std.proofs.lemmas.Bool.{cases_order}
use Rattle.values.specs.Truth.{is_null}
use Rattle.values.proofs.Counts.{below_or_last}
use Rattle.values.proofs.Lists.{all_append}
use Rattle.schema.specs.Databases.{Row, values_at, IsUnique}
use Rattle.store.specs.Keys.{key_eq, key_decides}
use Rattle.store.specs.Chains.{IsNewest, IsNowhere, bucket_of, bucket_at}
use Rattle.store.specs.declared.unique.Repeat.{Repeat}
use Rattle.store.specs.Tables.{UniqueTo, RepeatsAt, RepeatsFirst}
use Rattle.store.specs.Parsing.{EarliestRepeat}

-- ---- one list, row after row

-- a row with a Null at the places
pub unique_null : (rows : List Row) (places : List ℕ) (i : ℕ) → UniqueTo i rows places → list_any is_null (values_at places (slice_index_or rows i [])) ≡ true → UniqueTo (i + 1) rows places
unique_null rows places i h null a b lt low whole same =
    elim (below_or_last b i low) [
      | inl below ↦ h a b lt below whole same
      | inr is ↦ let bad : list_any is_null (values_at places (slice_index_or rows a [])) ≡ true = ap (list_any is_null) (same ∙ ap (λ (j : ℕ). values_at places (slice_index_or rows j [])) is) ∙ null in cc (bad, whole)
    ]

bucket_whole : (rows : List Row) (places : List ℕ) (buckets i : ℕ) → list_any is_null (values_at places (slice_index_or rows i [])) ≡ false → bucket_at rows places buckets i ≡ bucket_of buckets (values_at places (slice_index_or rows i []))
bucket_whole rows places buckets i whole = rw whole refl

pub bucket_null : (rows : List Row) (places : List ℕ) (buckets i : ℕ) → list_any is_null (values_at places (slice_index_or rows i [])) ≡ true → bucket_at rows places buckets i ≡ buckets
bucket_null rows places buckets i null = rw null refl

-- the bucket of a row by its key
pub bucket_key : (rows : List Row) (places : List ℕ) (buckets i bucket : ℕ) (key : Row) → bucket ≡ bucket_of buckets key → key ≡ values_at places (slice_index_or rows i []) → list_any is_null (values_at places (slice_index_or rows i [])) ≡ false
    → bucket_at rows places buckets i ≡ bucket
bucket_key rows places buckets i bucket key at is whole = bucket_whole rows places buckets i whole ∙ ap (bucket_of buckets) (sym is) ∙ sym at

-- a row whose key none of its bucket has
pub unique_new : (rows : List Row) (places : List ℕ) (buckets i bucket : ℕ) (key : Row) → UniqueTo i rows places → IsNowhere rows places buckets i bucket key → bucket ≡ bucket_of buckets key
    → key ≡ values_at places (slice_index_or rows i []) → UniqueTo (i + 1) rows places
unique_new rows places buckets i bucket key h nowhere at is a b lt low whole same =
    elim (below_or_last b i low) [
      | inl below ↦ h a b lt below whole same
      | inr last ↦
          let again : values_at places (slice_index_or rows a []) ≡ key = same ∙ ap (λ (j : ℕ). values_at places (slice_index_or rows j [])) last ∙ sym is in
          nowhere a (omega arith) (bucket_key rows places buckets a bucket key at (sym again) whole) again
    ]

-- keys that are found to differ
pub keys_apart : (k l : Row) → key_eq k l ≡ false → k ≡ l → ⊥
keys_apart k l other same = let is = (key_decides k l).1 same in cc (is, other)

-- none of the bucket's rows from this one on has the key; those before it are still to be looked at
pub record IsSought (rows : List Row) (places : List ℕ) (buckets n bucket : ℕ) (key : Row) (at : ℕ) : Type 0 where
  pub within : at ≤ n
  pub there : 0 < at → bucket_at rows places buckets (at - 1) ≡ bucket
  pub apart : (j : ℕ) → at ≤ j → j < n → bucket_at rows places buckets j ≡ bucket → values_at places (slice_index_or rows j []) ≡ key → ⊥

pub sought_first : (rows : List Row) (places : List ℕ) (buckets n bucket : ℕ) (key : Row) (at : ℕ) → IsNewest (bucket_at rows places buckets) bucket n at → IsSought rows places buckets n bucket key at
sought_first rows places buckets n bucket key at h = record { within = h.within; there = h.there; apart = λ j low high is same. h.apart j low high is }

pub sought_next : (rows : List Row) (places : List ℕ) (buckets n bucket : ℕ) (key : Row) (at next : ℕ) → 0 < at → IsSought rows places buckets n bucket key at
    → (values_at places (slice_index_or rows (at - 1) []) ≡ key → ⊥) → IsNewest (bucket_at rows places buckets) (bucket_at rows places buckets (at - 1)) (at - 1) next → IsSought rows places buckets n bucket key next
sought_next rows places buckets n bucket key at next some h other newest =
    let here = h.there some in
    record {
      within = let le = h.within in let lower = newest.within in omega (arith, le, lower);
      there = λ more. newest.there more ∙ here;
      apart = λ j low high is same.
          elim (cases_order j (at - 1)) [
            | inl last ↦ other (ap (λ (k : ℕ). values_at places (slice_index_or rows k [])) (sym last) ∙ same)
            | inr apart ↦
                elim apart [
                  | inl before ↦ newest.apart j low before (is ∙ sym here)
                  | inr past ↦ h.apart j (omega arith) high is same
                ]
          ];
    }

-- ---- several lists

unique_below : (n m : ℕ) (rows : List Row) (places : List ℕ) → m ≤ n → UniqueTo n rows places → UniqueTo m rows places
unique_below n m rows places le h = λ i j lt low whole same. h i j lt (omega arith) whole same

pub all_below : (n m : ℕ) (rows : List Row) (lists : List (List ℕ)) → m ≤ n → AllByRecursion (UniqueTo n rows) lists → AllByRecursion (UniqueTo m rows) lists
all_below n m rows [] le h = tt
all_below n m rows (u ∷ us) le h = (unique_below n m rows u le h.0, all_below n m rows us le h.1)

stays : (rows : List Row) (row e : ℕ) (lists : List (List ℕ)) (u : List ℕ) → RepeatsFirst rows row e lists → RepeatsFirst rows row e (lists ++ u ∷ [])
stays rows row e [] u h = absurd h
stays rows row e (v ∷ us) u (inl h) = inl h
stays rows row e (v ∷ us) u (inr h) = inr (h.0, stays rows row e us u h.1)

comes : (rows : List Row) (row e : ℕ) (lists : List (List ℕ)) (u : List ℕ) → AllByRecursion (UniqueTo (row + 1) rows) lists → RepeatsAt rows row e u → RepeatsFirst rows row e (lists ++ u ∷ [])
comes rows row e [] u h g = inl g
comes rows row e (v ∷ us) u h g = inr (h.0, comes rows row e us u h.1 g)

-- what was found on the lists so far, and the number of rows that still matter
pub record IsFound (rows : List Row) (lists : List (List ℕ)) (limit : ℕ) (found : Option Repeat) : Type 0 where
  pub before : AllByRecursion (UniqueTo limit rows) lists
  pub within : limit ≤ length rows
  pub there : MatchOption found (limit ≡ length rows) (λ r. (r.row ≡ limit) × (limit < length rows) × RepeatsFirst rows limit r.earlier lists)

there_stays : (rows : List Row) (lists : List (List ℕ)) (u : List ℕ) (limit : ℕ) (found : Option Repeat)
    → MatchOption found (limit ≡ length rows) (λ r. (r.row ≡ limit) × (limit < length rows) × RepeatsFirst rows limit r.earlier lists)
    → MatchOption found (limit ≡ length rows) (λ r. (r.row ≡ limit) × (limit < length rows) × RepeatsFirst rows limit r.earlier (lists ++ u ∷ []))
there_stays rows lists u limit None h = h
there_stays rows lists u limit (Some r) h = (h.0, h.1, stays rows limit r.earlier lists u h.2)

pub found_none : (rows : List Row) (lists : List (List ℕ)) (u : List ℕ) (limit : ℕ) (found : Option Repeat) → IsFound rows lists limit found → UniqueTo limit rows u → IsFound rows (lists ++ u ∷ []) limit found
found_none rows lists u limit found h g = record { before = all_append (UniqueTo limit rows) lists (u ∷ []) h.before (g, tt); within = h.within; there = there_stays rows lists u limit found h.there }

pub found_one : (rows : List Row) (lists : List (List ℕ)) (u : List ℕ) (limit : ℕ) (found : Option Repeat) (r : Repeat) → IsFound rows lists limit found → r.row < limit → UniqueTo r.row rows u → RepeatsAt rows r.row r.earlier u
    → IsFound rows (lists ++ u ∷ []) r.row (Some r)
found_one rows lists u limit found r h low g at =
    let le = h.within in
    record {
      before = all_append (UniqueTo r.row rows) lists (u ∷ []) (all_below limit r.row rows lists (omega arith) h.before) (g, tt);
      within = omega arith;
      there = (refl, omega arith, comes rows r.row r.earlier lists u (all_below limit (r.row + 1) rows lists (omega arith) h.before) at);
    }

-- at the end
pub found_all : (rows : List Row) (lists : List (List ℕ)) (limit : ℕ) (found : Option Repeat) → IsFound rows lists limit found → MatchOption found (AllByRecursion (IsUnique rows) lists) (EarliestRepeat rows lists)
found_all rows lists limit None h = subst (λ (n : ℕ). AllByRecursion (UniqueTo n rows) lists) h.there h.before
found_all rows lists limit (Some r) h =
    let is = sym h.there.0 in
    record {
      within = rw h.there.0 h.there.1;
      before = subst (λ (n : ℕ). AllByRecursion (UniqueTo n rows) lists) is h.before;
      there = subst (λ (n : ℕ). RepeatsFirst rows n r.earlier lists) is h.there.2;
    }
