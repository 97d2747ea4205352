-- Members that are put one after the other at names that differ.
use Rattle.std.proofs.Common.{◌≡◌, ◌≢◌, ℕ, zero, suc, ◌+◌, ◌<◌, ◌≤◌, List, [], ◌∷◌, length, map, Option, Some, None, Ordering, Less, Equal, Greater, slice_index_or, refl, sym, ap, ◌∙◌, arith, below_more}
use Rattle.std.specs.Cmp.Lexicographic.{slice_cmp}
use Rattle.std.specs.List.{slice_get}
use Rattle.std.specs.Ordering.{nat_cmp, match_ordering}
use Rattle.std.proofs.lemmas.List.{length-map}
use Rattle.std.proofs.lemmas.Option.{slice_get_within}
use Rattle.serde_json.specs.Data.{Data, Members, no_members, member, put, depth, members_depth}
use Rattle.serde_json.specs.Events.{members_len}
use Rattle.serde_json.specs.Find.{get_member}
use Rattle.serde_json.proofs.Views.{get_member-put, get_member-put_other}
use Rattle.schema.specs.Each.{Pairs}
use Rattle.schema.specs.Names.{Name}
use Rattle.schema.specs.Schemas.{AreDifferent}

-- ---- how many, and how deep

len_put_at : (o : Ordering) (k l : Name) (d e : Data) (ms : Members) → slice_cmp nat_cmp k l ≡ o → get_member k (member l e ms) ≡ None → (get_member k ms ≡ None → members_len (put k d ms) ≡ suc (members_len ms))
    → members_len (match_ordering o (member k d (member l e ms)) (member l d ms) (member l e (put k d ms))) ≡ suc (suc (members_len ms))
len_put_at Less k l d e ms is none later = refl
len_put_at Equal k l d e ms is none later = let found = rw is at none in cc
len_put_at Greater k l d e ms is none later = ap suc (later (rw is at none))

-- a new name is a member more
pub len_put : (k : Name) (d : Data) (ms : Members) → get_member k ms ≡ None → members_len (put k d ms) ≡ suc (members_len ms)
len_put k d no_members none = refl
len_put k d (member l e ms) none = len_put_at _ k l d e ms refl none (len_put k d ms)

depth_put_at : (o : Ordering) (k l : Name) (d e : Data) (ms : Members) (n : ℕ) → depth d ≤ n → depth e ≤ n → members_depth ms ≤ n → members_depth (put k d ms) ≤ n
    → members_depth (match_ordering o (member k d (member l e ms)) (member l d ms) (member l e (put k d ms))) ≤ n
depth_put_at Less k l d e ms n first second others later = omega arith
depth_put_at Equal k l d e ms n first second others later = omega arith
depth_put_at Greater k l d e ms n first second others later = omega arith

pub depth_put : (k : Name) (d : Data) (ms : Members) (n : ℕ) → depth d ≤ n → members_depth ms ≤ n → members_depth (put k d ms) ≤ n
depth_put k d no_members n first others = omega arith
depth_put k d (member l e ms) n first others =
    let here : depth e ≤ n = omega arith in
    let more : members_depth ms ≤ n = omega arith in
    depth_put_at (slice_cmp nat_cmp k l) k l d e ms n first here more (depth_put k d ms n first more)

-- ---- what stands at which name

module _ {A : Type 0} (name_of : A → Name) where
  name_at : (xs : List A) (i : ℕ) (x : A) → slice_get xs i ≡ Some x → slice_index_or (map name_of xs) i [] ≡ name_of x
  name_at [] i x at = cc
  name_at (y ∷ xs) zero x at = let same : y ≡ x = cc in ap name_of same
  name_at (y ∷ xs) (suc i) x at = name_at xs i x at

  differ : (xs : List A) (i j : ℕ) (x y : A) → AreDifferent (map name_of xs) → i < j → slice_get xs i ≡ Some x → slice_get xs j ≡ Some y → name_of x ≢ name_of y
  differ xs i j x y different before first second same =
      let below = slice_get_within xs j y second in
      let size = length-map xs name_of in
      different i j before (omega arith) (name_at xs i x first ∙ same ∙ sym (name_at xs j y second))

module _ {A B : Type 0} (name_of : A → Name) (S : A → B → Option Data → Type 0) (xs : List A) (ys : List B) where
  -- what stands at the names of the first n is such, and nothing stands at the names of the others
  pub record ArePut (n : ℕ) (ms : Members) : Type 0 where
    pub each : (k : ℕ) → k < n → (x : A) (y : B) → slice_get xs k ≡ Some x → slice_get ys k ≡ Some y → S x y (get_member (name_of x) ms)
    pub others : (k : ℕ) → n ≤ k → (x : A) → slice_get xs k ≡ Some x → get_member (name_of x) ms ≡ None

  pub none_put : ArePut 0 no_members
  none_put = record {
    each = λ k below. absurd (omega arith);
    others = λ k above x at. refl;
  }

  pub one_put : (n : ℕ) (x : A) (y : B) (d : Data) (ms : Members) → AreDifferent (map name_of xs) → slice_get xs n ≡ Some x → slice_get ys n ≡ Some y → S x y (Some d) → ArePut n ms → ArePut (n + 1) (put (name_of x) d ms)
  one_put n x y d ms different at at' such h = record {
    each = below_more (λ k. (u : A) (v : B) → slice_get xs k ≡ Some u → slice_get ys k ≡ Some v → S u v (get_member (name_of u) (put (name_of x) d ms))) n
        (λ k below u v first second. rw (get_member-put_other (name_of u) (name_of x) d ms (differ name_of xs k n u x different below first at)) (h.each k below u v first second))
        (λ u v first second. let same : u ≡ x = cc in let same' : v ≡ y = cc in rw (same, same', get_member-put (name_of x) d ms) such);
    others = λ k above u first.
        let before : n < k = omega arith in
        let apart = λ (e : name_of u ≡ name_of x). differ name_of xs n k x u different before at first (sym e) in
        get_member-put_other (name_of u) (name_of x) d ms apart ∙ h.others k (omega arith) u first;
  }

  -- or nothing is put, where that is such
  pub one_left_out : (n : ℕ) (x : A) (y : B) (ms : Members) → slice_get xs n ≡ Some x → slice_get ys n ≡ Some y → S x y None → ArePut n ms → ArePut (n + 1) ms
  one_left_out n x y ms at at' such h = record {
    each = below_more (λ k. (u : A) (v : B) → slice_get xs k ≡ Some u → slice_get ys k ≡ Some v → S u v (get_member (name_of u) ms)) n
        h.each
        (λ u v first second. let same : u ≡ x = cc in let same' : v ≡ y = cc in let none = h.others n (omega arith) x at in rw (same, same', none) such);
    others = λ k above u first. h.others k (omega arith) u first;
  }

pub pairs_from : {A B : Type 0} (R : A → B → Type 0) (xs : List A) (ys : List B) → length xs ≡ length ys → ((k : ℕ) (x : A) (y : B) → slice_get xs k ≡ Some x → slice_get ys k ≡ Some y → R x y) → Pairs R xs ys
pairs_from R [] [] size f = tt
pairs_from R [] (y ∷ ys) size f = absurd (omega arith)
pairs_from R (x ∷ xs) [] size f = absurd (omega arith)
pairs_from R (x ∷ xs) (y ∷ ys) size f = (f 0 x y refl refl, pairs_from R xs ys (omega arith) (λ k. f (suc k)))

pub pairs_get : {A B : Type 0} (R : A → B → Type 0) (xs : List A) (ys : List B) (k : ℕ) (x : A) (y : B) → Pairs R xs ys → slice_get xs k ≡ Some x → slice_get ys k ≡ Some y → R x y
pairs_get R [] [] k x y h at at' = cc at
pairs_get R [] (v ∷ ys) k x y h at at' = absurd h
pairs_get R (u ∷ xs) [] k x y h at at' = absurd h
pairs_get R (u ∷ xs) (v ∷ ys) zero x y h at at' = let same : u ≡ x = cc in let same' : v ≡ y = cc in rw (← same, ← same') h.0
pairs_get R (u ∷ xs) (v ∷ ys) (suc k) x y h at at' = pairs_get R xs ys k x y h.1 at at'
