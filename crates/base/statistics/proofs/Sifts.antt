-- Numbers that are told apart by slots: one number more.
use Rattle.std.proofs.Common.{◌≡◌, ◌≢◌, refl, sym, ap, ◌∙◌, subst, ℕ, suc, ◌+◌, ◌<◌, Bool, true, false, cond, ◌||◌, List, [], ◌∷◌, ◌++◌, length, get_or, set, nat_eq, inl, inr, ◌⊎◌, arith}
use Rattle.std.specs.Set.{is_member, distinct_count, unique_keys}
use Rattle.std.proofs.lemmas.Bool.{cases_eq}
use Rattle.std.specs.Bool.{Decides}
use Rattle.std.proofs.lemmas.Bool.Decides.{Decides-eqb}
use Rattle.std.proofs.lemmas.List.{get_or-set_same, get_or-set_other, length-append, length-set, get_or_default}
use Rattle.std.proofs.lemmas.List.Folds.{list_any-append}
use Rattle.statistics.specs.NumberKeys.{AreSifted, IsFound, slot_in_sift}
use Rattle.statistics.proofs.Marks.{or_false, or_true}

-- ---- members of a list with one more

module _ {K : Type 0} (eq : K → K → Bool) (same : (a b : K) → Decides (eq a b) (a ≡ b)) where
  itself : (v : K) → eq v v ≡ true
  itself v = (same v v).1 refl

  pub member-more : (xs : List K) (v q : K) → is_member eq (xs ++ v ∷ []) q ≡ (is_member eq xs q || eq q v)
  member-more xs v q = list_any-append (eq q) xs (v ∷ []) ∙ ap (λ b. is_member eq xs q || b) (or_false (eq q v))

  member-kept : (xs : List K) (v q : K) → is_member eq xs q ≡ true → is_member eq (xs ++ v ∷ []) q ≡ true
  member-kept xs v q is = member-more xs v q ∙ ap (λ b. b || eq q v) is

  member-last : (xs : List K) (v : K) → is_member eq (xs ++ v ∷ []) v ≡ true
  member-last xs v = member-more xs v v ∙ ap (λ b. is_member eq xs v || b) (itself v) ∙ or_true (is_member eq xs v)

  -- a member is one that was there, or the last
  member-split : (xs : List K) (v q : K) → is_member eq (xs ++ v ∷ []) q ≡ true → (is_member eq xs q ≡ true) ⊎ (q ≡ v)
  member-split xs v q is = by (is_member eq xs q) refl
    where
      by : (b : Bool) → is_member eq xs q ≡ b → (is_member eq xs q ≡ true) ⊎ (q ≡ v)
      by true e = inl e
      by false e = inr ((same q v).0 (sym (member-more xs v q ∙ ap (λ b. b || eq q v) e) ∙ is))

  length-cond : (b : Bool) (x : K) (xs : List K) → length (cond b xs (x ∷ xs)) ≡ cond b (length xs) (suc (length xs))
  length-cond true x xs = refl
  length-cond false x xs = refl

  -- it counts where it is new
  pub distinct-more : (xs : List K) (v : K) → distinct_count eq (xs ++ v ∷ []) ≡ distinct_count eq xs + cond (is_member eq xs v) 0 1
  distinct-more [] v = refl
  distinct-more (x ∷ xs) v =
      length-cond (is_member eq (xs ++ v ∷ []) x) x (unique_keys eq (xs ++ v ∷ []))
      ∙ ap (λ b. cond b (distinct_count eq (xs ++ v ∷ [])) (suc (distinct_count eq (xs ++ v ∷ [])))) (member-more xs v x)
      ∙ step (distinct-more xs v) (eq x v) refl
      ∙ sym (ap (λ n. n + cond (is_member eq (x ∷ xs) v) 0 1) (length-cond (is_member eq xs x) x (unique_keys eq xs)))
    where
      by-same : (m w : Bool) (more n : ℕ) → m ≡ w → more ≡ n + cond w 0 1 → cond (m || true) more (suc more) ≡ cond m n (suc n) + 0
      by-same true true more n is h = h
      by-same false false more n is h = omega (arith, h)
      by-same true false more n is h = cc is
      by-same false true more n is h = cc is

      by-other : (m w : Bool) (more n : ℕ) → more ≡ n + cond w 0 1 → cond (m || false) more (suc more) ≡ cond m n (suc n) + cond w 0 1
      by-other true w more n h = h
      by-other false true more n h = omega (arith, h)
      by-other false false more n h = omega (arith, h)

      apart-turned : eq x v ≡ false → (b : Bool) → eq v x ≡ b → eq v x ≡ false
      apart-turned e false f = f
      apart-turned e true f = let t : eq x v ≡ true = (same x v).1 (sym ((same v x).0 f)) in cc (sym e ∙ t)

      step : distinct_count eq (xs ++ v ∷ []) ≡ distinct_count eq xs + cond (is_member eq xs v) 0 1 → (b : Bool) → eq x v ≡ b → cond (is_member eq xs x || eq x v) (distinct_count eq (xs ++ v ∷ [])) (suc (distinct_count eq (xs ++ v ∷ []))) ≡ cond (is_member eq xs x) (distinct_count eq xs) (suc (distinct_count eq xs)) + cond (is_member eq (x ∷ xs) v) 0 1
      step more true e =
          let is : x ≡ v = (same x v).0 e in
          ap (λ b. cond (is_member eq xs x || b) (distinct_count eq (xs ++ v ∷ [])) (suc (distinct_count eq (xs ++ v ∷ [])))) e
          ∙ by-same (is_member eq xs x) (is_member eq xs v) (distinct_count eq (xs ++ v ∷ [])) (distinct_count eq xs) (ap (is_member eq xs) is) more
          ∙ ap (λ b. cond (is_member eq xs x) (distinct_count eq xs) (suc (distinct_count eq xs)) + cond (b || is_member eq xs v) 0 1) (sym ((same v x).1 (sym is)))
      step more false e =
          ap (λ b. cond (is_member eq xs x || b) (distinct_count eq (xs ++ v ∷ [])) (suc (distinct_count eq (xs ++ v ∷ [])))) e
          ∙ by-other (is_member eq xs x) (is_member eq xs v) (distinct_count eq (xs ++ v ∷ [])) (distinct_count eq xs) more
          ∙ ap (λ b. cond (is_member eq xs x) (distinct_count eq xs) (suc (distinct_count eq xs)) + cond (b || is_member eq xs v) 0 1) (sym (apart-turned e (eq v x) refl))

-- ---- a number more

module _ (slot : ℕ → ℕ) (first v : ℕ) (seen kept : List ℕ) (told : ℕ) (others : List ℕ) (h : AreSifted slot first seen kept told others) where
  there : ℕ
  there = get_or kept (slot v) first

  counted-again : is_member nat_eq seen v ≡ true → distinct_count nat_eq (seen ++ v ∷ []) ≡ told + distinct_count nat_eq others
  counted-again is = distinct-more nat_eq Decides-eqb seen v ∙ ap (λ b. distinct_count nat_eq seen + cond b 0 1) is ∙ omega (arith, h.count)

  -- one that was seen
  pub seen-again : (v ≡ first) ⊎ (get_or kept (slot v) first ≡ v) → is_member nat_eq seen first ≡ true → AreSifted slot first (seen ++ v ∷ []) kept told others
  seen-again which has = record {
    count = counted-again (elim which [ inl e ↦ ap (is_member nat_eq seen) e ∙ has | inr e ↦ ap (is_member nat_eq seen) (sym e) ∙ h.kept_are_seen (slot v) ]);
    some = h.some;
    most = let le = h.most in let long = length-append seen (v ∷ []) in omega (arith, le, long);
    kept_are_seen = λ s. member-kept nat_eq Decides-eqb seen v (get_or kept s first) (h.kept_are_seen s);
    others_are_seen = λ q is. member-kept nat_eq Decides-eqb seen v q (h.others_are_seen q is);
    found = λ q is. elim (member-split nat_eq Decides-eqb seen v q is) [
      | inl old ↦ h.found q old
      | inr new ↦ subst (IsFound slot first kept others) (sym new) (elim which [ inl e ↦ inl e | inr e ↦ inr (inl e) ])
    ];
  }

  -- one whose slot is free
  pub seen-first : slot v < length kept → v ≢ first → get_or kept (slot v) first ≡ first → AreSifted slot first (seen ++ v ∷ []) (set kept (slot v) v) (told + 1) others
  seen-first within new free = record {
    count = distinct-more nat_eq Decides-eqb seen v ∙ ap (λ b. distinct_count nat_eq seen + cond b 0 1) (unseen (is_member nat_eq seen v) refl) ∙ omega (arith, h.count);
    some = let le = h.some in omega (arith, le);
    most = let le = h.most in let long = length-append seen (v ∷ []) in omega (arith, le, long);
    kept_are_seen = λ s. elim (cases_eq s (slot v)) [
      | inl same ↦ ap (λ k. is_member nat_eq (seen ++ v ∷ []) (get_or (set kept (slot v) v) k first)) same ∙ ap (is_member nat_eq (seen ++ v ∷ [])) (get_or-set_same kept (slot v) v first within) ∙ member-last nat_eq Decides-eqb seen v
      | inr off ↦ ap (is_member nat_eq (seen ++ v ∷ [])) (get_or-set_other kept (slot v) s v first off) ∙ member-kept nat_eq Decides-eqb seen v (get_or kept s first) (h.kept_are_seen s)
    ];
    others_are_seen = λ q is. member-kept nat_eq Decides-eqb seen v q (h.others_are_seen q is);
    found = λ q is. elim (member-split nat_eq Decides-eqb seen v q is) [
      | inl old ↦ still q (h.found q old)
      | inr last ↦ inr (inl (ap (λ x. get_or (set kept (slot v) v) (slot x) first) last ∙ get_or-set_same kept (slot v) v first within ∙ sym last))
    ];
  }
    where
      -- it can't be found
      unseen : (b : Bool) → is_member nat_eq seen v ≡ b → is_member nat_eq seen v ≡ false
      unseen false e = e
      unseen true e = elim (h.found v e) [
        | inl is ↦ absurd (new is)
        | inr rest ↦ elim rest [ inl is ↦ absurd (new (sym is ∙ free)) | inr taken ↦ absurd (taken.1 free) ]
      ]

      other-slot : (q : ℕ) → slot q ≢ slot v → get_or (set kept (slot v) v) (slot q) first ≡ get_or kept (slot q) first
      other-slot q off = get_or-set_other kept (slot v) (slot q) v first off

      still : (q : ℕ) → IsFound slot first kept others q → IsFound slot first (set kept (slot v) v) others q
      still q f = elim (cases_eq (slot q) (slot v)) [
        | inl same ↦
            let nothing : get_or kept (slot q) first ≡ first = ap (λ k. get_or kept k first) same ∙ free in
            elim f [
              | inl is ↦ inl is
              | inr rest ↦ elim rest [ inl is ↦ inl (sym is ∙ nothing) | inr taken ↦ absurd (taken.1 nothing) ]
            ]
        | inr off ↦ elim f [
          | inl is ↦ inl is
          | inr rest ↦ elim rest [ inl is ↦ inr (inl (other-slot q off ∙ is)) | inr taken ↦ inr (inr (taken.0, λ e. taken.1 (sym (other-slot q off) ∙ e))) ]
        ]
      ]

  -- one whose slot another has
  pub seen-other : v ≢ first → get_or kept (slot v) first ≢ v → get_or kept (slot v) first ≢ first → AreSifted slot first (seen ++ v ∷ []) kept told (others ++ v ∷ [])
  seen-other new apart taken = record {
    count = distinct-more nat_eq Decides-eqb seen v ∙ ap (λ b. distinct_count nat_eq seen + cond b 0 1) (alike (is_member nat_eq seen v) (is_member nat_eq others v) refl refl)
        ∙ omega (arith, h.count, distinct-more nat_eq Decides-eqb others v);
    some = h.some;
    most = let le = h.most in let long = length-append seen (v ∷ []) in let more = length-append others (v ∷ []) in omega (arith, le, long, more);
    kept_are_seen = λ s. member-kept nat_eq Decides-eqb seen v (get_or kept s first) (h.kept_are_seen s);
    others_are_seen = λ q is. elim (member-split nat_eq Decides-eqb others v q is) [
      | inl old ↦ member-kept nat_eq Decides-eqb seen v q (h.others_are_seen q old)
      | inr last ↦ ap (is_member nat_eq (seen ++ v ∷ [])) last ∙ member-last nat_eq Decides-eqb seen v
    ];
    found = λ q is. elim (member-split nat_eq Decides-eqb seen v q is) [
      | inl old ↦ elim (h.found q old) [
        | inl is ↦ inl is
        | inr rest ↦ elim rest [ inl is ↦ inr (inl is) | inr among ↦ inr (inr (member-kept nat_eq Decides-eqb others v q among.0, among.1)) ]
      ]
      | inr last ↦ inr (inr (ap (is_member nat_eq (others ++ v ∷ [])) last ∙ member-last nat_eq Decides-eqb others v, λ e. taken (ap (λ x. get_or kept (slot x) first) (sym last) ∙ e)))
    ];
  }
    where
      alike : (b c : Bool) → is_member nat_eq seen v ≡ b → is_member nat_eq others v ≡ c → is_member nat_eq seen v ≡ is_member nat_eq others v
      alike true true e f = e ∙ sym f
      alike false false e f = e ∙ sym f
      alike false true e f = let t : is_member nat_eq seen v ≡ true = h.others_are_seen v f in t ∙ sym f
      alike true false e f = elim (h.found v e) [
        | inl is ↦ absurd (new is)
        | inr rest ↦ elim rest [ inl is ↦ absurd (apart is) | inr among ↦ e ∙ sym among.0 ]
      ]

-- ---- as code has it

-- what stands in the slot of a number, where slots are read with another default
pub in-slot : (slot : ℕ → ℕ) (first v : ℕ) (xs kept : List ℕ) (k : ℕ) → xs ≡ kept → k ≡ slot v → k < length kept → get_or kept (slot v) first ≡ get_or xs k 0
in-slot slot first v xs kept k same here low = subst (λ (i : ℕ). get_or kept i first ≡ get_or xs k 0) here (get_or_default kept k first 0 low ∙ ap (λ l. get_or l k 0) (sym same))

pub kept-first : (salt first v : ℕ) (seen kept new : List ℕ) (told : ℕ) (others : List ℕ) (k : ℕ) → AreSifted (slot_in_sift (length kept) salt) first seen kept told others → new ≡ set kept k v → k ≡ slot_in_sift (length kept) salt v
    → k < length kept → v ≢ first → get_or kept (slot_in_sift (length kept) salt v) first ≡ first → AreSifted (slot_in_sift (length new) salt) first (seen ++ v ∷ []) new (told + 1) others
kept-first salt first v seen kept new told others k h is here low ne free =
    let slot : ℕ → ℕ = slot_in_sift (length kept) salt in
    let done : AreSifted slot first (seen ++ v ∷ []) (set kept (slot v) v) (told + 1) others = seen-first slot first v seen kept told others h (subst (λ (i : ℕ). i < length kept) here low) ne free in
    let same : set kept (slot v) v ≡ new = ap (λ i. set kept i v) (sym here) ∙ sym is in
    let size : length kept ≡ length new = sym (ap length is ∙ length-set kept k v) in
    subst (λ (n : ℕ). AreSifted (slot_in_sift n salt) first (seen ++ v ∷ []) new (told + 1) others) size (subst (λ (l : List ℕ). AreSifted slot first (seen ++ v ∷ []) l (told + 1) others) same done)
