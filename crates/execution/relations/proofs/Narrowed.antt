-- A list that is narrowed test by test.
use Rattle.std.proofs.Common.{◌≡◌, refl, ap, sym, ◌∙◌, ℕ, ◌+◌, ◌<◌, ◌≤◌, Bool, true, false, ◌&&◌, if◌then◌else◌, List, [], ◌∷◌, ◌++◌, drop, filter, get_or, length, set, take, append-nil, arith}
use Rattle.std.specs.Int.{from_bool}
use Rattle.std.specs.List.{list_all}
use Rattle.std.proofs.lemmas.List.{drop-drop, drop-set-lt, get_or-drop, take-set, take_more_set}
use Rattle.std.proofs.lemmas.List.Elements.{filter_more}
use Rattle.std.proofs.lemmas.List.Folds.{list_all_more}

pub filter_none : {X : Type 0} (xs : List X) → filter (λ x. true) xs ≡ xs
filter_none [] = refl
filter_none (x ∷ xs) = ap (λ l. x ∷ l) (filter_none xs)

pub filter_twice : {X : Type 0} (p q r : X → Bool) → ((x : X) → r x ≡ (p x && q x)) → (xs : List X) → filter q (filter p xs) ≡ filter r xs
filter_twice p q r both [] = refl
filter_twice p q r both (x ∷ xs) = by (p x) (q x) refl refl (filter_twice p q r both xs)
  where
    by : (a b : Bool) → p x ≡ a → q x ≡ b → filter q (filter p xs) ≡ filter r xs → filter q (filter p (x ∷ xs)) ≡ filter r (x ∷ xs)
    by true true is also later = rw (both x, is, also) (ap (λ l. x ∷ l) later)
    by true false is also later = rw (both x, is, also) later
    by false b is also later = rw (both x, is) later

-- one test more
pub narrowed-more : {X T : Type 0} (p : X → T → Bool) (tests : List T) (i : ℕ) (t : T) → i < length tests → t ≡ get_or tests i t → (all left : List X) → left ≡ filter (λ x. list_all (p x) (take i tests)) all
    → filter (λ x. p x t) left ≡ filter (λ x. list_all (p x) (take (i + 1) tests)) all
narrowed-more p tests i t below at all left is =
    ap (filter (λ x. p x t)) is
    ∙ filter_twice (λ x. list_all (p x) (take i tests)) (λ x. p x t) (λ x. list_all (p x) (take (i + 1) tests))
    (λ x. list_all_more (p x) tests i t below ∙ ap (λ u. list_all (p x) (take i tests) && p x u) (sym at)) all

-- ---- in place: those that are kept stand in front, and those from a place on as they did

module _ {X : Type 0} (p : X → Bool) (old rows : List X) (kept place : ℕ) (d : X) (front : take kept rows ≡ filter p (take place old)) (rest : drop place rows ≡ drop place old) (few : kept ≤ place) (below : place < length rows) (long : length rows ≡ length old) where
  as-it-was : get_or rows place d ≡ get_or old place d
  as-it-was =
      let here : place + 0 ≡ place = omega arith in
      ap (λ n. get_or rows n d) (sym here) ∙ sym (get_or-drop place rows 0 d) ∙ ap (λ l. get_or l 0 d) rest ∙ get_or-drop place old 0 d ∙ ap (λ n. get_or old n d) here

  next : filter p (take (place + 1) old) ≡ filter p (take place old) ++ (if p (get_or rows place d) then get_or rows place d ∷ [] else [])
  next = filter_more p old place d (omega (arith, below, long)) ∙ ap (λ x. filter p (take place old) ++ (if p x then x ∷ [] else [])) (sym as-it-was)

  -- one that passes is kept
  pub place-kept : p (get_or rows place d) ≡ true → take (kept + 1) (set rows kept (get_or rows place d)) ≡ filter p (take (place + 1) old)
  place-kept passes =
      take_more_set rows kept (get_or rows place d) (omega (arith, few, below)) ∙ ap (λ l. l ++ get_or rows place d ∷ []) front
      ∙ sym (next ∙ ap (λ b. filter p (take place old) ++ (if b then get_or rows place d ∷ [] else [])) passes)

  -- one that doesn't is not
  pub place-left : p (get_or rows place d) ≡ false → take kept rows ≡ filter p (take (place + 1) old)
  place-left fails =
      front ∙ sym (next ∙ ap (λ b. filter p (take place old) ++ (if b then get_or rows place d ∷ [] else [])) fails ∙ append-nil (filter p (take place old)))

  -- either way, where it is written first
  pub place-written : (b : Bool) → p (get_or rows place d) ≡ b → take (kept + from_bool b) (set rows kept (get_or rows place d)) ≡ filter p (take (place + 1) old)
  place-written true passes = place-kept passes
  place-written false fails =
      let same : kept + 0 ≡ kept = omega arith in
      ap (λ n. take n (set rows kept (get_or rows place d))) same ∙ take-set rows kept (get_or rows place d) ∙ place-left fails

  pub few-written : (b : Bool) → kept + from_bool b ≤ place + 1
  few-written true = omega (arith, few)
  few-written false = omega (arith, few)

  behind : (l : List X) → drop (place + 1) l ≡ drop 1 (drop place l)
  behind l = sym (drop-drop 1 place l)

  pub rest-left : drop (place + 1) rows ≡ drop (place + 1) old
  rest-left = behind rows ∙ ap (drop 1) rest ∙ sym (behind old)

  pub rest-kept : (x : X) → drop (place + 1) (set rows kept x) ≡ drop (place + 1) old
  rest-kept x = drop-set-lt (place + 1) rows kept x (omega (arith, few)) ∙ rest-left
