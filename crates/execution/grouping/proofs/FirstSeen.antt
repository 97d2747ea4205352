-- Groups as they are first seen, row by row.
use Rattle.std.proofs.Common.{◌≡◌, refl, ap, sym, ◌∙◌, ◌+◌, ◌<◌, Bool, true, false, not, ◌||◌, if◌then◌else◌, List, [], ◌∷◌, ◌++◌, length, get_or, map, filter, zero, suc, ℕ, append-nil, arith}
use Rattle.std.specs.List.{AllByRecursion, list_any, position_or_len}
use Rattle.std.specs.Cmp.{IsEquivalence}
use Rattle.values.proofs.Each.{all_filter}
use Rattle.values.proofs.Lists.{all_at}
use Rattle.std.proofs.lemmas.List.Elements.{filter-append}
use Rattle.grouping.specs.Groups.{GroupOf, first_seen, groups_by, added_at, with_founder}

module _ {X K : Type 0} (key : X → K) (eq : K → K → Bool) (law : IsEquivalence eq) where
  abbrev alike : X → X → Bool
  alike a b = eq (key a) (key b)

  -- the group of a row has rows that are like it
  abbrev founded : X → X → Bool
  founded r x = alike r x

  abbrev with_row : X → GroupOf X → GroupOf X
  with_row r g = record { first = g.first; rows = g.rows ++ r ∷ [] }

  abbrev group : List X → X → GroupOf X
  group rows x = record { first = x; rows = filter (alike x) rows }

  -- a row comes last in its group, or founds one
  abbrev put : X → List (GroupOf X) → List (GroupOf X)
  put r [] = record { first = r; rows = r ∷ [] } ∷ []
  put r (g ∷ groups) = if founded r g.first then with_row r g ∷ groups else g ∷ put r groups

  abbrev others : X → List (GroupOf X) → List (GroupOf X)
  others s groups = filter (λ g. not (founded s g.first)) groups

  same-founded : (s r : X) → alike s r ≡ true → (x : X) → founded s x ≡ founded r x
  same-founded s r h x = law.congr (key s) (key r) (key x) h

  both-founded : (s r x : X) → founded s x ≡ true → founded r x ≡ true → alike s r ≡ true
  both-founded s r x h k = law.congr (key s) (key x) (key r) h ∙ law.symm (key x) (key r) ∙ k

  -- the other groups are those of the other rows
  tails : (s : X) (rest xs : List X) → map (group (s ∷ rest)) (filter (λ x. not (alike s x)) xs) ≡ others s (map (group rest) xs)
  tails s rest [] = refl
  tails s rest (x ∷ xs) = by (alike s x) refl (tails s rest xs)
    where
      by : (b : Bool) → alike s x ≡ b → map (group (s ∷ rest)) (filter (λ y. not (alike s y)) xs) ≡ others s (map (group rest) xs)
          → map (group (s ∷ rest)) (if not b then x ∷ filter (λ y. not (alike s y)) xs else filter (λ y. not (alike s y)) xs) ≡ (if not b then group rest x ∷ others s (map (group rest) xs) else others s (map (group rest) xs))
      by true is later = later
      by false is later =
          let other : alike x s ≡ false = law.symm (key x) (key s) ∙ is in
          let front : group (s ∷ rest) x ≡ group rest x = ap (λ b. record { first = x; rows = if b then s ∷ filter (alike x) rest else filter (alike x) rest }) other in
          ap (λ g. g ∷ map (group (s ∷ rest)) (filter (λ y. not (alike s y)) xs)) front ∙ ap (λ l. group rest x ∷ l) later

  groups-first : (s : X) (rest : List X) → groups_by alike (s ∷ rest) ≡ record { first = s; rows = s ∷ filter (alike s) rest } ∷ others s (groups_by alike rest)
  groups-first s rest =
      ap (λ b. record { first = s; rows = if b then s ∷ filter (alike s) rest else filter (alike s) rest } ∷ map (group (s ∷ rest)) (filter (λ x. not (alike s x)) (first_seen alike rest))) (law.refl (key s))
      ∙ ap (λ l. record { first = s; rows = s ∷ filter (alike s) rest } ∷ l) (tails s rest (first_seen alike rest))

  -- a row like s comes in no other group
  put-left : (s r : X) → alike s r ≡ true → (groups : List (GroupOf X)) → others s (put r groups) ≡ others s groups
  put-left s r h [] = ap (λ b. if not b then record { first = r; rows = r ∷ [] } ∷ [] else []) h
  put-left s r h (g ∷ groups) = by (founded r g.first) (same-founded s r h g.first) (put-left s r h groups)
    where
      by : (b : Bool) → founded s g.first ≡ b → others s (put r groups) ≡ others s groups → others s (if b then with_row r g ∷ groups else g ∷ put r groups) ≡ others s (g ∷ groups)
      by true is later = ap (λ c. if not c then with_row r g ∷ others s groups else others s groups) is ∙ sym (ap (λ c. if not c then g ∷ others s groups else others s groups) is)
      by false is later = ap (λ l. if not (founded s g.first) then g ∷ l else l) later

  -- another row comes in the other groups
  put-other : (s r : X) → alike s r ≡ false → (groups : List (GroupOf X)) → others s (put r groups) ≡ put r (others s groups)
  put-other s r h [] = ap (λ b. if not b then record { first = r; rows = r ∷ [] } ∷ [] else []) h
  put-other s r h (g ∷ groups) = by (founded r g.first) refl (founded s g.first) refl (put-other s r h groups)
    where
      by : (b : Bool) → founded r g.first ≡ b → (d : Bool) → founded s g.first ≡ d → others s (put r groups) ≡ put r (others s groups)
          → others s (if b then with_row r g ∷ groups else g ∷ put r groups) ≡ put r (if not d then g ∷ others s groups else others s groups)
      by true is true other later = absurd (let e : true ≡ false = sym (both-founded s r g.first other is) ∙ h in cc)
      by true is false other later =
          ap (λ c. if not c then with_row r g ∷ others s groups else others s groups) other
          ∙ sym (ap (λ c. if c then with_row r g ∷ others s groups else g ∷ put r (others s groups)) is)
      by false is true other later = ap (λ c. if not c then g ∷ others s (put r groups) else others s (put r groups)) other ∙ later
      by false is false other later =
          ap (λ c. if not c then g ∷ others s (put r groups) else others s (put r groups)) other ∙ ap (λ l. g ∷ l) later
          ∙ sym (ap (λ c. if c then with_row r g ∷ others s groups else g ∷ put r (others s groups)) is)

  -- one more row
  pub groups-more : (rows : List X) (r : X) → groups_by alike (rows ++ r ∷ []) ≡ put r (groups_by alike rows)
  groups-more [] r = ap (λ b. record { first = r; rows = if b then r ∷ [] else [] } ∷ []) (law.refl (key r))
  groups-more (s ∷ rest) r =
      groups-first s (rest ++ r ∷ [])
      ∙ ap (λ l. record { first = s; rows = s ∷ filter (alike s) (rest ++ r ∷ []) } ∷ others s l) (groups-more rest r)
      ∙ ap (λ l. record { first = s; rows = s ∷ l } ∷ others s (put r (groups_by alike rest))) (filter-append (alike s) rest (r ∷ []))
      ∙ by (alike s r) refl
      ∙ sym (ap (put r) (groups-first s rest))
    where
      F : List X
      F = filter (alike s) rest

      by : (b : Bool) → alike s r ≡ b → record { first = s; rows = s ∷ (F ++ (if b then r ∷ [] else [])) } ∷ others s (put r (groups_by alike rest)) ≡ put r (record { first = s; rows = s ∷ F } ∷ others s (groups_by alike rest))
      by true is =
          ap (λ l. record { first = s; rows = s ∷ (F ++ r ∷ []) } ∷ l) (put-left s r is (groups_by alike rest))
          ∙ sym (ap (λ c. if c then with_row r (record { first = s; rows = s ∷ F }) ∷ others s (groups_by alike rest) else record { first = s; rows = s ∷ F } ∷ put r (others s (groups_by alike rest))) (law.symm (key r) (key s) ∙ is))
      by false is =
          ap (λ l. record { first = s; rows = s ∷ l } ∷ others s (put r (groups_by alike rest))) (append-nil F)
          ∙ ap (λ l. record { first = s; rows = s ∷ F } ∷ l) (put-other s r is (groups_by alike rest))
          ∙ sym (ap (λ c. if c then with_row r (record { first = s; rows = s ∷ F }) ∷ others s (groups_by alike rest) else record { first = s; rows = s ∷ F } ∷ put r (others s (groups_by alike rest))) (law.symm (key r) (key s) ∙ is))

  -- a row is put at the place of its key
  pub put-at : (rows : List X) (r : X) (xs : List X) → added_at (position_or_len (eq (key r)) (map key xs)) r (map (group rows) xs) ≡ put r (map (group rows) xs)
  put-at rows r [] = refl
  put-at rows r (x ∷ xs) = by (eq (key r) (key x)) (put-at rows r xs)
    where
      by : (b : Bool) → added_at (position_or_len (eq (key r)) (map key xs)) r (map (group rows) xs) ≡ put r (map (group rows) xs)
          → added_at (if not b then 1 + position_or_len (eq (key r)) (map key xs) else 0) r (group rows x ∷ map (group rows) xs) ≡ (if b then with_row r (group rows x) ∷ map (group rows) xs else group rows x ∷ put r (map (group rows) xs))
      by true later = refl
      by false later =
          let next : 1 + position_or_len (eq (key r)) (map key xs) ≡ suc (position_or_len (eq (key r)) (map key xs)) = omega arith in
          ap (λ n. added_at n r (group rows x ∷ map (group rows) xs)) next ∙ ap (λ l. group rows x ∷ l) later

  abbrev firsts : List (GroupOf X) → List X
  firsts groups = map (λ g. g.first) groups

  pub firsts-groups : (rows xs : List X) → firsts (map (group rows) xs) ≡ xs
  firsts-groups rows [] = refl
  firsts-groups rows (x ∷ xs) = ap (λ l. x ∷ l) (firsts-groups rows xs)

  -- and its key goes last, unless it is there
  keys-put : (rows : List X) (r : X) (xs : List X) → map key (firsts (put r (map (group rows) xs))) ≡ (if list_any (eq (key r)) (map key xs) then map key xs else map key xs ++ key r ∷ [])
  keys-put rows r [] = refl
  keys-put rows r (x ∷ xs) = by (eq (key r) (key x)) (keys-put rows r xs)
    where
      any : Bool
      any = list_any (eq (key r)) (map key xs)

      or : (b : Bool) → key x ∷ (if b then map key xs else map key xs ++ key r ∷ []) ≡ (if b then key x ∷ map key xs else key x ∷ (map key xs ++ key r ∷ []))
      or true = refl
      or false = refl

      by : (b : Bool) → map key (firsts (put r (map (group rows) xs))) ≡ (if any then map key xs else map key xs ++ key r ∷ [])
          → map key (firsts (if b then with_row r (group rows x) ∷ map (group rows) xs else group rows x ∷ put r (map (group rows) xs))) ≡ (if b || any then key x ∷ map key xs else key x ∷ (map key xs ++ key r ∷ []))
      by true later = ap (λ l. key x ∷ map key l) (firsts-groups rows xs)
      by false later = ap (λ l. key x ∷ l) later ∙ or any

  pub keys-more : (rows : List X) (r : X) → (if list_any (eq (key r)) (map key (first_seen alike rows)) then map key (first_seen alike rows) else map key (first_seen alike rows) ++ key r ∷ []) ≡ map key (first_seen alike (rows ++ r ∷ []))
  keys-more rows r =
      sym (keys-put rows r (first_seen alike rows)) ∙ ap (λ l. map key (firsts l)) (sym (groups-more rows r)) ∙ ap (map key) (firsts-groups (rows ++ r ∷ []) (first_seen alike (rows ++ r ∷ [])))

  -- ---- by the number of its key

  -- the place of a row's key among those that were seen
  abbrev pub place : List X → X → ℕ
  place rows r = position_or_len (eq (key r)) (map key (first_seen alike rows))

  pub groups-numbered : (rows : List X) (r : X) → groups_by alike (rows ++ r ∷ []) ≡ added_at (place rows r) r (groups_by alike rows)
  groups-numbered rows r = groups-more rows r ∙ sym (put-at rows r (first_seen alike rows))

  firsts-added : (n : ℕ) (r : X) (groups : List (GroupOf X)) → firsts (added_at n r groups) ≡ with_founder (firsts groups) n r
  firsts-added n r [] = refl
  firsts-added zero r (g ∷ groups) = refl
  firsts-added (suc n) r (g ∷ groups) = ap (λ l. g.first ∷ l) (firsts-added n r groups)

  pub founders-more : (rows : List X) (r : X) → first_seen alike (rows ++ r ∷ []) ≡ with_founder (first_seen alike rows) (place rows r) r
  founders-more rows r =
      sym (firsts-groups (rows ++ r ∷ []) (first_seen alike (rows ++ r ∷ []))) ∙ ap firsts (groups-numbered rows r) ∙ firsts-added (place rows r) r (groups_by alike rows)
      ∙ ap (λ fs. with_founder fs (place rows r) r) (firsts-groups rows (first_seen alike rows))

  -- ---- rows that are the same as earlier ones

  position-last : (p : K → Bool) (y : K) → p y ≡ true → (ks : List K) → position_or_len p (ks ++ y ∷ []) ≡ position_or_len p ks
  position-last p y h [] = ap (λ b. if not b then 1 + 0 else 0) h
  position-last p y h (k ∷ ks) = ap (λ n. if not (p k) then 1 + n else 0) (position-last p y h ks)

  -- a row that is like the last one has its place
  pub place-again : (rows : List X) (r s : X) → alike s r ≡ true → place (rows ++ r ∷ []) s ≡ place rows r
  place-again rows r s h =
      ap (position_or_len (eq (key s))) (sym (keys-more rows r)) ∙ by (list_any (eq (key r)) keys) ∙ ap (λ p. position_or_len p keys) (λ i k. law.congr (key s) (key r) k h i)
    where
      keys : List K
      keys = map key (first_seen alike rows)

      by : (b : Bool) → position_or_len (eq (key s)) (if b then keys else keys ++ key r ∷ []) ≡ position_or_len (eq (key s)) keys
      by true = refl
      by false = position-last (eq (key s)) (key r) h keys

  all-first : (P : X → Type 0) (rows : List X) → AllByRecursion P rows → AllByRecursion P (first_seen alike rows)
  all-first P [] all = tt
  all-first P (r ∷ rows) all = (all.0, all_filter P (λ s. not (alike r s)) (first_seen alike rows) (all-first P rows all.1))

  position-none : (r : X) (xs : List X) → AllByRecursion (λ x. alike r x ≡ false) xs → position_or_len (eq (key r)) (map key xs) ≡ length xs
  position-none r [] all = refl
  position-none r (x ∷ xs) all =
      ap (λ b. if not b then 1 + position_or_len (eq (key r)) (map key xs) else 0) all.0 ∙ ap (λ n. 1 + n) (position-none r xs all.1) ∙ (let next : 1 + length xs ≡ suc (length xs) = omega arith in next)

  -- a row that is like none before it has the next place
  pub place-new : (rows : List X) (r : X) → AllByRecursion (λ x. alike r x ≡ false) rows → place rows r ≡ length (first_seen alike rows)
  place-new rows r all = position-none r (first_seen alike rows) (all-first (λ x. alike r x ≡ false) rows all)

  -- ---- a row and the first rows of groups

  -- each is unlike all behind it
  abbrev pub AreUnlike : List X → Type 0
  AreUnlike [] = Unit {0}
  AreUnlike (x ∷ xs) = AllByRecursion (λ y. alike x y ≡ false) xs × AreUnlike xs

  unlike-filter : (p : X → Bool) (xs : List X) → AreUnlike xs → AreUnlike (filter p xs)
  unlike-filter p [] unlike = tt
  unlike-filter p (x ∷ xs) unlike = by (p x) (unlike-filter p xs unlike.1)
    where
      by : (b : Bool) → AreUnlike (filter p xs) → AreUnlike (if b then x ∷ filter p xs else filter p xs)
      by true later = (all_filter (λ y. alike x y ≡ false) p xs unlike.0, later)
      by false later = later

  kept-unlike : (x : X) (xs : List X) → AllByRecursion (λ y. alike x y ≡ false) (filter (λ s. not (alike x s)) xs)
  kept-unlike x [] = tt
  kept-unlike x (y ∷ xs) = by (alike x y) refl (kept-unlike x xs)
    where
      by : (b : Bool) → alike x y ≡ b → AllByRecursion (λ z. alike x z ≡ false) (filter (λ s. not (alike x s)) xs)
          → AllByRecursion (λ z. alike x z ≡ false) (if not b then y ∷ filter (λ s. not (alike x s)) xs else filter (λ s. not (alike x s)) xs)
      by true is later = later
      by false is later = (is, later)

  pub seen-unlike : (rows : List X) → AreUnlike (first_seen alike rows)
  seen-unlike [] = tt
  seen-unlike (r ∷ rows) = (kept-unlike r (first_seen alike rows), unlike-filter (λ s. not (alike r s)) (first_seen alike rows) (seen-unlike rows))

  -- a row that is like one of them has its place
  pub found-place : (r : X) (xs : List X) (i : ℕ) (d : X) → AreUnlike xs → i < length xs → alike r (get_or xs i d) ≡ true → position_or_len (eq (key r)) (map key xs) ≡ i
  found-place r [] i d unlike below is = absurd (omega (arith, below))
  found-place r (x ∷ xs) zero d unlike below is = ap (λ b. if not b then 1 + position_or_len (eq (key r)) (map key xs) else 0) is
  found-place r (x ∷ xs) (suc i) d unlike below is =
      ap (λ b. if not b then 1 + position_or_len (eq (key r)) (map key xs) else 0) (by (alike r x) refl) ∙ ap (λ n. 1 + n) (found-place r xs i d unlike.1 (omega (arith, below)) is)
      ∙ (let next : 1 + i ≡ suc i = omega arith in next)
    where
      g : X
      g = get_or xs i d

      by : (b : Bool) → alike r x ≡ b → alike r x ≡ false
      by true like = absurd (let e : true ≡ false = sym is ∙ law.congr (key r) (key x) (key g) like ∙ all_at (λ y. alike x y ≡ false) xs i d (omega (arith, below)) unlike.0 in cc)
      by false other = other

  -- one that is like none of them has the next place
  pub other-place : (r : X) (xs : List X) (d : X) → ((j : ℕ) → j < length xs → alike r (get_or xs j d) ≡ false) → position_or_len (eq (key r)) (map key xs) ≡ length xs
  other-place r xs d other = position-none r xs (each xs other)
    where
      each : (ys : List X) → ((j : ℕ) → j < length ys → alike r (get_or ys j d) ≡ false) → AllByRecursion (λ y. alike r y ≡ false) ys
      each [] so = tt
      each (y ∷ ys) so = (so zero (omega arith), each ys (λ j below. so (suc j) (omega (arith, below))))
