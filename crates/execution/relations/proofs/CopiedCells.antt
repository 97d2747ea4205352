-- Rows of values that are copied one by one, with the place of each among the copies.
use Rattle.std.proofs.Common.{◌≡◌, refl, ap, sym, subst, ◌∙◌, ◌⊎◌, inl, inr, ℕ, ◌<◌, ◌≤◌, List, [], ◌∷◌, ◌++◌, length, get_or, map, length-append, arith}
use Rattle.std.specs.List.{AllByRecursion}
use Rattle.std.proofs.lemmas.List.{get_or-map, length-map, map-append}
use Rattle.std.proofs.Math.ListN.{get_or-append, get_or-eq_default}
use Rattle.std.proofs.Math.Seq.{get_or-append_seam}
use Rattle.values.proofs.Lists.{all_append}
use Rattle.values.specs.declared.value.Value.{Value}
use Rattle.schema.specs.Databases.{Row}

-- a row of each value
abbrev pub value_rows : List Value → List Row
value_rows values = map (λ v. v ∷ []) values

-- a place is that of a copy, or the number past them all
abbrev pub IsPlaced : ℕ → List Row → ℕ → Type 0
IsPlaced end copies place = (place < length copies) ⊎ (place ≡ end)

-- at the places are the rows with the numbers
pub record AreCopied (end : ℕ) (rows copies : List Row) (places numbers : List ℕ) : Type 0 where
  pub few : length copies ≤ length numbers
  pub placed : AllByRecursion (IsPlaced end copies) places
  pub same : map (λ n. get_or copies n []) places ≡ map (λ n. get_or rows n []) numbers

pub copied-none : (end : ℕ) (rows : List Row) → AreCopied end rows [] [] []
copied-none end rows = record { few = omega arith; placed = tt; same = refl }

module _ (end : ℕ) (copies : List Row) (x : Row) (below : length copies < end) where
  stays-at : (place : ℕ) → IsPlaced end copies place → get_or (copies ++ x ∷ []) place [] ≡ get_or copies place []
  stays-at place (inl within) = get_or-append copies (x ∷ []) [] place within
  stays-at place (inr past) =
      get_or-eq_default (copies ++ x ∷ []) [] (let all = length-append copies (x ∷ []) in omega (arith, below, past, all))
      ∙ sym (get_or-eq_default copies [] (omega (arith, below, past)))

  stays : (places : List ℕ) → AllByRecursion (IsPlaced end copies) places → map (λ n. get_or (copies ++ x ∷ []) n []) places ≡ map (λ n. get_or copies n []) places
  stays [] placed = refl
  stays (place ∷ places) placed = rw (stays-at place placed.0, stays places placed.1) refl

  placed-on : (places : List ℕ) → AllByRecursion (IsPlaced end copies) places → AllByRecursion (IsPlaced end (copies ++ x ∷ [])) places
  placed-on [] placed = tt
  placed-on (place ∷ places) placed = (on placed.0, placed-on places placed.1)
    where
      on : IsPlaced end copies place → IsPlaced end (copies ++ x ∷ []) place
      on (inl within) = inl (let all = length-append copies (x ∷ []) in omega (arith, within, all))
      on (inr past) = inr past

module _ (end : ℕ) (rows copies : List Row) (places numbers : List ℕ) (so : AreCopied end rows copies places numbers) (below : length numbers < end) (n : ℕ) where
  -- a row more is copied
  pub copied-row : AreCopied end rows (copies ++ get_or rows n [] ∷ []) (places ++ length copies ∷ []) (numbers ++ n ∷ [])
  copied-row =
      let x : Row = get_or rows n [] in
      let room : length copies < end = let few = so.few in omega (arith, few, below) in
      let longer = length-append copies (x ∷ []) in
      record {
        few = let few = so.few in let more = length-append numbers (n ∷ []) in omega (arith, few, longer, more);
        placed = all_append (IsPlaced end (copies ++ x ∷ [])) places (length copies ∷ []) (placed-on end copies x room places so.placed) (inl (omega (arith, longer)), tt);
        same =
            map-append (λ m. get_or (copies ++ x ∷ []) m []) places (length copies ∷ [])
            ∙ ap (λ l. l ++ get_or (copies ++ x ∷ []) (length copies) [] ∷ []) (stays end copies x room places so.placed ∙ so.same)
            ∙ ap (λ (y : Row). map (λ m. get_or rows m []) numbers ++ y ∷ []) (get_or-append_seam copies x [] [])
            ∙ sym (map-append (λ m. get_or rows m []) numbers (n ∷ []));
      }

  -- there is none of this number
  pub copied-past : length rows ≤ n → AreCopied end rows copies (places ++ end ∷ []) (numbers ++ n ∷ [])
  copied-past past =
      let none : get_or rows n [] ≡ [] = get_or-eq_default rows [] past in
      let room : length copies ≤ end = let few = so.few in omega (arith, few, below) in
      record {
        few = let few = so.few in let more = length-append numbers (n ∷ []) in omega (arith, few, more);
        placed = all_append (IsPlaced end copies) places (end ∷ []) so.placed (inr refl, tt);
        same =
            map-append (λ m. get_or copies m []) places (end ∷ [])
            ∙ ap (λ l. l ++ get_or copies end [] ∷ []) so.same
            ∙ ap (λ (y : Row). map (λ m. get_or rows m []) numbers ++ y ∷ []) (get_or-eq_default copies [] room ∙ sym none)
            ∙ sym (map-append (λ m. get_or rows m []) numbers (n ∷ []));
      }

-- the same of values, a row of each
module _ (end : ℕ) (values copies : List Value) (places numbers : List ℕ) (so : AreCopied end (value_rows values) (value_rows copies) places numbers) (below : length numbers < end) (n : ℕ) where
  pub value-copied : (copies' : List Value) (places' : List ℕ) (place : ℕ) (d : Value) → copies' ≡ copies ++ get_or values n d ∷ [] → places' ≡ places ++ place ∷ [] → place ≡ length copies → n < length values → AreCopied end (value_rows values) (value_rows copies') places' (numbers ++ n ∷ [])
  value-copied copies' places' place d more at last within =
      let row = λ (v : Value). v ∷ [] in
      let rows : value_rows copies' ≡ value_rows copies ++ get_or (value_rows values) n [] ∷ [] =
      ap value_rows more ∙ map-append row copies (get_or values n d ∷ []) ∙ ap (λ (r : Row). value_rows copies ++ r ∷ []) (sym (get_or-map row values n d [] within)) in
      let placed' : places' ≡ places ++ length (value_rows copies) ∷ [] = at ∙ ap (λ p. places ++ p ∷ []) (last ∙ sym (length-map copies row)) in
      subst (λ r. AreCopied end (value_rows values) r places' (numbers ++ n ∷ [])) (sym rows)
      (subst (λ p. AreCopied end (value_rows values) (value_rows copies ++ get_or (value_rows values) n [] ∷ []) p (numbers ++ n ∷ [])) (sym placed')
      (copied-row end (value_rows values) (value_rows copies) places numbers so below n))

  pub value-past : (places' : List ℕ) → places' ≡ places ++ end ∷ [] → length values ≤ n → AreCopied end (value_rows values) (value_rows copies) places' (numbers ++ n ∷ [])
  value-past places' at past =
      subst (λ p. AreCopied end (value_rows values) (value_rows copies) p (numbers ++ n ∷ [])) (sym at)
      (copied-past end (value_rows values) (value_rows copies) places numbers so below n (let all = length-map values (λ (v : Value). v ∷ []) in omega (arith, all, past)))
