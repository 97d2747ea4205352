-- Lists of parts, each of which is read by itself.
use Rattle.std.proofs.Common.{◌≡◌, ℕ, ◌+◌, ◌<◌, Bool, true, false, List, [], ◌∷◌, ◌++◌, length, map, take, get_or, Result, ◌==◌, append-nil, Ok, Err, Option, Some, None, if◌then◌else◌, sym, ◌∙◌, ap, subst, arith}
use Rattle.std.proofs.lemmas.List.{map-append, get_or-map, length-map}
use denote.Ref.{Bor}
use Rattle.std.proofs.lemmas.List.Splits.{length-slice_split, join_with_byte-slice_split}
use Rattle.std.proofs.lemmas.Result.{err_from_is_err_and}
use Rattle.std.specs.List.{AllByRecursion, join_by, join_with_byte, slice_split}
use Rattle.std.specs.Prelude.{codes}
use Rattle.std.specs.Result.{IsErrAnd}
use Rattle.values.proofs.Lists.{all_append}
use Rattle.values.specs.declared.fault.Fault.{Fault}
use Rattle.values.specs.declared.fault.Fault.TheVariants.{Refused}
use Rattle.certificate_text.specs.declared.part_fault.PartReason.{PartReason}
use Rattle.certificate_text.specs.declared.part_fault.PartReason.TheVariants.{OtherForm, OverLimit}
use Rattle.certificate_text.specs.PartTexts.{Text, list_text, lacks}
use Rattle.certificate_text.specs.Parts.{IsRead, Reads}
use Rattle.certificate_text.proofs.Lacking.{split_list}
use Rattle.certificate_text.proofs.NumberLists.{texts, texts_length, texts_more}

module _ {X : Type 0} (text : X → Text) (IsShort : X → Type 0) where
  abbrev pub Spells : Text → X → Type 0
  Spells t x = t ≡ text x

  abbrev pub SpellEach : List Text → List X → Type 0
  SpellEach ts xs = ts ≡ map text xs

  abbrev pub AllShort : List X → Type 0
  AllShort xs = AllByRecursion IsShort xs

  -- the parts so far are read
  abbrev pub EachSoFar : List Text → Bool → List X → Type 0
  EachSoFar ts b xs = IsRead SpellEach AllShort ts (Ok (if b then Some xs else None))

  short_front : (xs : List X) (x : X) → AllShort (xs ++ (x ∷ [])) → AllShort xs × IsShort x
  short_front [] x h = (tt, h.0)
  short_front (y ∷ xs) x h = let more = short_front xs x h.1 in ((h.0, more.0), more.1)

  spelled_more : (ts : List Text) (t : Text) (xs : List X) (x : X) → SpellEach ts xs → Spells t x → SpellEach (ts ++ (t ∷ [])) (xs ++ (x ∷ []))
  spelled_more ts t xs x e f = ap (λ ts. ts ++ (t ∷ [])) e ∙ ap (λ t. map text xs ++ (t ∷ [])) f ∙ sym (map-append text xs (x ∷ []))

  part_more : (ts : List Text) (t : Text) (b : Bool) (xs : List X) (x : X) → EachSoFar ts b xs → IsRead Spells IsShort t (Ok (Some x)) → EachSoFar (ts ++ (t ∷ [])) b (xs ++ (x ∷ []))
  part_more ts t true xs x h k = (spelled_more ts t xs x h.0 k.0, all_append IsShort xs (x ∷ []) h.1 (k.1, tt))
  part_more ts t false xs x h k = (h.0 ++ (x ∷ []), spelled_more ts t h.0 x h.1 k.0, λ s. h.2 (short_front h.0 x s).0)

  part_past : (ts : List Text) (t : Text) (b : Bool) (xs : List X) → EachSoFar ts b xs → IsRead Spells IsShort t (Ok None) → IsRead SpellEach AllShort (ts ++ (t ∷ [])) (Ok None)
  part_past ts t true xs h k = (xs ++ (k.0 ∷ []), spelled_more ts t xs k.0 h.0 k.1, λ s. k.2 (short_front xs k.0 s).1)
  part_past ts t false xs h k = (h.0 ++ (k.0 ∷ []), spelled_more ts t h.0 k.0 h.1 k.1, λ s. k.2 (short_front h.0 k.0 s).1)

  -- a part that spells nothing
  part_none : (any : X) (ts : List Text) (i : ℕ) → i < length ts → ((x : X) → Spells (get_or ts i []) x → ⊥) → (xs : List X) → SpellEach ts xs → ⊥
  part_none any ts i l h xs e = h (get_or xs i any) (ap (λ ts. get_or ts i []) e ∙ get_or-map text xs i any [] (omega (arith, l, ap length e, length-map xs text)))

  -- ---- at a place of a slice of parts

  pub place_more : (parts : List (Bor Text)) (i : ℕ) (d : Bor Text) (b c : Bool) (xs ys : List X) (r : Option X) (x : X) → i < length parts → EachSoFar (take i (texts parts)) b xs
      → IsRead Spells IsShort (get_or parts i d).now (Ok r) → r ≡ Some x → c ≡ b → ys ≡ xs ++ (x ∷ []) → EachSoFar (take (i + 1) (texts parts)) c ys
  place_more parts i d b c xs ys r x l h k e f g =
      rw (texts_more parts i d l, f, g) (part_more (take i (texts parts)) (get_or parts i d).now b xs x h (subst (λ r. IsRead Spells IsShort (get_or parts i d).now (Ok r)) e k))

  pub place_past : (parts : List (Bor Text)) (i : ℕ) (d : Bor Text) (b c : Bool) (xs ys : List X) (r : Option X) → i < length parts → EachSoFar (take i (texts parts)) b xs
      → IsRead Spells IsShort (get_or parts i d).now (Ok r) → r ≡ None → c ≡ false → EachSoFar (take (i + 1) (texts parts)) c ys
  place_past parts i d b c xs ys r l h k e f =
      rw (texts_more parts i d l, f) (part_past (take i (texts parts)) (get_or parts i d).now b xs h (subst (λ r. IsRead Spells IsShort (get_or parts i d).now (Ok r)) e k))

  -- what the exit at a part that spells nothing gives
  pub place_none : {V : Type 0} (any : X) (parts : List (Bor Text)) (i : ℕ) (d : Bor Text) (view : V → List X) (reason : PartReason) (result : Result (Option V) (Fault PartReason)) → i < length parts
      → IsRead Spells IsShort (get_or parts i d).now (Err reason) → IsErrAnd result (λ fault. fault ≡ Refused reason) → Reads SpellEach AllShort (texts parts) view result
  place_none {V} any parts i d view reason result l h e =
      let x = err_from_is_err_and result e in
      subst (Reads SpellEach AllShort (texts parts) view) (sym (x.1 ∙ ap (λ fault. Err fault) x.2)) (none reason h) where
        none : (reason : PartReason) → IsRead Spells IsShort (get_or parts i d).now (Err reason) → Reads SpellEach AllShort (texts parts) view (Err (Refused reason))
        none OverLimit h = absurd h
        none OtherForm h = λ xs s.
            part_none any (texts parts) i (subst (λ n. i < n) (sym (texts_length parts)) l) (λ x f. h x (sym (get_or-map (λ (part : Bor Text). part.now) parts i d [] l) ∙ f)) xs s

-- ---- from the parts of a list to the list

joined_again : {X : Type 0} (text : X → Text) (x : X) (xs : List X) → join_with_byte 44 (map text (x ∷ xs)) ≡ join_by text (44 ∷ []) (x ∷ xs)
joined_again text x [] = sym (append-nil (text x))
joined_again text x (y ∷ xs) = ap (λ t. text x ++ (44 ∷ t)) (joined_again text y xs)

pub list_spelled : {X : Type 0} (text : X → Text) (w : Text) (xs : List X) → slice_split (λ b. b == 44) w ≡ map text xs → w ≡ list_text text xs
list_spelled text w [] e = let l = length-slice_split (λ b. b == 44) w in absurd (omega (arith, l, ap length e))
list_spelled text w (x ∷ xs) e = sym (join_with_byte-slice_split 44 w) ∙ ap (join_with_byte 44) e ∙ joined_again text x xs

pub parts_spelled : {X : Type 0} (text : X → Text) → ((x : X) → lacks 44 (text x) ≡ true) → (w : Text) (xs : List X) → (w ≡ codes "-" → ⊥) → w ≡ list_text text xs → slice_split (λ b. b == 44) w ≡ map text xs
parts_spelled text free w [] h e = absurd (h e)
parts_spelled text free w (x ∷ xs) h e = ap (slice_split (λ b. b == 44)) e ∙ split_list text 44 free x xs
