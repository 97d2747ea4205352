-- Lists whose members a text spells one after the other, as far as they are read.
use Rattle.std.proofs.Common.{◌≡◌, refl, ap, sym, ◌∙◌, arith, ℕ, ◌+◌, ◌<◌, ◌≤◌, List, [], ◌∷◌, ◌++◌, length, flat_map, append-nil, append_assoc}
use Rattle.std.proofs.lemmas.List.{length-append}
use Rattle.std.specs.List.{AllByRecursion}
use Rattle.certificate_text.specs.CertificateText.{Text}

-- behind those that are done stand these
abbrev IsLeft : {X : Type 0} → (X → Text) → (X → Type 0) → List X → Text → Text → List X → ℕ → List X → Type 0
IsLeft spelled IsReadable all rest now done count left = AllByRecursion IsReadable left × (all ≡ done ++ left) × (now ≡ flat_map spelled left ++ rest) × (length done ≡ count)

abbrev pub SoFar : {X : Type 0} → (X → Text) → (X → Type 0) → List X → Text → Text → List X → ℕ → Type 0
SoFar {X = X} spelled IsReadable all rest now done count = (left : List X) × IsLeft spelled IsReadable all rest now done count left

-- the next of those that are left
abbrev Next : {X : Type 0} → (X → Text) → (X → Type 0) → List X → Text → Text → List X → List X → Type 0
Next {X = X} spelled IsReadable all rest now done left =
    (x : X) × (more : List X) × (left ≡ x ∷ more) × IsReadable x × AllByRecursion IsReadable more × (all ≡ (done ++ (x ∷ [])) ++ more) × (now ≡ spelled x ++ (flat_map spelled more ++ rest))

module _ {X : Type 0} (spelled : X → Text) (IsReadable : X → Type 0) (all : List X) (rest now : Text) (done : List X) (count : ℕ) (so_far : SoFar spelled IsReadable all rest now done count) where
  -- all of them are read
  pub so_far_whole : length all ≤ count → (done ≡ all) × (now ≡ rest) × (so_far.0 ≡ [])
  so_far_whole over = by so_far.0 so_far.1.1 so_far.1.2 where
    by : (left : List X) → all ≡ done ++ left → now ≡ flat_map spelled left ++ rest → (done ≡ all) × (now ≡ rest) × (left ≡ [])
    by [] whole stands = (sym (append-nil done) ∙ sym whole, stands, refl)
    by (x ∷ left) whole stands = absurd (omega (arith, over, so_far.1.3, ap length whole, length-append done (x ∷ left)))

  pub so_far_next : count < length all → Next spelled IsReadable all rest now done so_far.0
  so_far_next more = by so_far.0 so_far.1.0 so_far.1.1 so_far.1.2 where
    by : (left : List X) → AllByRecursion IsReadable left → all ≡ done ++ left → now ≡ flat_map spelled left ++ rest → Next spelled IsReadable all rest now done left
    by [] readable whole stands = absurd (omega (arith, more, so_far.1.3, ap length whole, length-append done []))
    by (x ∷ left) readable whole stands = (x, left, refl, readable.0, readable.1, whole ∙ sym (append_assoc done (x ∷ []) left), stands ∙ append_assoc (spelled x) (flat_map spelled left) rest)

  -- it is read, and is one more of those that are done
  pub so_far_read : (below : count < length all) (x : X) (after : Text) (grown : List X) → x ≡ (so_far_next below).0 → after ≡ flat_map spelled (so_far_next below).1 ++ rest → grown ≡ done ++ (x ∷ [])
      → IsLeft spelled IsReadable all rest after grown (count + 1) (so_far_next below).1
  so_far_read below x after grown is stands pushed =
      let next = so_far_next below in
      (next.4, next.5 ∙ (λ i. (done ++ (sym is i ∷ [])) ++ next.1) ∙ ap (λ xs. xs ++ next.1) (sym pushed), stands, ap length pushed ∙ omega (arith, length-append done (x ∷ []), so_far.1.3))
