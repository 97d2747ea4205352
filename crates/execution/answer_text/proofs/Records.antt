-- Records, field by field.
use Rattle.std.proofs.Common.{◌≡◌, ap, sym, ◌∙◌, ℕ, ◌==◌, nat_lt, ◌&&◌, List, [], ◌∷◌, ◌++◌, length, length-append, append-nil, eq-eqb, inl, inr, arith}
use Rattle.std.proofs.lemmas.Bool.{le-ltb, ne_eqb, cases_eq}
use Rattle.csv.specs.Writing.{default_writer, field_text, fields_text, is_blank, row_body}

same-size : (front text shown : List ℕ) → text ≡ shown → (length (front ++ text) == length front) ≡ (length shown == 0)
same-size front text shown is = elim (cases_eq (length shown) 0) [
  | inl e ↦ eq-eqb _ _ (omega (arith, length-append front text, ap length is, e)) ∙ sym (eq-eqb (length shown) 0 e)
  | inr ne ↦ ne_eqb _ _ (λ same. absurd (omega (arith, length-append front text, ap length is, ne, same))) ∙ sym (ne_eqb (length shown) 0 ne)
]

-- a record shows nothing where it has one field at most, and no text
pub blank-record : (front : List ℕ) (fields : List (List ℕ)) → (nat_lt (length fields) 2 && (length (front ++ row_body default_writer fields) == length front)) ≡ is_blank default_writer fields
unfolding is_blank fields_text
blank-record front [] = eq-eqb (length (front ++ [])) (length front) (omega (arith, length-append front []))
blank-record front (f ∷ []) = same-size front (field_text default_writer f ++ []) (field_text default_writer f) (append-nil (field_text default_writer f))
blank-record front (f ∷ g ∷ fields) = ap (λ b. b && (length (front ++ row_body default_writer (f ∷ g ∷ fields)) == length front)) (le-ltb (length (f ∷ g ∷ fields)) 2 (omega arith))
