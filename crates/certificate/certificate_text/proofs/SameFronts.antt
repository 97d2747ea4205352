-- A text begins with one condition at most, and with none where one is too deep.
use Rattle.std.proofs.Common.{◌≡◌, refl, sym, ◌∙◌, ap, subst, arith, inl, inr, ℕ, zero, suc, true, false, if◌then◌else◌, ◌==◌, List, [], ◌∷◌, ◌++◌, get_or, drop, append_assoc, codes}
use Rattle.std.proofs.lemmas.Bool.{and_parts}
use Rattle.std.specs.Char.{is_ascii_digit}
use Rattle.std.specs.List.{AllByRecursion}
use Rattle.values.specs.declared.truth.Comparison.{Comparison}
use Rattle.values.specs.declared.truth.Comparison.TheVariants as op
use Rattle.algebra.specs.declared.condition.Condition.{Condition}
use Rattle.algebra.specs.declared.condition.Condition.TheVariants.{Compare, IsNull, Not, And, Or, Exists, In}
use Rattle.algebra.specs.declared.condition.Term.{Term}
use Rattle.certificate_text.specs.declared.conditions.Form.{Form}
use Rattle.certificate_text.specs.declared.conditions.Form.TheVariants as form
use Rattle.certificate_text.specs.Conditions.{form_text}
use Rattle.certificate_text.specs.ConditionReading.{part_condition_text, parts_text, more_text, IsWithin, BeginsWith, BehindParts, IsTooDeep}
use Rattle.certificate_text.specs.Numerals.{numeral}
use Rattle.certificate_text.specs.PartTexts.{Text, lacks, part_term_text}
use Rattle.certificate_text.specs.Spelled.{HasText}
use Rattle.certificate_text.proofs.FrontConditions.{Body, Joined, opened, some_room}
use Rattle.certificate_text.proofs.Lacking.{lacks_at, numeral_lacks}
use Rattle.certificate_text.proofs.Numerals.{numeral_injective}
use Rattle.certificate_text.proofs.TermParts.{no_comma, no_parenthesis, term_told}

-- ---- texts that are cut at a character

-- before the first such character stands the same, and behind it too
pub cut : (c : ℕ) (v w x y : Text) → lacks c v ≡ true → lacks c w ≡ true → v ++ (c ∷ x) ≡ w ++ (c ∷ y) → (v ≡ w) × (x ≡ y)
cut c [] [] x y h k e = (refl, ap (drop 1) e)
cut c [] (b ∷ w) x y h k e = absurd (lacks_at c (b ∷ w) k 0 (omega arith) (ap (λ t. get_or t 0 0) (sym e)))
cut c (b ∷ v) [] x y h k e = absurd (lacks_at c (b ∷ v) h 0 (omega arith) (ap (λ t. get_or t 0 0) e))
cut c (b ∷ v) (d ∷ w) x y h k e =
    let more = cut c v w x y (and_parts _ _ h).1 (and_parts _ _ k).1 (ap (drop 1) e) in
    (λ i. ap (λ t. get_or t 0 0) e i ∷ more.0 i, more.1)

-- ---- names of forms

sign_lacks : (o : Comparison) → lacks 40 (form_text (form.Compare o)) ≡ true
sign_lacks op.Equal = refl
sign_lacks op.NotEqual = refl
sign_lacks op.Less = refl
sign_lacks op.LessOrEqual = refl
sign_lacks op.Greater = refl
sign_lacks op.GreaterOrEqual = refl

pub name_lacks : (f : Form) → lacks 40 (form_text f) ≡ true
name_lacks form.Not = refl
name_lacks form.And = refl
name_lacks form.Or = refl
name_lacks form.IsNull = refl
name_lacks form.Exists = refl
name_lacks form.In = refl
name_lacks (form.Compare o) = sign_lacks o

-- the form that a name is of
abbrev named : Text → Form
named t =
    if get_or t 0 0 == 97 then form.And else
    if get_or t 0 0 == 111 then form.Or else
    if get_or t 0 0 == 101 then form.Exists else
    if get_or t 0 0 == 105 then form.In else
    if get_or t 0 0 == 110 then (if get_or t 1 0 == 111 then form.Not else form.IsNull) else
    if get_or t 0 0 == 61 then form.Compare op.Equal else
    if get_or t 0 0 == 60 then (if get_or t 1 0 == 62 then form.Compare op.NotEqual else if get_or t 1 0 == 61 then form.Compare op.LessOrEqual else form.Compare op.Less) else
    if get_or t 1 0 == 61 then form.Compare op.GreaterOrEqual else form.Compare op.Greater

sign_named : (o : Comparison) → named (form_text (form.Compare o)) ≡ form.Compare o
sign_named op.Equal = refl
sign_named op.NotEqual = refl
sign_named op.Less = refl
sign_named op.LessOrEqual = refl
sign_named op.Greater = refl
sign_named op.GreaterOrEqual = refl

form_named : (f : Form) → named (form_text f) ≡ f
form_named form.Not = refl
form_named form.And = refl
form_named form.Or = refl
form_named form.IsNull = refl
form_named form.Exists = refl
form_named form.In = refl
form_named (form.Compare o) = sign_named o

pub same_form : (f g : Form) → form_text f ≡ form_text g → f ≡ g
same_form f g e = sym (form_named f) ∙ ap named e ∙ form_named g

-- ---- terms and numbers

same_term_before : (c : ℕ) → ((a : Term) → HasText a → lacks c (part_term_text a) ≡ true) → (a b : Term) (x y : Text) → HasText a → HasText b → part_term_text a ++ (c ∷ x) ≡ part_term_text b ++ (c ∷ y) → (a ≡ b) × (x ≡ y)
same_term_before c lack a b x y s r e =
    let parts = cut c (part_term_text a) (part_term_text b) x y (lack a s) (lack b r) e in
    (term_told (part_term_text b) b a (refl, r) (sym parts.0, s), parts.1)

pub same_comma : (a b : Term) (x y : Text) → HasText a → HasText b → part_term_text a ++ (44 ∷ x) ≡ part_term_text b ++ (44 ∷ y) → (a ≡ b) × (x ≡ y)
same_comma = same_term_before 44 no_comma

pub same_parenthesis : (a b : Term) (x y : Text) → HasText a → HasText b → part_term_text a ++ (41 ∷ x) ≡ part_term_text b ++ (41 ∷ y) → (a ≡ b) × (x ≡ y)
same_parenthesis = same_term_before 41 no_parenthesis

pub same_number : (c m n : ℕ) (x y : Text) → is_ascii_digit c ≡ false → numeral m ++ (c ∷ x) ≡ numeral n ++ (c ∷ y) → (m ≡ n) × (x ≡ y)
same_number c m n x y other e = let parts = cut c (numeral m) (numeral n) x y (numeral_lacks c m other) (numeral_lacks c n other) e in (numeral_injective m n parts.0, parts.1)

-- ---- conditions

-- conditions that there is room for are the same where texts that they begin are, and so is what stands behind them
abbrev SameTo : ℕ → Type 0
SameTo room = (c d : Condition) (s t : Text) → IsWithin room c → IsWithin room d → part_condition_text c ++ s ≡ part_condition_text d ++ t → (c ≡ d) × (s ≡ t)

module _ (room : ℕ) (same : SameTo room) where
  same_more : (cs ds : List Condition) (s t : Text) → AllByRecursion (IsWithin room) cs → AllByRecursion (IsWithin room) ds → more_text cs ++ (41 ∷ s) ≡ more_text ds ++ (41 ∷ t) → (cs ≡ ds) × (s ≡ t)
  same_more [] [] s t h k e = (refl, ap (drop 1) e)
  same_more [] (d ∷ ds) s t h k e = absurd (omega (arith, ap (λ w. get_or w 0 0) e))
  same_more (c ∷ cs) [] s t h k e = absurd (omega (arith, ap (λ w. get_or w 0 0) e))
  same_more (c ∷ cs) (d ∷ ds) s t h k e =
      let first = same c d (more_text cs ++ (41 ∷ s)) (more_text ds ++ (41 ∷ t)) h.0 k.0 (sym (append_assoc (part_condition_text c) (more_text cs) (41 ∷ s)) ∙ ap (drop 1) e ∙ append_assoc (part_condition_text d) (more_text ds) (41 ∷ t)) in
      let later = same_more cs ds s t h.1 k.1 first.1 in
      (λ i. first.0 i ∷ later.0 i, later.1)

  same_joined : (join : Condition → Condition → List Condition → Condition) (w : Text) (c d : Condition) (s t : Text) → Joined HasText room join w c s → Joined HasText room join w d t → (c ≡ d) × (s ≡ t)
  same_joined join w c d s t x y =
      let first = same x.0 y.0 _ _ x.3 y.3 (sym x.7 ∙ y.7) in
      let second = same x.1 y.1 _ _ x.4 y.4 (ap (drop 1) first.1) in
      let more = same_more x.2 y.2 s t x.5 y.5 second.1 in
      (x.6 ∙ (λ i. join (first.0 i) (second.0 i) (more.0 i)) ∙ sym y.6, more.1)

  same_body : (f : Form) (w : Text) (c d : Condition) (s t : Text) → Body HasText room f w c s → Body HasText room f w d t → (c ≡ d) × (s ≡ t)
  same_body form.Not w c d s t x y =
      let one = same x.0 y.0 (41 ∷ s) (41 ∷ t) x.1 y.1 (sym x.3 ∙ y.3) in
      (x.2 ∙ ap Not one.0 ∙ sym y.2, ap (drop 1) one.1)
  same_body form.And w c d s t x y = same_joined And w c d s t x y
  same_body form.Or w c d s t x y = same_joined Or w c d s t x y
  same_body form.IsNull w c d s t x y =
      let one = same_parenthesis x.0 y.0 s t x.1 y.1 (sym x.3 ∙ y.3) in
      (x.2 ∙ ap IsNull one.0 ∙ sym y.2, one.1)
  same_body form.Exists w c d s t x y =
      let one = same_number 41 x.0 y.0 s t refl (sym x.3 ∙ y.3) in
      (x.2 ∙ ap Exists one.0 ∙ sym y.2, one.1)
  same_body form.In w c d s t x y =
      let one = same_comma x.0 y.0 _ _ x.3 y.3 (sym x.7 ∙ y.7) in
      let two = same_number 44 x.1 y.1 _ _ refl one.1 in
      let three = same_number 41 x.2 y.2 s t refl (ap (drop 1) two.1) in
      (x.6 ∙ (λ i. In (one.0 i) (two.0 i) (three.0 i)) ∙ sym y.6, three.1)
  same_body (form.Compare o) w c d s t x y =
      let one = same_comma x.0 y.0 _ _ x.2 y.2 (sym x.5 ∙ y.5) in
      let two = same_parenthesis x.1 y.1 s t x.3 y.3 one.1 in
      (x.4 ∙ (λ i. Compare o (one.0 i) (two.0 i)) ∙ sym y.4, two.1)

pub same_to : (room : ℕ) → SameTo room
same_to zero c d s t h k e = absurd (omega (arith, some_room 0 c h.0))
same_to (suc room) c d s t h k e =
    let x = opened HasText (suc room) room c s (omega arith) h in
    let y = opened HasText (suc room) room d t (omega arith) k in
    let parts = cut 40 (form_text x.0) (form_text y.0) x.1 y.1 (name_lacks x.0) (name_lacks y.0) (sym x.2 ∙ e ∙ y.2) in
    let other = subst (λ f. Body HasText room f y.1 d t) (sym (same_form x.0 y.0 parts.0)) y.3 in
    same_body room (same_to room) x.0 x.1 c d s t x.3 (subst (λ w. Body HasText room x.0 w d t) (sym parts.1) other)

pub same_front : (room : ℕ) (w : Text) (c d : Condition) (s t : Text) → BeginsWith room w c s → BeginsWith room w d t → (c ≡ d) × (s ≡ t)
same_front room w c d s t x y = same_to room c d s t x.1 y.1 (sym x.0 ∙ y.0)

-- ---- conditions that there is no room for

-- a text that begins with a condition isn't too deep
abbrev IsNotBoth : ℕ → Type 0
IsNotBoth room = (w : Text) (c : Condition) (rest : Text) → BeginsWith room w c rest → IsTooDeep room w → ⊥

module _ (room : ℕ) (other : IsNotBoth room) where
  -- what stands behind commas is the parts' or none
  more_shallow : (cs : List Condition) (rest : Text) (ds : List Condition) (deep : Text) → AllByRecursion (IsWithin room) cs → AllByRecursion (IsWithin room) ds → more_text cs ++ (41 ∷ rest) ≡ 44 ∷ (parts_text ds ++ deep) → IsTooDeep room deep → ⊥
  more_shallow [] rest ds deep h k e too = omega (arith, ap (λ w. get_or w 0 0) e)
  more_shallow (c ∷ cs) rest [] deep h k e too = other deep c (more_text cs ++ (41 ∷ rest)) (sym (ap (drop 1) e) ∙ append_assoc (part_condition_text c) (more_text cs) (41 ∷ rest), h.0) too
  more_shallow (c ∷ cs) rest (d ∷ ds) deep h k e too =
      let first = same_to room c d (more_text cs ++ (41 ∷ rest)) (44 ∷ (parts_text ds ++ deep)) h.0 k.0
      (sym (append_assoc (part_condition_text c) (more_text cs) (41 ∷ rest)) ∙ ap (drop 1) e ∙ append_assoc (part_condition_text d ++ codes ",") (parts_text ds) deep ∙ append_assoc (part_condition_text d) (codes ",") (parts_text ds ++ deep)) in
      more_shallow cs rest ds deep h.1 k.1 first.1 too

  joined_shallow : (join : Condition → Condition → List Condition → Condition) (w : Text) (c : Condition) (rest : Text) → Joined HasText room join w c rest → BehindParts room (IsTooDeep room) w → ⊥
  joined_shallow join w c rest x y =
      more_shallow (x.0 ∷ x.1 ∷ x.2) rest y.0 y.1 (x.3, (x.4, x.5)) y.3
      (append_assoc (44 ∷ part_condition_text x.0) (more_text (x.1 ∷ x.2)) (41 ∷ rest) ∙ ap (λ t. 44 ∷ (part_condition_text x.0 ++ (44 ∷ t))) (append_assoc (part_condition_text x.1) (more_text x.2) (41 ∷ rest)) ∙ ap (λ t. 44 ∷ t) (sym x.7 ∙ y.2)) y.4

-- the form in front of a condition's text
pub form_front : (room : ℕ) (w : Text) (c : Condition) (rest : Text) (f : Form) (v : Text) → BeginsWith (suc room) w c rest → w ≡ form_text f ++ (40 ∷ v) → Body HasText room f v c rest
form_front room w c rest f v h e =
    let x = opened HasText (suc room) room c rest (omega arith) h.1 in
    let parts = cut 40 (form_text f) (form_text x.0) v x.1 (name_lacks f) (name_lacks x.0) (sym e ∙ h.0 ∙ x.2) in
    subst (λ f. Body HasText room f v c rest) (sym (same_form f x.0 parts.0)) (subst (λ w. Body HasText room x.0 w c rest) (sym parts.1) x.3)

pub not_both_fronts : (room : ℕ) → IsNotBoth room
not_both_fronts zero w c rest h too = omega (arith, some_room 0 c h.1.0)
not_both_fronts (suc room) w c rest h (inl deep) =
    let body = form_front room w c rest form.Not deep.0 h deep.1 in
    not_both_fronts room deep.0 body.0 (41 ∷ rest) (body.3, body.1) deep.2
not_both_fronts (suc room) w c rest h (inr deep) = elim deep.1 [
  | inl e ↦ joined_shallow room (not_both_fronts room) And deep.0 c rest (form_front room w c rest form.And deep.0 h e) deep.2
  | inr e ↦ joined_shallow room (not_both_fronts room) Or deep.0 c rest (form_front room w c rest form.Or deep.0 h e) deep.2
]
