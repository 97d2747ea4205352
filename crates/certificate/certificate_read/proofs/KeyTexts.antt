-- The texts of sort keys, and of lists of them.
use Rattle.std.proofs.Common.{◌≡◌, ◌≢◌, ℕ, ◌==◌, Bool, true, false, List, [], ◌∷◌, ◌++◌, length, map, flat_map, drop, get_or, Result, Ok, Err, Option, Some, None, length-append, refl, sym, ◌∙◌, ap, subst, arith, codes}
use Rattle.std.specs.List.{slice_split}
use Rattle.values.specs.declared.fault.Fault.{Fault}
use Rattle.values.specs.declared.fault.Fault.TheVariants.{Memory, Refused}
use Rattle.physical.specs.declared.plan.OrderKey.{OrderKey}
use Rattle.certificate_text.specs.declared.part_fault.PartReason.{PartReason}
use Rattle.certificate_text.specs.declared.part_fault.PartReason.TheVariants.{OtherForm, OverLimit}
use Rattle.certificate_text.specs.Numerals.{numeral}
use Rattle.certificate_text.specs.Parts.{IsRead, Reads, SpellsNumber, IsShort}
use Rattle.certificate_text.specs.PartTexts.{lacks, list_text}
use Rattle.certificate_text.proofs.Lacking.{lacks_both, numeral_lacks}
use Rattle.certificate_text.proofs.Numerals.{form_nonempty, numeral_injective, numeral_tested}
use Rattle.certificate_text.proofs.PartLists.{list_spelled, parts_spelled}
use Rattle.certificate_text.specs.CertificateText.{Text, direction_text}
use Rattle.certificate_text.specs.Readable.{AreShortKeys, IsShortKey}
use Rattle.certificate_read.specs.NodeReading.{key_text, SpellsKey, SpellsColumn, SpellEachKey, SpellsKeys, keys_wording}
use Rattle.certificate_read.specs.Wordings.{IsAny, IsNever}
use Rattle.certificate_read.proofs.Wordings.{AreTold, one_told}

abbrev pub any : OrderKey
any = record { column = 0; descending = false }

-- ---- one key

last_same : (x y : Text) (c d : ℕ) → x ++ (c ∷ []) ≡ y ++ (d ∷ []) → (x ≡ y) × (c ≡ d)
last_same [] [] c d e = (refl, ap (λ w. get_or w 0 0) e)
last_same [] (b ∷ y) c d e = absurd (omega (arith, ap length e, length-append y (d ∷ [])))
last_same (a ∷ x) [] c d e = absurd (omega (arith, ap length e, length-append x (c ∷ [])))
last_same (a ∷ x) (b ∷ y) c d e =
    let more = last_same x y c d (ap (drop 1) e) in
    (λ i. ap (λ w. get_or w 0 0) e i ∷ more.0 i, more.1)

-- a column with its direction, of which the last character is one
abbrev directed : ℕ → Bool → Text
directed n b = numeral n ++ direction_text b

ascending : (n : ℕ) (b : Bool) (x : Text) → x ++ (97 ∷ []) ≡ directed n b → (x ≡ numeral n) × (b ≡ false)
ascending n false x e = ((last_same x (numeral n) 97 97 e).0, refl)
ascending n true x e = absurd (omega (arith, (last_same x (numeral n) 97 100 e).1))

descending : (n : ℕ) (b : Bool) (x : Text) → x ++ (100 ∷ []) ≡ directed n b → (x ≡ numeral n) × (b ≡ true)
descending n true x e = ((last_same x (numeral n) 100 100 e).0, refl)
descending n false x e = absurd (omega (arith, (last_same x (numeral n) 100 97 e).1))

pub column_past : (w : Text) (b : Bool) (o : Option ℕ) → IsRead SpellsNumber IsShort w (Ok o) → o ≡ None → IsRead (SpellsColumn b) IsShortKey w (Ok None)
column_past w b o h is =
    let past : IsRead SpellsNumber IsShort w (Ok None) = subst (λ o. IsRead SpellsNumber IsShort w (Ok o)) is h in
    (record { column = past.0; descending = b }, (past.1, refl), past.2)

-- a key in one direction is read as its column is
module _ (w x : Text) (is_descending : Bool) (cut : w ≡ x ++ direction_text is_descending) (only : (n : ℕ) (b : Bool) → x ++ direction_text is_descending ≡ directed n b → (x ≡ numeral n) × (b ≡ is_descending)) where
  spelled : (k : OrderKey) → SpellsColumn is_descending x k → SpellsKey w k
  spelled k s = cut ∙ (λ i. s.0 i ++ direction_text (sym s.1 i))

  key_read : (r : Result (Option OrderKey) PartReason) → IsRead (SpellsColumn is_descending) IsShortKey x r → IsRead SpellsKey IsShortKey w r
  key_read (Ok (Some k)) h = (spelled k h.0, h.1)
  key_read (Ok None) h = (h.0, spelled h.0 h.1, h.2)
  key_read (Err OtherForm) h = λ k s. h k (only k.column k.descending (sym cut ∙ s))
  key_read (Err OverLimit) h = absurd h

key_told : (j k : OrderKey) → key_text j ≡ key_text k → j ≡ k
key_told j k e = by j.descending k.descending e where
  by : (b c : Bool) → directed j.column b ≡ directed k.column c → ◌≡◌ {A = OrderKey} (record { column = j.column; descending = b }) (record { column = k.column; descending = c })
  by false c e =
      let same = ascending k.column c (numeral j.column) e in
      λ i. record { column = numeral_injective j.column k.column same.0 i; descending = sym same.1 i }
  by true c e =
      let same = descending k.column c (numeral j.column) e in
      λ i. record { column = numeral_injective j.column k.column same.0 i; descending = sym same.1 i }

-- ---- lists

key_lacks : (k : OrderKey) → lacks 44 (key_text k) ≡ true
key_lacks k = lacks_both 44 (numeral k.column) (direction_text k.descending) (numeral_lacks 44 k.column refl) (by k.descending) where
  by : (b : Bool) → lacks 44 (direction_text b) ≡ true
  by false = refl
  by true = refl

-- only a list without keys is a dash
no_dash : (k : OrderKey) (K : List OrderKey) → list_text key_text (k ∷ K) ≡ codes "-" → ⊥
no_dash k K e =
    let some = form_nonempty (numeral k.column) (numeral_tested k.column) in
    omega (arith, some, ap length e, length-append (key_text k) (flat_map (λ k. codes "," ++ key_text k) K), length-append (numeral k.column) (direction_text k.descending), one k.descending) where
      one : (b : Bool) → length (direction_text b) ≡ 1
      one false = refl
      one true = refl

-- a list is read as its parts are, but for the dash
pub keys_read : {V : Type 0} (w : Text) (ts : List Text) (view : V → List OrderKey) (r : Result (Option V) (Fault PartReason)) → (w ≡ codes "-" → ⊥) → ts ≡ slice_split (λ b. b == 44) w
    → Reads SpellEachKey AreShortKeys ts view r → Reads SpellsKeys AreShortKeys w view r
keys_read w ts view (Ok (Some v)) dash cut h = (list_spelled key_text w (view v) (sym cut ∙ h.0), h.1)
keys_read w ts view (Ok None) dash cut h = (h.0, list_spelled key_text w h.0 (sym cut ∙ h.1), h.2)
keys_read w ts view (Err Memory) dash cut h = tt
keys_read w ts view (Err (Refused OverLimit)) dash cut h = absurd h
keys_read w ts view (Err (Refused OtherForm)) dash cut h = λ K s. h K (cut ∙ parts_spelled key_text key_lacks w K dash s)

each_told : (K L : List OrderKey) → map key_text K ≡ map key_text L → K ≡ L
each_told [] [] e = refl
each_told [] (l ∷ L) e = absurd (omega (arith, ap length e))
each_told (k ∷ K) [] e = absurd (omega (arith, ap length e))
each_told (k ∷ K) (l ∷ L) e = λ i. key_told k l (ap (λ ts. get_or ts 0 []) e) i ∷ each_told K L (ap (λ ts. drop 1 ts) e) i

list_told : (K L : List OrderKey) → list_text key_text K ≡ list_text key_text L → K ≡ L
list_told [] [] e = refl
list_told [] (l ∷ L) e = absurd (no_dash l L (sym e))
list_told (k ∷ K) [] e = absurd (no_dash k K e)
list_told (k ∷ K) (l ∷ L) e =
    each_told (k ∷ K) (l ∷ L) (sym (parts_spelled key_text key_lacks (list_text key_text (k ∷ K)) (k ∷ K) (no_dash k K) refl) ∙ parts_spelled key_text key_lacks (list_text key_text (k ∷ K)) (l ∷ L) (no_dash k K) e)

pub keys_told : AreTold keys_wording
keys_told = one_told (list_text key_text) IsAny AreShortKeys IsNever (λ x y h k e. list_told x y e) (λ x h over. over)
