-- Calls that pass parts of a text one after the other.
use Rattle.std.proofs.Common.{◌≡◌, ℕ, Bool, true, false, inl, inr, ◌⊎◌, ◌∷◌, ◌++◌, Result, Ok, Err, sym, ◌∙◌, ap}
use Rattle.std.specs.Char.{is_ascii_digit}
use Rattle.values.specs.declared.fault.Fault.{Fault}
use Rattle.values.specs.declared.fault.Fault.TheVariants.{Memory, Refused}
use Rattle.algebra.specs.declared.condition.Term.{Term}
use Rattle.certificate_text.specs.declared.part_fault.PartReason.{PartReason}
use Rattle.certificate_text.specs.declared.part_fault.PartReason.TheVariants.{OtherForm, OverLimit}
use Rattle.certificate_text.specs.declared.conditions.Cursor.{Cursor}
use Rattle.certificate_text.specs.declared.conditions.Form.{Form}
use Rattle.certificate_text.specs.Conditions.{form_text}
use Rattle.certificate_text.specs.ConditionReading.{BeginsForm, BeginsNumber, BeginsTerm, IsAny, IsNever, Passes, PassesWord}
use Rattle.certificate_text.specs.Numerals.{numeral}
use Rattle.certificate_text.specs.Parts.{IsRead, Reads, IsShort, Noted, SpellsNumber}
use Rattle.certificate_text.specs.PartTexts.{Text, lacks, part_term_text}
use Rattle.certificate_text.specs.Spelled.{HasText, IsShortTerm, SpellsTerm}
use Rattle.certificate_text.proofs.Lacking.{numeral_lacks}
use Rattle.certificate_text.proofs.SameFronts.{cut, name_lacks}
use Rattle.certificate_text.proofs.TermParts.{no_comma, no_parenthesis}

-- ---- what is noted of numbers

pub noted_both : {P Q E F : Type 0} (first mid last : Bool) → Noted P E first mid → Noted Q F mid last → Noted (P × Q) (E × F) first last
noted_both first mid last (inl h) (inl k) = inl ((h.0, k.0), (h.1, k.1), k.2 ∙ h.2)
noted_both first mid last (inl h) (inr k) = inr ((λ both. k.0 both.1), k.1)
noted_both first mid last (inr h) (inl k) = inr ((λ both. h.0 both.0), k.2 ∙ h.1)
noted_both first mid last (inr h) (inr k) = inr ((λ both. h.0 both.0), k.1)

pub noted_as : {P Q E F : Type 0} (old new : Bool) → (P → Q) → (Q → P) → (E → F) → Noted P E old new → Noted Q F old new
noted_as old new there back gives (inl h) = inl (there h.0, gives h.1, h.2)
noted_as old new there back gives (inr h) = inr ((λ q. h.0 (back q)), h.1)

pub noted_any : {E : Type 0} (old new : Bool) → Noted Unit E old new → E × (new ≡ old)
noted_any old new (inl h) = (h.1, h.2)
noted_any old new (inr h) = absurd (h.0 tt)

-- ---- a later call fails, behind what the earlier ones passed

pub fails_behind : {V W X Y : Type 0} (S : Text → X → Text → Type 0) (R : X → Type 0) (O : Text → Type 0) (make : X → V) (T : Text → Y → Text → Type 0) (P : Y → Type 0) (N : Text → Type 0) (give : Y → W)
    (old mid new end : Cursor) (fault : Fault PartReason) → Passes T P N give mid new (Err fault) → ((x : X) (rest : Text) → S old.left.now x rest → (y : Y) × (more : Text) × T mid.left.now y more)
    → (O old.left.now → N mid.left.now ⊎ ((y : Y) × (more : Text) × T mid.left.now y more)) → (N mid.left.now → O old.left.now) → Passes S R O make old end (Err fault)
fails_behind S R O make T P N give old mid new end Memory h begins deep over = tt
fails_behind S R O make T P N give old mid new end (Refused OtherForm) h begins deep over =
    ((λ x rest s. let next = begins x rest s in h.0 next.0 next.1 next.2), (λ o. elim (deep o) [ inl n ↦ h.1 n | inr t ↦ h.0 t.0 t.1 t.2 ]))
fails_behind S R O make T P N give old mid new end (Refused OverLimit) h begins deep over = over h

-- what a call makes of what it passes is a value of another kind
pub passes_as : {V X : Type 0} (S : Text → X → Text → Type 0) (R : X → Type 0) (O : Text → Type 0) (make : X → V) (T : Text → V → Text → Type 0) (P : V → Type 0) (N : Text → Type 0) (old new : Cursor) (r : Result V (Fault PartReason))
    → ((x : X) (rest : Text) → S old.left.now x rest → T old.left.now (make x) rest) → ((v : V) (rest : Text) → T old.left.now v rest → (x : X) × S old.left.now x rest)
    → ((x : X) → R x → P (make x)) → ((x : X) → P (make x) → R x) → (N old.left.now → O old.left.now) → (O old.left.now → N old.left.now)
    → Passes S R O make old new r → Passes T P N (λ v. v) old new r
passes_as S R O make T P N old new (Ok v) there back in_range range deep over h = (make h.0, there h.0 new.left.now h.1, noted_as old.in_range new.in_range (in_range h.0) (range h.0) (λ same. same) h.2)
passes_as S R O make T P N old new (Err Memory) there back in_range range deep over h = tt
passes_as S R O make T P N old new (Err (Refused OtherForm)) there back in_range range deep over h = ((λ v rest t. let x = back v rest t in h.0 x.0 rest x.1), (λ n. h.1 (deep n)))
passes_as S R O make T P N old new (Err (Refused OverLimit)) there back in_range range deep over h = over h

-- ---- what is read of a word

module _ {V X : Type 0} (S : Text → X → Text → Type 0) (R : X → Type 0) (make : X → V) (text : X → Text) (Is : X → Type 0) (end : ℕ)
    (spells : (t : Text) (x : X) (rest : Text) → S t x rest → (t ≡ text x ++ (end ∷ rest)) × (lacks end (text x) ≡ true) × Is x) where
  pub word_fails : {W : Type 0} (view : W → Text) (old new last : Cursor) (fault : Fault PartReason) → PassesWord view end old new (Err fault) → Passes S R IsNever make old last (Err fault)
  word_fails view old new last Memory h = tt
  word_fails view old new last (Refused OtherForm) h = ((λ x rest s. let it = spells old.left.now x rest s in h (text x) rest it.1 it.0), (λ never. never))
  word_fails view old new last (Refused OverLimit) h = absurd h

  pub value_fails : (word : Text) (old new last : Cursor) (reason : PartReason) → old.left.now ≡ word ++ (end ∷ new.left.now) → lacks end word ≡ true → IsRead (λ w x. (w ≡ text x) × Is x) R word (Err reason) → Passes S R IsNever make old last (Err (Refused reason))
  value_fails word old new last OverLimit e free h = absurd h
  value_fails word old new last OtherForm e free h = (
    (λ x rest s.
        let it = spells old.left.now x rest s in
        h x ((cut end word (text x) new.left.now rest free it.1 (sym e ∙ it.0)).0, it.2)),
    (λ never. never),
  )

-- ---- numbers and terms

pub is_separator : (end : ℕ) → (end ≡ 44) ⊎ (end ≡ 41) → is_ascii_digit end ≡ false
is_separator end (inl e) = ap is_ascii_digit e
is_separator end (inr e) = ap is_ascii_digit e

term_lacks : (end : ℕ) → (end ≡ 44) ⊎ (end ≡ 41) → (t : Term) → HasText t → lacks end (part_term_text t) ≡ true
term_lacks end (inl e) t s = ap (λ c. lacks c (part_term_text t)) e ∙ no_comma t s
term_lacks end (inr e) t s = ap (λ c. lacks c (part_term_text t)) e ∙ no_parenthesis t s

pub spells_number : (end : ℕ) → (end ≡ 44) ⊎ (end ≡ 41) → (t : Text) (n : ℕ) (rest : Text) → BeginsNumber end t n rest → (t ≡ numeral n ++ (end ∷ rest)) × (lacks end (numeral n) ≡ true) × Unit {0}
spells_number end one t n rest s = (s, numeral_lacks end n (is_separator end one), tt)

pub spells_term : (end : ℕ) → (end ≡ 44) ⊎ (end ≡ 41) → (t : Text) (a : Term) (rest : Text) → BeginsTerm end t a rest → (t ≡ part_term_text a ++ (end ∷ rest)) × (lacks end (part_term_text a) ≡ true) × HasText a
spells_term end one t a rest s = (s.0, term_lacks end one a s.1, s.1)

pub number_unread : (word : Text) (reason : PartReason) → IsRead SpellsNumber IsShort word (Err reason) → IsRead (λ w (n : ℕ). (w ≡ numeral n) × Unit {0}) IsShort word (Err reason)
number_unread word OtherForm h = λ n s. h n s.0
number_unread word OverLimit h = absurd h

pub term_fails : (end : ℕ) → (end ≡ 44) ⊎ (end ≡ 41) → (word : Text) (old new last : Cursor) (fault : Fault PartReason) → old.left.now ≡ word ++ (end ∷ new.left.now) → lacks end word ≡ true → Reads SpellsTerm IsShortTerm word (λ (t : Term). t) (Err fault)
    → Passes (BeginsTerm end) IsShortTerm IsNever (λ (t : Term). t) old last (Err fault)
term_fails end one word old new last Memory e free h = tt
term_fails end one word old new last (Refused reason) e free h = value_fails (BeginsTerm end) IsShortTerm (λ t. t) part_term_text HasText end (spells_term end one) word old new last reason e free h

-- a form that has no such name
pub form_unnamed : (word : Text) (old new last : Cursor) → old.left.now ≡ word ++ (40 ∷ new.left.now) → lacks 40 word ≡ true → ((f : Form) → word ≡ form_text f → ⊥) → Passes BeginsForm IsAny IsNever (λ (f : Form). f) old last (Err (Refused OtherForm))
form_unnamed word old new last e free none = ((λ f rest s. none f (cut 40 word (form_text f) new.left.now rest free (name_lacks f) (sym e ∙ s)).0), (λ never. never))
