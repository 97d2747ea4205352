-- Lists of columns, as they are read.
use Rattle.std.proofs.Common.{◌≡◌, ℕ, ◌+◌, ◌-◌, ◌<◌, ◌≤◌, inl, inr, ◌↔◌, IsTrue, Bool, true, false, List, [], length, get_or, Result, ◌==◌, Ok, Err, Option, Some, None, sym, ◌∙◌, ap, subst, arith}
use Rattle.std.proofs.lemmas.Bool.{cases_eq, false≢true}
use Rattle.std.proofs.lemmas.List.{length-map, get_or-map}
use denote.Ref.{Bor}
use Rattle.std.specs.List.{slice_split}
use Rattle.std.specs.List.Sorted.{IsStrictlyIncreasing}
use Rattle.std.specs.Option.{option_map}
use Rattle.std.proofs.lemmas.Result.{err_from_is_err_and}
use Rattle.std.specs.Prelude.{codes}
use Rattle.std.specs.Result.{IsErrAnd}
use Rattle.values.specs.declared.fault.Fault.{Fault}
use Rattle.values.specs.declared.fault.Fault.TheVariants.{Memory, Refused}
use Rattle.algebra.proofs.Sets.{rising-again}
use Rattle.algebra.specs.Columns.{rising}
use Rattle.certificate_text.specs.declared.part_fault.PartReason.{PartReason}
use Rattle.certificate_text.specs.declared.part_fault.PartReason.TheVariants.{OtherForm, OverLimit}
use Rattle.certificate_text.specs.PartTexts.{Text}
use Rattle.certificate_text.specs.Numerals.{numeral, is_numeral_below}
use Rattle.certificate_text.specs.Parts.{IsRead, Reads, SpellsNumber, SpellEach, SpellsColumns, AreShort}
use Rattle.certificate_text.proofs.NumeralOrder.{numerals_below}
use Rattle.certificate_text.proofs.NumberLists.{texts, texts_length, spelled_at, list_spelled, parts_spelled}

-- ---- whether numbers rise

as_many : (ts : List Text) (ns : List ℕ) → SpellEach ts ns → length ts ≡ length ns
as_many ts ns e = ap length e ∙ length-map ns numeral

word_spelled : (ts : List Text) (ns : List ℕ) (k : ℕ) → SpellEach ts ns → k < length ts → SpellsNumber (get_or ts k []) (get_or ns k 0)
word_spelled ts ns k e l = ap (λ ts. get_or ts k []) e ∙ spelled_at ns k (subst (λ ts. k < length ts) e l)

abbrev IsBelowNext : List Text → ℕ → Type 0
IsBelowNext ts k = IsTrue (is_numeral_below (get_or ts k []) (get_or ts (k + 1) []))

next_below : (ts : List Text) (ns : List ℕ) (k : ℕ) → SpellEach ts ns → k + 1 < length ts → IsBelowNext ts k ↔ (get_or ns k 0 < get_or ns (k + 1) 0)
next_below ts ns k e l =
    numerals_below (get_or ts k []) (get_or ts (k + 1) []) (get_or ns k 0) (get_or ns (k + 1) 0) (word_spelled ts ns k e (omega (arith, l))) (word_spelled ts ns (k + 1) e l)

-- each of the first words is below the next
abbrev pub RiseTo : List Text → ℕ → Type 0
RiseTo ts n = (k : ℕ) → k + 1 < n → IsBelowNext ts k

pub rise_more : (words : List (Bor Text)) (n : ℕ) (d e : Bor Text) (less : Bool) → 1 ≤ n → n < length words → RiseTo (texts words) n → less ≡ is_numeral_below (get_or words (n - 1) d).now (get_or words n e).now → less ≡ true
    → RiseTo (texts words) (n + 1)
rise_more words n d e less some l h is t k m = elim (cases_eq (k + 1) n) [
  | inl f ↦
      let last : n - 1 ≡ k = omega (arith, f) in
      (λ i. is_numeral_below (get_or-map (λ (word : Bor Text). word.now) words k d [] (omega (arith, f, l)) i) (get_or-map (λ (word : Bor Text). word.now) words (k + 1) e [] (omega (arith, f, l)) i))
      ∙ (λ i. is_numeral_below (get_or words (sym last i) d).now (get_or words (f i) e).now) ∙ sym is ∙ t
  | inr f ↦ h k (omega (arith, f, m))
]

pub all_rise : (words : List (Bor Text)) (n : ℕ) → length words ≤ n → RiseTo (texts words) n → (ns : List ℕ) → SpellEach (texts words) ns → IsStrictlyIncreasing ns
all_rise words n l h ns e k m = (next_below (texts words) ns k e (omega (arith, m, as_many (texts words) ns e))).0 (h k (omega (arith, m, l, as_many (texts words) ns e, texts_length words)))

-- words of which one isn't below the next
pub one_falls : (words : List (Bor Text)) (n : ℕ) (d e : Bor Text) (less : Bool) → 1 ≤ n → n < length words → less ≡ is_numeral_below (get_or words (n - 1) d).now (get_or words n e).now → less ≡ false
    → (ns : List ℕ) → SpellEach (texts words) ns → IsStrictlyIncreasing ns → ⊥
one_falls words n d e less some l is t ns s rise =
    let k : ℕ = n - 1 in
    let next : k + 1 ≡ n = omega arith in
    let inside : k + 1 < length (texts words) = omega (arith, l, texts_length words) in
    let below = (next_below (texts words) ns k s inside).1 (rise k (omega (arith, inside, as_many (texts words) ns s))) in
    false≢true (sym t ∙ is ∙ (λ i. is_numeral_below (sym (get_or-map (λ (word : Bor Text). word.now) words k d [] (omega (arith, l))) i) (get_or words (sym next i) e).now)
    ∙ (λ i. is_numeral_below (get_or (texts words) k []) (sym (get_or-map (λ (word : Bor Text). word.now) words (k + 1) e [] (omega (arith, l))) i)) ∙ below)

-- ---- the columns of a list

module _ (w : Text) (ts : List Text) (rise : Bool) (dash : w ≡ codes "-" → ⊥) (parts : ts ≡ slice_split (λ b. b == 44) w) (tells : (ns : List ℕ) → SpellEach ts ns → IsTrue rise ↔ IsStrictlyIncreasing ns) where
  pub none_rising : rise ≡ false → (ns : List ℕ) → SpellsColumns w ns → ⊥
  none_rising e ns s = false≢true (sym e ∙ (tells ns (parts ∙ parts_spelled w ns dash s.0)).1 s.1)

  pub some_rising : (ns : List ℕ) → rise ≡ true → SpellEach ts ns → SpellsColumns w ns
  some_rising ns e s = (list_spelled w ns (sym parts ∙ s), (tells ns s).0 e)

  pub some_read : {V : Type 0} (view : V → List ℕ) (read : Option V) (v : V) (ms : List ℕ) → rise ≡ true → IsRead SpellEach AreShort ts (Ok (option_map view read)) → read ≡ Some v → ms ≡ rising (view v)
      → IsRead SpellsColumns AreShort w (Ok (Some ms))
  some_read view read v ms e r is g =
      let found : IsRead SpellEach AreShort ts (Ok (Some (view v))) = subst (λ read. IsRead SpellEach AreShort ts (Ok (option_map view read))) is r in
      rw (g ∙ rising-again (view v) (some_rising (view v) e found.0).1) (some_rising (view v) e found.0, found.1)

  pub past_range : {V : Type 0} (view : V → List ℕ) (read : Option V) → rise ≡ true → IsRead SpellEach AreShort ts (Ok (option_map view read)) → read ≡ None → IsRead SpellsColumns AreShort w (Ok None)
  past_range view read e r is =
      let found : IsRead SpellEach AreShort ts (Ok None) = subst (λ read. IsRead SpellEach AreShort ts (Ok (option_map view read))) is r in
      (found.0, some_rising found.0 e found.1, found.2)

-- what the exit at a fault of the numbers gives
pub columns_fault : {V : Type 0} (view : V → List ℕ) (w : Text) (ts : List Text) (dash : w ≡ codes "-" → ⊥) (parts : ts ≡ slice_split (λ b. b == 44) w) (fault : Fault PartReason) (result : Result (Option (List ℕ)) (Fault PartReason))
    → Reads SpellEach AreShort ts view (Err fault) → IsErrAnd result (λ given. given ≡ fault) → Reads SpellsColumns AreShort w (λ columns. columns) result
columns_fault {V} view w ts dash parts fault result h e =
    let x = err_from_is_err_and result e in
    subst (λ result. Reads SpellsColumns AreShort w (λ columns. columns) result) (sym (x.1 ∙ ap Err x.2)) (by fault h) where
      by : (fault : Fault PartReason) → Reads SpellEach AreShort ts view (Err fault) → Reads SpellsColumns AreShort w (λ (columns : List ℕ). columns) (Err fault)
      by Memory h = tt
      by (Refused OverLimit) h = absurd h
      by (Refused OtherForm) h = λ ns s. h ns (parts ∙ parts_spelled w ns dash s.0)
