-- Texts that lack a character.
use Rattle.std.proofs.Common.{◌≡◌, ◌≢◌, ℕ, zero, suc, ◌<◌, Bool, true, false, not, ◌&&◌, ◌==◌, List, [], ◌∷◌, ◌++◌, length, get_or, map, append-nil, refl, sym, ◌∙◌, ap, arith}
use Rattle.std.proofs.lemmas.Bool.Decides.{nat_tests}
use Rattle.std.proofs.lemmas.Bool.{eq-eqb, eqb-true, and_parts, false≢true}
use Rattle.std.proofs.lemmas.List.Elements.{All-from_recursion}
use Rattle.std.proofs.lemmas.List.Splits.{slice_split_none, slice_split_at}
use Rattle.std.specs.Char.{is_ascii_digit}
use Rattle.std.specs.List.{list_all, All, AllByRecursion, join_by, slice_split}
use Rattle.certificate_text.specs.PartTexts.{Text, lacks}
use Rattle.certificate_text.specs.Numerals.{numeral}
use Rattle.certificate_text.proofs.Numerals.{numeral_digits}

pub lacks_at : (c : ℕ) (w : Text) → lacks c w ≡ true → (i : ℕ) → i < length w → get_or w i 0 ≢ c
lacks_at c [] h i l e = absurd (omega arith)
lacks_at c (b ∷ w) h zero l e = grind (arith, nat_tests)
lacks_at c (b ∷ w) h (suc i) l e = let more : lacks c w ≡ true = grind arith in lacks_at c w more i (omega arith) e

-- ---- tests that each character passes

pub pass_both : (p : ℕ → Bool) (v w : Text) → list_all p v ≡ true → list_all p w ≡ true → list_all p (v ++ w) ≡ true
pass_both p [] w h k = k
pass_both p (b ∷ v) w h k = let parts = and_parts (p b) (list_all p v) h in λ i. parts.0 i && pass_both p v w parts.1 k i

pub pass_more : (p q : ℕ → Bool) → ((b : ℕ) → p b ≡ true → q b ≡ true) → (w : Text) → list_all p w ≡ true → list_all q w ≡ true
pass_more p q more [] h = refl
pass_more p q more (b ∷ w) h = let parts = and_parts (p b) (list_all p w) h in λ i. more b parts.0 i && pass_more p q more w parts.1 i

pub lacks_both : (c : ℕ) (v w : Text) → lacks c v ≡ true → lacks c w ≡ true → lacks c (v ++ w) ≡ true
lacks_both c = pass_both (λ b. not (b == c))

-- a character that fails a test is none that passes it
pub passes_other : (p : ℕ → Bool) (c : ℕ) → p c ≡ false → (b : ℕ) → p b ≡ true → not (b == c) ≡ true
passes_other p c fails b passes = one (b == c) refl where
  one : (same : Bool) → (b == c) ≡ same → not same ≡ true
  one true e = absurd (false≢true (sym fails ∙ ap p (sym (eqb-true b c e)) ∙ passes))
  one false e = refl

pub passing_lack : (p : ℕ → Bool) (c : ℕ) (w : Text) → p c ≡ false → list_all p w ≡ true → lacks c w ≡ true
passing_lack p c w fails h = pass_more p (λ b. not (b == c)) (passes_other p c fails) w h

pub numeral_lacks : (c n : ℕ) → is_ascii_digit c ≡ false → lacks c (numeral n) ≡ true
numeral_lacks c n other = passing_lack is_ascii_digit c (numeral n) other (numeral_digits n)

-- ---- lists that are joined by the character

lacking : (c : ℕ) (w : Text) → lacks c w ≡ true → AllByRecursion (λ b. (b == c) ≡ false) w
lacking c [] free = tt
lacking c (b ∷ w) free = let more : lacks c w ≡ true = grind arith in (grind arith, lacking c w more)

pub each_lacks : (c : ℕ) (w : Text) → lacks c w ≡ true → All (λ b. (b == c) ≡ false) w
each_lacks c w free = All-from_recursion (λ b. (b == c) ≡ false) w (lacking c w free)

-- a joined list is cut into its parts
pub split_list : {X : Type 0} (part : X → Text) (c : ℕ) → ((x : X) → lacks c (part x) ≡ true) → (x : X) (xs : List X) → slice_split (λ b. b == c) (join_by part (c ∷ []) (x ∷ xs)) ≡ map part (x ∷ xs)
split_list part c free x [] = ap (slice_split (λ b. b == c)) (append-nil (part x)) ∙ slice_split_none (λ b. b == c) (part x) (each_lacks c (part x) (free x))
split_list part c free x (y ∷ ys) =
    slice_split_at (λ b. b == c) (part x) c (join_by part (c ∷ []) (y ∷ ys)) (each_lacks c (part x) (free x)) (eq-eqb c c refl) ∙ ap (λ ts. part x ∷ ts) (split_list part c free y ys)
