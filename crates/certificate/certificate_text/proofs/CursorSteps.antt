-- Steps of a reader along a text.
use Rattle.std.proofs.Common.{◌≡◌, ◌≢◌, ◌==◌, ℕ, suc, ◌<◌, Bool, true, false, not, ◌&&◌, length, get_or, arith, [], ◌∷◌, ◌++◌, drop, refl, ap}
use Rattle.std.proofs.lemmas.Bool.{eqb-true}
use Rattle.certificate_text.specs.PartTexts.{Text, lacks}

pub same_rest : (w x y : Text) → w ++ x ≡ w ++ y → x ≡ y
same_rest [] x y e = e
same_rest (b ∷ w) x y e = same_rest w x y (ap (drop 1) e)

-- a word that is cut at the first such character lacks it
pub lacking_before : (c : ℕ) (w : Text) → ((i : ℕ) → i < length w → get_or w i 0 ≢ c) → lacks c w ≡ true
lacking_before c [] free = refl
lacking_before c (b ∷ w) free = by (b == c) refl (lacking_before c w (λ i l. free (suc i) (omega (arith, l)))) where
  by : (same : Bool) → (b == c) ≡ same → lacks c w ≡ true → (not same && lacks c w) ≡ true
  by true e more = absurd (free 0 (omega arith) (eqb-true b c e))
  by false e more = more
