-- Groups in buckets, one group more.
use Rattle.std.proofs.Common.{◌≡◌, refl, ap, sym, ◌∙◌, ℕ, ◌+◌, ◌<◌, ◌≤◌, inl, inr, List, [], ◌∷◌, ◌++◌, length, slice_index, slice_set, length-append, arith}
use Rattle.std.proofs.lemmas.Bool.{cases_eq}
use Rattle.std.proofs.lemmas.List.{get_or-set_same, get_or-set_other, length-set}
use Rattle.std.proofs.Math.ListN.{get_or-append}
use Rattle.std.proofs.Math.Seq.{get_or-append_seam}
use Rattle.grouping.specs.GroupChains.{IsLast, AreChained}

-- a number more at which f isn't b
last_beyond : (f : ℕ → ℕ) (b end last : ℕ) → (f end ≡ b → ⊥) → IsLast f b end last → IsLast f b (end + 1) last
last_beyond f b end last other h = record {
  within = let within = h.within in omega (arith, within);
  there = h.there;
  apart = λ j low high is.
      elim (cases_eq j end) [
        | inl same ↦ other (ap f (sym same) ∙ is)
        | inr off ↦ h.apart j low (omega arith) is
      ];
}

-- ... and at which it is
last_here : (f : ℕ → ℕ) (b end : ℕ) → f end ≡ b → IsLast f b (end + 1) (end + 1)
last_here f b end is = record { within = omega arith; there = λ g e. let same : g ≡ end = omega (arith, e) in ap f same ∙ is; apart = λ j low high q. absurd (omega arith) }

module _ (f : ℕ → ℕ) (lasts befores : List ℕ) (old : AreChained f lasts befores) where
  -- a group at the end of its bucket
  pub pushed : (bucket : ℕ) → bucket < length lasts → f (length befores) ≡ bucket → AreChained f (slice_set lasts bucket (length befores + 1)) (befores ++ slice_index lasts bucket ∷ [])
  pushed bucket below is =
      let n = length befores in
      let many : length (befores ++ slice_index lasts bucket ∷ []) ≡ n + 1 = length-append befores (slice_index lasts bucket ∷ []) in
      let wide : length (slice_set lasts bucket (n + 1)) ≡ length lasts = length-set lasts bucket (n + 1) in
      record {
        last = λ b low.
            elim (cases_eq b bucket) [
              | inl same ↦ rw (many, same, get_or-set_same lasts bucket (n + 1) 0 below) (last_here f bucket n is)
              | inr off ↦ rw (many, get_or-set_other lasts bucket b (n + 1) 0 off) (last_beyond f b n (slice_index lasts b) (λ e. off (sym e ∙ is)) (old.last b (omega (arith, low, wide))))
            ];
        before = λ g low.
            elim (cases_eq g n) [
              | inl same ↦ rw (same, get_or-append_seam befores (slice_index lasts bucket) [] 0, is) (old.last bucket below)
              | inr off ↦ rw (get_or-append befores (slice_index lasts bucket ∷ []) 0 g (omega (arith, low, many, off))) (old.before g (omega (arith, low, many, off)))
            ];
      }

-- what f says past the groups makes no difference
module _ (f h : ℕ → ℕ) (count : ℕ) (same : (g : ℕ) → g < count → f g ≡ h g) where
  last_alike : (b c end last : ℕ) → b ≡ c → end ≤ count → IsLast f b end last → IsLast h c end last
  last_alike b c end last e few old = record {
    within = old.within;
    there = λ g is. let within = old.within in sym (same g (omega (arith, is, within, few))) ∙ old.there g is ∙ e;
    apart = λ j low high is. old.apart j low high (same j (omega (arith, high, few)) ∙ is ∙ sym e);
  }

  pub chained_alike : (lasts befores : List ℕ) → length befores ≡ count → AreChained f lasts befores → AreChained h lasts befores
  chained_alike lasts befores many old = record {
    last = λ b below. last_alike b b (length befores) (slice_index lasts b) refl (omega (arith, many)) (old.last b below);
    before = λ g below. last_alike (f g) (h g) g (slice_index befores g) (same g (omega (arith, below, many))) (omega (arith, below, many)) (old.before g below);
  }
