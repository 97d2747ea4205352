-- A search along a chain, and one group more in its bucket.
use Rattle.std.proofs.Common.{◌≡◌, ◌≢◌, refl, ap, sym, subst, ◌∙◌, ℕ, [], ◌∷◌, ◌++◌, ◌+◌, ◌<◌, ◌≤◌, inl, inr, List, length, get_or, length-append, arith}
use Rattle.std.proofs.lemmas.Bool.{cases_eq, cases_lt}
use Rattle.std.proofs.Math.ListN.{get_or-append}
use Rattle.std.proofs.Math.Seq.{get_or-append_seam}
use Rattle.grouping.specs.declared.chains.GroupChains.{GroupChains}
use Rattle.grouping.specs.GroupChains.{AreChained, IsLast}
use Rattle.grouping.specs.GroupHashes.{HasChains, bucket_of, hash_at}
use Rattle.grouping.specs.RowNumbers.{numbers_in}
use Rattle.grouping.proofs.GroupChains.{chained_alike}

-- none of the groups from this one on below the end is the one that is wanted; the one before it, if there is one, is in its bucket
pub record IsSearched {K : Type 0} (bucket : K → ℕ) (key : ℕ → K) (wanted : K) (end group : ℕ) : Type 0 where
  pub within : group ≤ end
  pub apart : (j : ℕ) → group ≤ j → j < end → wanted ≢ key j
  pub there : (g : ℕ) → group ≡ g + 1 → bucket (key g) ≡ bucket wanted

module _ {K : Type 0} (bucket : K → ℕ) (key : ℕ → K) (wanted : K) (end : ℕ) where
  pub search-begun : (group : ℕ) → IsLast (λ g. bucket (key g)) (bucket wanted) end group → IsSearched bucket key wanted end group
  search-begun group last = record {
    within = last.within;
    apart = λ j low high is. last.apart j low high (ap bucket (sym is));
    there = last.there;
  }

  pub search-next : (from group before : ℕ) → from ≡ group + 1 → IsSearched bucket key wanted end from → wanted ≢ key group → IsLast (λ g. bucket (key g)) (bucket (key group)) group before → IsSearched bucket key wanted end before
  search-next from group before at old other last = record {
    within = let low = last.within in let high = old.within in omega (arith, low, high, at);
    apart = λ j low high is.
        elim (cases_lt j group) [
          | inl below ↦ last.apart j low below (ap bucket (sym is) ∙ sym (old.there group at))
          | inr past ↦ elim (cases_eq j group) [
            | inl same ↦ other (is ∙ ap key same)
            | inr off ↦ old.apart j (omega (arith, at, past, off)) high is
          ]
        ];
    there = λ g is. last.there g is ∙ old.there group at;
  }

-- the same of what is equal below the end
pub last-alike : (f h : ℕ → ℕ) (b end last : ℕ) → ((g : ℕ) → g < end → f g ≡ h g) → IsLast f b end last → IsLast h b end last
last-alike f h b end last same old = record {
  within = old.within;
  there = λ g is. let within = old.within in sym (same g (omega (arith, is, within))) ∙ old.there g is;
  apart = λ j low high is. old.apart j low high (same j high ∙ is);
}

pub chains-more : (hashes : List ℕ) (hash bucket : ℕ) (old new : GroupChains) → HasChains hashes old → bucket ≡ bucket_of (length (numbers_in old.lasts)) hash
    → length (numbers_in new.lasts) ≡ length (numbers_in old.lasts) → length (numbers_in new.befores) ≡ length (numbers_in old.befores) + 1
    → ((f : ℕ → ℕ) → AreChained f (numbers_in old.lasts) (numbers_in old.befores) → f (length (numbers_in old.befores)) ≡ bucket → AreChained f (numbers_in new.lasts) (numbers_in new.befores))
    → HasChains (hashes ++ hash ∷ []) new
chains-more hashes hash bucket old new so at wide long more =
    let buckets = length (numbers_in old.lasts) in
    let count = length (numbers_in old.befores) in
    let f : ℕ → ℕ = λ g. bucket_of buckets (hash_at hashes g) in
    let h : ℕ → ℕ = λ g. bucket_of buckets (hash_at (hashes ++ hash ∷ []) g) in
    let many : count ≡ length hashes = so.many in
    let same : (g : ℕ) → g < count → f g ≡ h g = λ g below. ap (bucket_of buckets) (sym (get_or-append hashes (hash ∷ []) 0 g (omega (arith, below, many)))) in
    let last : h count ≡ bucket = ap h many ∙ ap (bucket_of buckets) (get_or-append_seam hashes hash [] 0) ∙ sym at in
    record {
      some = let some = so.some in omega (arith, some, wide);
      few = let few = so.few in omega (arith, few, wide);
      many = long ∙ ap (λ n. n + 1) many ∙ sym (length-append hashes (hash ∷ []));
      chained = subst (λ n. AreChained (λ g. bucket_of n (hash_at (hashes ++ hash ∷ []) g)) (numbers_in new.lasts) (numbers_in new.befores)) (sym wide)
          (more h (chained_alike f h count same (numbers_in old.lasts) (numbers_in old.befores) refl so.chained) last);
    }
