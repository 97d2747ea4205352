-- Facts that hold still do with one more that holds.
use Rattle.std.proofs.Common.{◌≡◌, refl, ap, sym, ◌∙◌, inl, inr, subst, ℕ, ◌==◌, Bool, true, false, ◌||◌, List, [], ◌∷◌, ◌++◌}
use Rattle.std.proofs.lemmas.Bool.{or_cases, eqb-true}
use Rattle.std.proofs.Math.Bool.{or-false}
use Rattle.algebra.specs.Columns.{has, is_subset, rising}
use Rattle.algebra.specs.Bags.{Bag}
use Rattle.algebra.specs.Equality.{same_columns}
use Rattle.algebra.proofs.Puts.{among-append}
use Rattle.algebra.proofs.Same.{equal_columns}
use Rattle.algebra.proofs.Puts.{among-append}
use Rattle.algebra.proofs.Sets.{has-rising, one-rising, rises, rises-rising}
use Rattle.std.specs.List.Sorted.{IsStrictlyIncreasing}
use Rattle.props.specs.declared.fact.Fact.{Fact}
use Rattle.props.specs.declared.fact.Fact.TheVariants.{NotNull, WeakKey, StrongKey}
use Rattle.props.specs.declared.fact.FactSets.{FactSets}
use Rattle.props.specs.Keys.{has_key, with_key}
use Rattle.props.proofs.KeySets.{has-with}
use Rattle.props.specs.Facts.{FactHolds, FactsHold, fact_columns, with_fact}

-- a key among keys with one more is among them or is that one
one-more : (keys : List (List ℕ)) (L M : List ℕ) → has_key (with_key keys L) M ≡ true → (b : Bool) → has_key keys M ≡ b → (b ≡ true → ⊥) → L ≡ M
one-more keys L M is true among new = absurd (new refl)
one-more keys L M is false among new = equal_columns L M (sym (or-false (same_columns L M)) ∙ sym (ap (λ b. same_columns L M || b) among) ∙ sym (has-with L M keys) ∙ is)

module _ (columns : List ℕ) (x : Bag) (F : FactSets) (hold : FactsHold columns x F) where
  abbrev Holds : Fact → Type 0
  Holds f = (is_subset (fact_columns f) columns ≡ true) × FactHolds x f

  pub learnt-hold : (f : Fact) → Holds f → FactsHold columns x (with_fact F f)
  learnt-hold (NotNull c) new (NotNull d) is = elim (or_cases (has F.not_null d) (has (c ∷ []) d) (sym (has-rising d (F.not_null ++ c ∷ []) ∙ among-append d F.not_null (c ∷ [])) ∙ is)) [
    | inl old ↦ hold (NotNull d) old
    | inr here ↦ subst (λ k. Holds (NotNull k)) (eqb-true c d (sym (or-false (c == d)) ∙ here)) new
  ]
  learnt-hold (NotNull c) new (WeakKey L) is = hold (WeakKey L) is
  learnt-hold (NotNull c) new (StrongKey L) is = hold (StrongKey L) is
  learnt-hold (WeakKey L) new (NotNull d) is = hold (NotNull d) is
  learnt-hold (WeakKey L) new (WeakKey M) is = by (has_key F.weak_keys M) refl
    where
      by : (b : Bool) → has_key F.weak_keys M ≡ b → Holds (WeakKey M)
      by true old = hold (WeakKey M) old
      by false other = subst (λ K. Holds (WeakKey K)) (one-more F.weak_keys L M is false other (λ e. cc)) new
  learnt-hold (WeakKey L) new (StrongKey M) is = hold (StrongKey M) is
  learnt-hold (StrongKey L) new (NotNull d) is = hold (NotNull d) is
  learnt-hold (StrongKey L) new (WeakKey M) is = hold (WeakKey M) is
  learnt-hold (StrongKey L) new (StrongKey M) is = by (has_key F.strong_keys M) refl
    where
      by : (b : Bool) → has_key F.strong_keys M ≡ b → Holds (StrongKey M)
      by true old = hold (StrongKey M) old
      by false other = subst (λ K. Holds (StrongKey K)) (one-more F.strong_keys L M is false other (λ e. cc)) new

-- a column that is known to be nowhere Null
pub column-known : (columns : List ℕ) (c : ℕ) → IsStrictlyIncreasing columns → has columns c ≡ true → columns ≡ rising (columns ++ c ∷ [])
column-known columns c sorted is = one-rising columns _ (rises columns sorted) (rises-rising (columns ++ c ∷ [])) (λ k. sym (has-rising k (columns ++ c ∷ []) ∙ among-append k columns (c ∷ []) ∙ by k (c == k) refl))
  where
    by : (k : ℕ) (b : Bool) → (c == k) ≡ b → (has columns k || (c == k || false)) ≡ has columns k
    by k true e = ap (λ n. has columns n || (c == n || false)) (sym (eqb-true c k e)) ∙ ap (λ b. b || (c == c || false)) is ∙ sym is ∙ ap (has columns) (eqb-true c k e)
    by k false e = ap (λ b. has columns k || (b || false)) e ∙ or-false (has columns k)

-- ---- nothing more

pub nothing-behind : (columns : List ℕ) → IsStrictlyIncreasing columns → rising (columns ++ []) ≡ columns
nothing-behind columns sorted = sym (one-rising columns _ (rises columns sorted) (rises-rising (columns ++ [])) (λ k. sym (has-rising k (columns ++ []) ∙ among-append k columns [] ∙ or-false (has columns k))))
