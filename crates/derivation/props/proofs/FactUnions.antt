-- The facts of two classes, with one more.
use Rattle.std.proofs.Common.{◌≡◌, refl, ap, sym, ◌∙◌, ℕ, Bool, true, false, ◌||◌, List, [], ◌∷◌, ◌++◌}
use Rattle.algebra.specs.Columns.{has, rising}
use Rattle.algebra.proofs.Puts.{among-append}
use Rattle.algebra.proofs.Sets.{has-rising, one-rising, rises-rising}
use Rattle.props.specs.declared.fact.Fact.{Fact}
use Rattle.props.specs.declared.fact.Fact.TheVariants.{NotNull, WeakKey, StrongKey}
use Rattle.props.specs.declared.fact.FactSets.{FactSets}
use Rattle.props.specs.Facts.{with_fact, with_facts}
use Rattle.props.proofs.KeySets.{with-more, with-other}

or-last : (a b c : Bool) → ((a || c) || b) ≡ ((a || b) || c)
or-last true b c = refl
or-last false true true = refl
or-last false true false = refl
or-last false false true = refl
or-last false false false = refl

or-over : (a b c : Bool) → (a || (b || c)) ≡ ((a || b) || c)
or-over true b c = refl
or-over false b c = refl

has-both : (k : ℕ) (xs ys : List ℕ) → has (rising (xs ++ ys)) k ≡ (has xs k || has ys k)
has-both k xs ys = has-rising k (xs ++ ys) ∙ among-append k xs ys

-- a column more in the first set or in the second
first-column : (xs ys zs : List ℕ) → rising (rising (xs ++ zs) ++ ys) ≡ rising (rising (xs ++ ys) ++ zs)
first-column xs ys zs = one-rising _ _ (rises-rising (rising (xs ++ zs) ++ ys)) (rises-rising (rising (xs ++ ys) ++ zs)) (λ k.
    has-both k (rising (xs ++ zs)) ys ∙ ap (λ b. b || has ys k) (has-both k xs zs) ∙ or-last (has xs k) (has ys k) (has zs k)
    ∙ ap (λ b. b || has zs k) (sym (has-both k xs ys)) ∙ sym (has-both k (rising (xs ++ ys)) zs))

other-column : (xs ys zs : List ℕ) → rising (xs ++ rising (ys ++ zs)) ≡ rising (rising (xs ++ ys) ++ zs)
other-column xs ys zs = one-rising _ _ (rises-rising (xs ++ rising (ys ++ zs))) (rises-rising (rising (xs ++ ys) ++ zs)) (λ k.
    has-both k xs (rising (ys ++ zs)) ∙ ap (λ b. has xs k || b) (has-both k ys zs) ∙ or-over (has xs k) (has ys k) (has zs k)
    ∙ ap (λ b. b || has zs k) (sym (has-both k xs ys)) ∙ sym (has-both k (rising (xs ++ ys)) zs))

-- one more of the first facts
pub learnt-first : (F G : FactSets) (f : Fact) → with_facts (with_fact F f) G ≡ with_fact (with_facts F G) f
learnt-first F G (NotNull c) = ap (λ columns. record { not_null = columns; weak_keys = (with_facts F G).weak_keys; strong_keys = (with_facts F G).strong_keys }) (first-column F.not_null G.not_null (c ∷ []))
learnt-first F G (WeakKey L) = ap (λ keys. record { not_null = (with_facts F G).not_null; weak_keys = keys; strong_keys = (with_facts F G).strong_keys }) (with-more F.weak_keys G.weak_keys L)
learnt-first F G (StrongKey L) = ap (λ keys. record { not_null = (with_facts F G).not_null; weak_keys = (with_facts F G).weak_keys; strong_keys = keys }) (with-more F.strong_keys G.strong_keys L)

-- one more of the others
pub learnt-other : (F G : FactSets) (f : Fact) → with_facts F (with_fact G f) ≡ with_fact (with_facts F G) f
learnt-other F G (NotNull c) = ap (λ columns. record { not_null = columns; weak_keys = (with_facts F G).weak_keys; strong_keys = (with_facts F G).strong_keys }) (other-column F.not_null G.not_null (c ∷ []))
learnt-other F G (WeakKey L) = ap (λ keys. record { not_null = (with_facts F G).not_null; weak_keys = keys; strong_keys = (with_facts F G).strong_keys }) (with-other F.weak_keys G.weak_keys L)
learnt-other F G (StrongKey L) = ap (λ keys. record { not_null = (with_facts F G).not_null; weak_keys = (with_facts F G).weak_keys; strong_keys = keys }) (with-other F.strong_keys G.strong_keys L)
