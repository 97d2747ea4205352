-- Sets of columns that are put together.
use Rattle.std.proofs.Common.{◌≡◌, refl, ap, sym, ◌∙◌, ℕ, ◌==◌, Bool, true, false, ◌&&◌, ◌||◌, if◌then◌else◌, List, [], ◌∷◌, ◌++◌, filter}
use Rattle.std.proofs.lemmas.Bool.{eqb-true}
use Rattle.algebra.specs.Columns.{ColumnSet, has, rising}
use Rattle.algebra.proofs.Puts.{among-append}
use Rattle.algebra.proofs.Sets.{has-rising}

-- the columns of either list
pub has-both : (B C : List ℕ) (k : ℕ) → (has B k || has C k) ≡ has (rising (B ++ C)) k
has-both B C k = sym (has-rising k (B ++ C) ∙ among-append k B C)

-- those that pass
pub has-filter : (p : ColumnSet) (L : List ℕ) (k : ℕ) → has (filter p L) k ≡ (has L k && p k)
has-filter p [] k = refl
has-filter p (x ∷ L) k = by (p x) (x == k) refl refl (has-filter p L k)
  where
    either : (h q : Bool) → q ≡ true → (true || h) ≡ ((true || h) && q)
    either h true is = refl
    either h false is = cc

    neither : (h q : Bool) → q ≡ false → (h && q) ≡ ((true || h) && q)
    neither true false is = refl
    neither false false is = refl
    neither h true is = cc

    by : (b e : Bool) → p x ≡ b → (x == k) ≡ e → has (filter p L) k ≡ (has L k && p k) → has (if b then x ∷ filter p L else filter p L) k ≡ ((e || has L k) && p k)
    by true true is here later = ap (λ e. e || has (filter p L) k) here ∙ either (has L k) (p k) (ap p (sym (eqb-true x k here)) ∙ is)
    by true false is other later = ap (λ e. e || has (filter p L) k) other ∙ later
    by false true is here later = later ∙ neither (has L k) (p k) (ap p (sym (eqb-true x k here)) ∙ is)
    by false false is other later = later
