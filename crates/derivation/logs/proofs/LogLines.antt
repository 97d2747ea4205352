-- The lines of a log by their numbers, where code has them in a list, the first of them first.
use Rattle.std.proofs.Common.{◌≡◌, refl, ap, sym, ◌∙◌, ℕ, zero, suc, Bool, true, false, ◌&&◌, ◌==◌, if◌then◌else◌, List, [], ◌∷◌, ◌++◌, length, reverse, Some, None, slice_get, arith}
use Rattle.std.proofs.lemmas.Bool.{eq-eqb, eqb-true, ne_eqb}
use Rattle.std.proofs.lemmas.List.{reverse-append}
use Rattle.std.proofs.lemmas.List.Folds.{list_all-append}
use Rattle.std.specs.List.{list_all, flat_map}
use Rattle.algebra.specs.declared.expr.Expr.{Expr}
use Rattle.algebra.specs.Conditions.{classes_in, named_classes}
use Rattle.algebra.specs.Expressions.{children, conditions, classes_pass, input_classes}
use Rattle.algebra.specs.Columns.{has, rising}
use Rattle.algebra.proofs.MentionedColumns.{all_has, each_has, all-rising}
use Rattle.algebra.proofs.NamedClasses.{all-named}
use Rattle.algebra.proofs.Sets.{has-rising}
use Rattle.derivation.specs.declared.line.Line.{Line}
use Rattle.derivation.specs.Logs.{Log, line_at, is_founding, founds, as_member, member}

length-behind : (E : Log) (l : Line) → length (E ++ l ∷ []) ≡ suc (length E)
length-behind [] l = refl
length-behind (k ∷ E) l = ap suc (length-behind E l)

first-behind : (E : Log) (l : Line) → line_at (E ++ l ∷ []) zero ≡ Some l
first-behind [] l = refl
first-behind (k ∷ E) l =
    ap (λ b. if b then Some k else line_at (E ++ l ∷ []) zero) (ne_eqb zero (length (E ++ l ∷ [])) (λ e. let is = length-behind E l in absurd (omega (arith, e, is)))) ∙ first-behind E l

next-behind : (E : Log) (l : Line) (i : ℕ) → line_at (E ++ l ∷ []) (suc i) ≡ line_at E i
next-behind [] l i = ap (λ b. if b then Some l else None) (ne_eqb (suc i) zero (λ e. absurd (omega (arith, e))))
next-behind (k ∷ E) l i =
    ap (λ n. if suc i == n then Some k else line_at (E ++ l ∷ []) (suc i)) (length-behind E l)
    ∙ ap (λ o. if suc i == suc (length E) then Some k else o) (next-behind E l i)
    ∙ ap (λ b. if b then Some k else line_at E i) (one-less i (length E))
  where
    one-less : (x y : ℕ) → (suc x == suc y) ≡ (x == y)
    one-less x y = by (x == y) refl
      where
        by : (b : Bool) → (x == y) ≡ b → (suc x == suc y) ≡ b
        by true is = eq-eqb (suc x) (suc y) (ap suc (eqb-true x y is))
        by false is = ne_eqb (suc x) (suc y) (λ e. let never : true ≡ false = sym (eq-eqb x y (let same : suc x ≡ suc y = e in omega (arith, same))) ∙ is in cc)

pub line-at : (lines : List Line) (i : ℕ) → line_at (reverse lines) i ≡ slice_get lines i
line-at [] i = refl
line-at (l ∷ lines) zero = ap (λ E. line_at E zero) (reverse-append (l ∷ []) lines) ∙ first-behind (reverse lines) l
line-at (l ∷ lines) (suc i) = ap (λ E. line_at E (suc i)) (reverse-append (l ∷ []) lines) ∙ next-behind (reverse lines) l i ∙ line-at lines i

pub founds_at : (lines : List Line) (g : ℕ) → founds (reverse lines) g ≡ is_founding (slice_get lines g)
founds_at lines g = ap is_founding (line-at lines g)

pub member_at : (lines : List Line) (i : ℕ) → member (reverse lines) i ≡ as_member i (slice_get lines i)
member_at lines i = ap (as_member i) (line-at lines i)

-- the classes that an expression names, as a list
pub pass-inputs : (p : ℕ → Bool) (x : Expr) → classes_pass p x ≡ list_all p (input_classes x)
pass-inputs p x = ap (λ b. list_all p (children x) && b) (all-named p (conditions x) ∙ sym (all-rising p (flat_map named_classes (conditions x)))) ∙ sym (list_all-append p (children x) (classes_in (conditions x)))
