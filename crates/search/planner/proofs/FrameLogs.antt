-- The log whose lines found the classes of a list of expressions: its members, and that no classes are the same.
use Rattle.std.proofs.Common.{◌≡◌, refl, ap, sym, ◌∙◌, subst, ℕ, ◌<◌, true, List, [], ◌∷◌, map, length, reverse, Option, Some, None, slice_get, option_map}
use Rattle.std.proofs.lemmas.Bool.{eq-eqb, eqb-true}
use Rattle.std.proofs.lemmas.List.{length-map, length-reverse}
use Rattle.std.proofs.lemmas.Option.{slice_get-map}
use Rattle.algebra.specs.declared.expr.Expr.{Expr}
use Rattle.rules.specs.Matches as matches
use Rattle.derivation.specs.declared.line.Line.TheVariants.{Founds}
use Rattle.derivation.specs.Logs.{as_member, founds, least, are_same, member}
use Rattle.logs.proofs.LogLines.{member_at}
use Rattle.certificate.proofs.Founded.{map-reverse}
use Rattle.certificate.proofs.FrameLines.{all-found}
use Rattle.planner.specs.Canonical.{log_of}

pub length-log : (lines : List Expr) → length (log_of lines) ≡ length lines
length-log lines = length-map (reverse lines) Founds ∙ length-reverse lines

-- no line unites two classes
pub least-founded : (E : List Expr) (k : ℕ) → least (map Founds E) k ≡ k
least-founded [] k = refl
least-founded (x ∷ E) k = least-founded E k

pub same-itself : (lines : List Expr) (g : ℕ) → are_same (log_of lines) g g ≡ true
same-itself lines g = eq-eqb (least (log_of lines) g) (least (log_of lines) g) refl

pub same-one : (lines : List Expr) (g h : ℕ) → are_same (log_of lines) g h ≡ true → g ≡ h
same-one lines g h is = sym (least-founded (reverse lines) g) ∙ eqb-true _ _ is ∙ least-founded (reverse lines) h

-- each line is the member of its own class
at-line : (lines : List Expr) (g : ℕ) → member (log_of lines) g ≡ as_member g (option_map Founds (slice_get lines g))
at-line lines g = ap (λ E. member E g) (map-reverse Founds lines) ∙ member_at (map Founds lines) g ∙ ap (as_member g) (slice_get-map Founds lines g)

pub member-log : (lines : List Expr) (g : ℕ) (x : Expr) → slice_get lines g ≡ Some x → member (log_of lines) g ≡ Some (record { class = g; expr = x })
member-log lines g x at = at-line lines g ∙ ap (λ o. as_member g (option_map Founds o)) at

pub member-from : (lines : List Expr) (g : ℕ) (l : matches.Line) → member (log_of lines) g ≡ Some l → (l.class ≡ g) × (slice_get lines g ≡ Some l.expr)
member-from lines g l is = by (slice_get lines g) refl (sym (at-line lines g) ∙ is)
  where
    by : (o : Option Expr) → slice_get lines g ≡ o → as_member g (option_map Founds o) ≡ Some l → (l.class ≡ g) × (slice_get lines g ≡ Some l.expr)
    by None at e = cc
    by (Some x) at e =
        let class : l.class ≡ g = ap {A = Option matches.Line} (class_or g) (sym e) in
        let expr : x ≡ l.expr = ap {A = Option matches.Line} (expr_or x) e in
        (class, at ∙ ap Some expr)
      where
        class_or : ℕ → Option matches.Line → ℕ
        class_or k None = k
        class_or k (Some m) = m.class

        expr_or : Expr → Option matches.Line → Expr
        expr_or y None = y
        expr_or y (Some m) = m.expr

-- each founds one
pub founds-log : (lines : List Expr) (g : ℕ) → g < length lines → founds (log_of lines) g ≡ true
founds-log lines g lt = all-found (reverse lines) g (subst (λ n. g < n) (sym (length-reverse lines)) lt)
