-- Conditions framed one after another, as a loop goes over them.
use Rattle.std.proofs.Common.{◌≡◌, refl, ap, sym, ◌∙◌, ℕ, ◌+◌, ◌<◌, ◌≤◌, List, [], ◌∷◌, ◌++◌, length, drop, get_or, map, append_assoc, append-nil}
use Rattle.std.proofs.lemmas.List.{drop_all}
use Rattle.values.proofs.Lists.{drop_next}
use Rattle.query.specs.declared.query.Cond.{Cond}
use Rattle.query.specs.Bound.{Scope}
use Rattle.algebra.specs.declared.condition.Condition.{Condition}
use Rattle.algebra.specs.declared.expr.Expr.{Expr}
use Rattle.frame.specs.Frames.{CondFrame, AllLines, all_frames}

module _ (f : Cond → CondFrame) (scope : Scope) where
  -- what is framed from a place on
  abbrev pub from_place : List Cond → ℕ → List Expr → AllLines
  from_place cs i lines = all_frames (map f (drop i cs)) scope lines

  at_place : (cs : List Cond) (i : ℕ) (c : Cond) (lines more : List Expr) → i < length cs → c ≡ get_or cs i c → more ≡ (f c scope lines).lines
      → from_place cs i lines ≡ record { conditions = (f c scope lines).condition ∷ (from_place cs (i + 1) more).conditions; lines = (from_place cs (i + 1) more).lines }
  at_place cs i c lines more lt at behind = rw (drop_next cs i c lt at, behind) refl

  pub conditions_on : (cs : List Cond) (i : ℕ) (c : Cond) (x : Condition) (xs next all : List Condition) (lines more : List Expr) → i < length cs → c ≡ get_or cs i c → x ≡ (f c scope lines).condition
      → more ≡ (f c scope lines).lines → next ≡ xs ++ x ∷ [] → xs ++ (from_place cs i lines).conditions ≡ all → next ++ (from_place cs (i + 1) more).conditions ≡ all
  conditions_on cs i c x xs next all lines more lt at framed behind next_is so_far =
      let one : xs ++ (from_place cs i lines).conditions ≡ xs ++ (f c scope lines).condition ∷ (from_place cs (i + 1) more).conditions = ap (λ (p : AllLines). xs ++ p.conditions) (at_place cs i c lines more lt at behind) in
      rw (next_is, append_assoc) (ap (λ y. xs ++ y ∷ (from_place cs (i + 1) more).conditions) framed ∙ sym one ∙ so_far)

  pub lines_on : (cs : List Cond) (i : ℕ) (c : Cond) (all lines more : List Expr) → i < length cs → c ≡ get_or cs i c → more ≡ (f c scope lines).lines → (from_place cs i lines).lines ≡ all
      → (from_place cs (i + 1) more).lines ≡ all
  lines_on cs i c all lines more lt at behind so_far = sym (ap (λ (p : AllLines). p.lines) (at_place cs i c lines more lt at behind)) ∙ so_far

  pub conditions_end : (cs : List Cond) (i : ℕ) (xs all : List Condition) (lines : List Expr) → length cs ≤ i → xs ++ (from_place cs i lines).conditions ≡ all → xs ≡ all
  conditions_end cs i xs all lines le is = sym (append-nil xs) ∙ ap (λ (ds : List Cond). xs ++ (all_frames (map f ds) scope lines).conditions) (sym (drop_all i cs le)) ∙ is

  pub lines_end : (cs : List Cond) (i : ℕ) (all lines : List Expr) → length cs ≤ i → (from_place cs i lines).lines ≡ all → lines ≡ all
  lines_end cs i all lines le is = ap (λ (ds : List Cond). (all_frames (map f ds) scope lines).lines) (sym (drop_all i cs le)) ∙ is
