-- What a bound query's frame names.
use Rattle.std.proofs.Common.{◌≡◌, subst, ℕ, zero, suc, ◌+◌, true, List, [], ◌∷◌, length, Some, nat_lt, arith}
use mathlib.Core.List.{reverse_aux}
use Rattle.std.specs.List.{slice_get}
use Rattle.values.proofs.Lists.{passes_at}
use Rattle.query.specs.declared.query.Query.{Query}
use Rattle.query.specs.Bound.{is_bound}
use Rattle.algebra.specs.declared.expr.Expr.{Expr}
use Rattle.algebra.specs.Expressions.{classes_pass}
use Rattle.algebra.specs.Classes.{AreFormed}
use Rattle.frame.specs.Frames.{query_frame, is_framed}
use Rattle.frame.specs.FormedFrames.{own_aggregates}
use Rattle.frame.proofs.FormedQueries.{frames_formed}
use Rattle.frame.proofs.FrameOperators.{frames_framed}
use Rattle.planner.specs.Canonical.{NameEarlier}

module _ (q : Query) where
  abbrev Formed : List Expr → Type 0
  Formed E = AreFormed q.tables (own_aggregates q) E

  earlier-formed : (xs E : List Expr) → Formed (reverse_aux xs E) → Formed E
  earlier-formed [] E formed = formed
  earlier-formed (x ∷ xs) E formed = (earlier-formed xs (x ∷ E) formed).2

  -- a line behind so many others names classes below its number
  names-below : (xs E : List Expr) (n : ℕ) (x : Expr) → slice_get xs n ≡ Some x → Formed (reverse_aux xs E) → classes_pass (λ g. nat_lt g (length E + n)) x ≡ true
  names-below [] E n x at formed = cc
  names-below (y ∷ xs) E zero x at formed =
      let is : y ≡ x = cc in
      let here : length E ≡ length E + 0 = omega arith in
      subst (λ k. classes_pass (λ g. nat_lt g k) x ≡ true) here (subst (λ z. classes_pass (λ g. nat_lt g (length E)) z ≡ true) is (earlier-formed xs (y ∷ E) formed).0)
  names-below (y ∷ xs) E (suc n) x at formed =
      let next : length (y ∷ E) + n ≡ length E + suc n = omega arith in
      subst (λ k. classes_pass (λ g. nat_lt g k) x ≡ true) next (names-below xs (y ∷ E) n x at formed)

  pub names_earlier : is_bound q ≡ true → NameEarlier (query_frame q)
  names_earlier bound n x at =
      let lines : List Expr = query_frame q in
      let here : length {A = Expr} [] + n ≡ n = omega arith in
      (subst (λ k. classes_pass (λ g. nat_lt g k) x ≡ true) here (names-below lines [] n x at (frames_formed q bound).lines), passes_at is_framed lines n x (frames_framed q) at)
