-- The leaders of columns, as a list keeps them, and the conditions that are counted: one more at the end.
use Rattle.std.proofs.Common.{◌≡◌, refl, ap, sym, ◌∙◌, ℕ, ◌+◌, ◌<◌, ◌==◌, Bool, true, false, if◌then◌else◌, List, [], ◌∷◌, ◌++◌, append_assoc, append-nil, length, get_or, take, map, Option, Some, None, option_to_list, inl, inr}
use Rattle.std.proofs.lemmas.Bool.Decides.{eqb_tells}
use Rattle.std.proofs.lemmas.Grind.{flat_map-append}
use Rattle.std.proofs.lemmas.List.Sums.{fold-append, fold_more}
use Rattle.algebra.specs.declared.condition.Condition.{Condition}
use Rattle.algebra.proofs.Puts.{pointwise}
use Rattle.logs.proofs.UnitedFacts.{equal-turned}
use Rattle.costs.specs.Equalities.{joined, leader_by, equation, equations, is_implied, counted, with_equations, leads, leader_in, handed, with_equation}

-- ---- leaders

pub leads-handed : (old new : ℕ) (es : List (ℕ × ℕ)) (c : ℕ) → leader_in (map (handed old new) es ++ (old, new) ∷ []) c ≡ (if leader_in es c == old then new else leader_in es c)
leads-handed old new [] c = ap (λ b. leads (if b then Some (old, new) else None) c) (equal-turned old c) ∙ at (c == old)
  where
    at : (b : Bool) → leads (if b then Some (old, new) else None) c ≡ (if b then new else c)
    at true = refl
    at false = refl
leads-handed old new (e ∷ es) c = at (e.1 == old) (e.0 == c) refl refl (leads-handed old new es c)
  where
    at : (b d : Bool) → (e.1 == old) ≡ b → (e.0 == c) ≡ d → leader_in (map (handed old new) es ++ (old, new) ∷ []) c ≡ (if leader_in es c == old then new else leader_in es c)
        → leader_in (map (handed old new) (e ∷ es) ++ (old, new) ∷ []) c ≡ (if leader_in (e ∷ es) c == old then new else leader_in (e ∷ es) c)
    at true true old_is here rest = rw (old_is, here, old_is) refl
    at true false old_is here rest = rw (old_is, here) rest
    at false true old_is here rest = rw (old_is, here, old_is) refl
    at false false old_is here rest = rw (old_is, here) rest

-- an equation more
pub leaders-joined : (old new : List (ℕ × ℕ)) (e : ℕ × ℕ) → new ≡ map (handed (leader_in old e.1) (leader_in old e.0)) old ++ (leader_in old e.1, leader_in old e.0) ∷ [] → leader_in new ≡ joined (leader_in old) e
leaders-joined old new e is = ap leader_in is ∙ pointwise (leads-handed (leader_in old e.1) (leader_in old e.0) old)

pub leader-more : (P : List (ℕ × ℕ)) (e : Option (ℕ × ℕ)) → leader_by (P ++ option_to_list e) ≡ with_equation (leader_by P) e
unfolding leader_by
leader-more P None = ap leader_by (append-nil P)
leader-more P (Some e) = fold-append joined (λ k. k) P (e ∷ [])

pub leader-next : (P : List (ℕ × ℕ)) (i : ℕ) (e : ℕ × ℕ) → i < length P → leader_by (take (i + 1) P) ≡ joined (leader_by (take i P)) (get_or P i e)
unfolding leader_by
leader-next P i e low = fold_more joined (λ k. k) P i e low

pub no-leaders : leader_in [] ≡ leader_by []
unfolding leader_by
no-leaders = refl

-- ---- conditions

-- what a condition adds to those that are counted
pub counted-more : (P : List (ℕ × ℕ)) (C : List Condition) (c : Condition) → counted P (C ++ c ∷ []) ≡ counted P C ++ (if is_implied (leader_by (with_equations P C)) (equation c) then [] else c ∷ [])
unfolding counted
counted-more P [] c = rw (append-nil P) (at (is_implied (leader_by P) (equation c)))
  where
    at : (b : Bool) → (if b then [] else c ∷ []) ≡ (if b then [] else c ∷ [])
    at b = refl
counted-more P (d ∷ C) c = at (is_implied (leader_by P) (equation d)) refl (counted-more P C c) (counted-more (P ++ option_to_list (equation d)) C c)
  where
    at : (b : Bool) → is_implied (leader_by P) (equation d) ≡ b → counted P (C ++ c ∷ []) ≡ counted P C ++ (if is_implied (leader_by (with_equations P C)) (equation c) then [] else c ∷ [])
        → (let more = P ++ option_to_list (equation d) in counted more (C ++ c ∷ []) ≡ counted more C ++ (if is_implied (leader_by (with_equations more C)) (equation c) then [] else c ∷ []))
        → counted P ((d ∷ C) ++ c ∷ []) ≡ counted P (d ∷ C) ++ (if is_implied (leader_by (with_equations P (d ∷ C))) (equation c) then [] else c ∷ [])
    at true is same longer = rw is same
    at false is same longer =
        let more : List (ℕ × ℕ) = P ++ option_to_list (equation d) in
        rw is (ap (λ xs. d ∷ xs) (longer ∙ ap (λ Q. counted more C ++ (if is_implied (leader_by Q) (equation c) then [] else c ∷ [])) (append_assoc P (option_to_list (equation d)) (equations (counted more C)))))

pub counted-none : (P : List (ℕ × ℕ)) → counted P [] ≡ []
unfolding counted
counted-none P = refl

-- a condition that doesn't follow is counted
pub one-counted : (P : List (ℕ × ℕ)) (C : List Condition) (c : Condition) (leaders : ℕ → ℕ) (e : Option (ℕ × ℕ)) → leaders ≡ leader_by (with_equations P C) → e ≡ equation c → is_implied leaders e ≡ false
    → (counted P (C ++ c ∷ []) ≡ counted P C ++ c ∷ []) × (with_equation leaders e ≡ leader_by (with_equations P (C ++ c ∷ [])))
one-counted P C c leaders e led is new =
    let more : counted P (C ++ c ∷ []) ≡ counted P C ++ c ∷ [] =
    counted-more P C c ∙ ap (λ b. counted P C ++ (if b then [] else c ∷ [])) (ap (λ f. is_implied f (equation c)) (sym led) ∙ ap (is_implied leaders) (sym is) ∙ new) in
    let all : with_equations P (C ++ c ∷ []) ≡ with_equations P C ++ option_to_list (equation c) =
    ap (λ D. P ++ equations D) more ∙ ap (λ Q. P ++ Q) (flat_map-append (λ d. option_to_list (equation d)) (counted P C) (c ∷ []) ∙ ap (λ Q. equations (counted P C) ++ Q) (append-nil (option_to_list (equation c))))
    ∙ sym (append_assoc P (equations (counted P C)) (option_to_list (equation c))) in
    (more, ap (λ f. with_equation f e) led ∙ ap (with_equation (leader_by (with_equations P C))) is ∙ sym (ap leader_by all ∙ leader-more (with_equations P C) (equation c)))

-- one that follows isn't
pub none-counted : (P : List (ℕ × ℕ)) (C : List Condition) (c : Condition) (leaders : ℕ → ℕ) (e : Option (ℕ × ℕ)) → leaders ≡ leader_by (with_equations P C) → e ≡ equation c → is_implied leaders e ≡ true
    → (counted P (C ++ c ∷ []) ≡ counted P C) × (leaders ≡ leader_by (with_equations P (C ++ c ∷ [])))
none-counted P C c leaders e led is known =
    let same : counted P (C ++ c ∷ []) ≡ counted P C =
    counted-more P C c ∙ ap (λ b. counted P C ++ (if b then [] else c ∷ [])) (ap (λ f. is_implied f (equation c)) (sym led) ∙ ap (is_implied leaders) (sym is) ∙ known) ∙ append-nil (counted P C) in
    (same, led ∙ ap (λ D. leader_by (P ++ equations D)) (sym same))
