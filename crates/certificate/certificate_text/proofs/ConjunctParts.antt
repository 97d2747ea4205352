-- One condition of a list of conjuncts, as it is added.
use Rattle.std.proofs.Common.{◌≡◌, ℕ, zero, suc, ◌-◌, Bool, true, false, not, inl, inr, ◌⊎◌, List, [], ◌∷◌, ◌++◌, length, take, append-nil, length-append, codes, refl, sym, ◌∙◌, ap, subst, arith}
use lib.Dec.{eqb}
use lib.Pointwise.{pointwise}
use Rattle.std.proofs.Math.Seq.{take_at}
use Rattle.std.proofs.lemmas.Bool.{false≢true}
use Rattle.std.specs.Cmp.Lexicographic.{slice_cmp}
use Rattle.std.specs.Ordering.{nat_cmp, is_lt}
use Rattle.algebra.specs.declared.condition.Condition.{Condition}
use Rattle.algebra.specs.declared.condition.Condition.TheVariants.{And}
use Rattle.certificate_text.specs.declared.conditions.Form.TheVariants as form
use Rattle.certificate_text.specs.Conditions.{IsBefore}
use Rattle.certificate_text.specs.ConditionReading.{part_condition_text, more_text, BeginsWith, IsTooDeep}
use Rattle.certificate_text.specs.ListReading.{Continues, IsNoAnd}
use Rattle.certificate_text.specs.Parts.{Noted}
use Rattle.certificate_text.specs.PartTexts.{Text}
use Rattle.certificate_text.proofs.FrontConditions.{and-text, some_room}
use Rattle.certificate_text.proofs.SameFronts.{form_front, not_both_fronts, same_front}
use Rattle.certificate_text.proofs.TermParts.{pointwise-same, text_same}

pub not_other : (v w : Text) (other : Bool) → v ≡ w → other ≡ not (pointwise eqb v w) → other ≡ true → ⊥
not_other v w other e f g = false≢true (sym (f ∙ ap not (ap (λ v. pointwise eqb v w) e ∙ pointwise-same w)) ∙ g)

pub not_unequal : (v w : Text) (other : Bool) → other ≡ not (pointwise eqb v w) → other ≡ false → v ≡ w
not_unequal v w other f g = by (pointwise eqb v w) refl where
  by : (same : Bool) → pointwise eqb v w ≡ same → v ≡ w
  by true e = text_same v w true refl (sym e)
  by false e = absurd (false≢true (sym g ∙ f ∙ ap not e))

same_behind : (x t end : Text) → x ++ end ≡ t ++ end → x ≡ t
same_behind x t end e =
    let l : length x ≡ length t = omega (arith, ap length e, length-append x end, length-append t end) in
    sym (take_at x end (length t) l) ∙ ap (take (length t)) e ∙ take_at t end (length t) refl

pub front_read : (s end t x : Text) (n : ℕ) → s ≡ take (length s - n) s ++ end → x ≡ take (length s - n) s → s ≡ t ++ end → x ≡ t
front_read s end t x n e f g = same_behind x t end (ap (λ x. x ++ end) f ∙ sym e ∙ g)

-- a condition whose text begins so is an AND
is_and : (room : ℕ) (t : Text) (c : Condition) (rest w : Text) → BeginsWith room t c rest → t ≡ codes "and(" ++ w → IsNoAnd c → ⊥
is_and zero t c rest w h e other = absurd (omega (arith, some_room 0 c h.1.0))
is_and (suc room) t c rest w h e other = let body = form_front room t c rest form.And w h e in other body.0 body.1 body.2 body.6

and_text : (a b : Condition) (cs : List Condition) → (w : Text) × (part_condition_text (And a b cs) ≡ codes "and(" ++ w)
and_text a b cs = (part_condition_text a ++ (44 ∷ (part_condition_text b ++ (more_text cs ++ (41 ∷ [])))), sym (append-nil (part_condition_text (And a b cs))) ∙ and-text [] a b cs)

module _ (room : ℕ) (part end last mid : Text) (c : Condition) (reads : BeginsWith room part c mid) where
  shallow : IsTooDeep room part → ⊥
  shallow = not_both_fronts room part c mid reads

  pub other_end : (mid ≡ end → ⊥) → ((d : Condition) → Continues room part end last d → ⊥) × (IsTooDeep room part → ⊥)
  other_end other = ((λ d follows. other (same_front room part c d mid end reads (follows.0, follows.1)).1), shallow)

  module _ (text : Text) (same : mid ≡ end) (is : text ≡ part_condition_text c) where
    pub no_conjunct : ((w : Text) × (text ≡ codes "and(" ++ w)) ⊎ (is_lt (slice_cmp nat_cmp last text) ≡ false) → ((d : Condition) → Continues room part end last d → ⊥) × (IsTooDeep room part → ⊥)
    no_conjunct why = ((λ d follows. none d follows why), shallow) where
      none : (d : Condition) → Continues room part end last d → ((w : Text) × (text ≡ codes "and(" ++ w)) ⊎ (is_lt (slice_cmp nat_cmp last text) ≡ false) → ⊥
      none d follows (inl it) = is_and room part d end (it.0 ++ end) (follows.0, follows.1) (follows.0 ∙ ap (λ t. t ++ end) (ap part_condition_text (sym (same_front room part c d mid end reads (follows.0, follows.1)).0) ∙ sym is ∙ it.1)) follows.2
      none d follows (inr it) = false≢true (sym it ∙ ap (λ t. is_lt (slice_cmp nat_cmp last t)) (is ∙ ap part_condition_text (same_front room part c d mid end reads (follows.0, follows.1)).0) ∙ follows.3)

    pub one_conjunct : ((w : Text) → text ≡ codes "and(" ++ w → ⊥) → is_lt (slice_cmp nat_cmp last text) ≡ true → Continues room part end last c
    one_conjunct other before = (
      reads.0 ∙ ap (λ t. part_condition_text c ++ t) same,
      reads.1,
      (λ a b cs e. let it = and_text a b cs in other it.0 (is ∙ ap part_condition_text e ∙ it.1)),
      subst (IsBefore last) is before,
    )

-- what was noted before is kept
pub noted_kept : {P E : Type 0} (old read new : Bool) → Noted P E true read → ((old ≡ true) × (new ≡ read)) ⊎ ((old ≡ false) × (new ≡ false)) → Noted P E old new
noted_kept old read new (inl h) (inl k) = inl (h.0, h.1, k.1 ∙ h.2 ∙ sym k.0)
noted_kept old read new (inl h) (inr k) = inl (h.0, h.1, k.1 ∙ sym k.0)
noted_kept old read new (inr h) (inl k) = inr (h.0, k.1 ∙ h.1)
noted_kept old read new (inr h) (inr k) = inr (h.0, k.1)
