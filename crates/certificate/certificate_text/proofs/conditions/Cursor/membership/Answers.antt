use Rattle.std.proofs.Common.{ℕ, sym, ◌∙◌, ap, subst, ◌≡◌, ◌∷◌, ◌++◌, drop, refl}
use Rattle.algebra.specs.declared.condition.Condition.TheVariants as condition
use Rattle.algebra.specs.declared.condition.Term.{Term}
use Rattle.certificate_text.specs.ConditionReading.{BeginsMembership, BeginsNumber, IsAny, IsNever, IsShortMembership, Passes}
use Rattle.certificate_text.specs.Numerals.{numeral}
use Rattle.certificate_text.specs.Parts.{IsShort, Noted}
use Rattle.certificate_text.specs.PartTexts.{part_term_text}
use Rattle.certificate_text.proofs.Exits.{holds_of_fault}
use Rattle.certificate_text.proofs.Passing.{fails_behind, noted_any, noted_as, noted_both}
use Rattle.certificate_text.proofs.SameFronts.{same_comma, same_number}
use Rattle.certificate_text.proofs.conditions.Cursor.membership.Goals as goal

pub returns-in_err-class : goal.returns-in_err-class
returns-in_err-class c =
    let first = c.in_ok-term.ensures in
    holds_of_fault (Passes BeginsMembership IsShortMembership IsNever (λ (x : Term × ℕ × ℕ). condition.In x.0 x.1 x.2) c.args.self.now c.number.new.self) c.from_residual-in_err-class.result c.in_err-class.field-0.0 c.from_residual-in_err-class.ensures.1
    (fails_behind BeginsMembership IsShortMembership IsNever (λ (x : Term × ℕ × ℕ). condition.In x.0 x.1 x.2) (BeginsNumber 44) IsShort IsNever (λ (n : ℕ). n) c.args.self.now c.term.new.self c.number.new.self c.number.new.self c.in_err-class.field-0.0 c.in_err-class.ensures
    (λ x rest s. (x.1, 99 ∷ (numeral x.2 ++ (41 ∷ rest)), (same_comma first.0 x.0 c.term.new.self.left.now (numeral x.1 ++ (44 ∷ (99 ∷ (numeral x.2 ++ (41 ∷ rest))))) first.1.1 s.1 (sym first.1.0 ∙ s.0)).1)) (λ never. absurd never) (λ never. never))

pub returns-in_err-expect : goal.returns-in_err-expect
returns-in_err-expect c =
    let first = c.in_ok-term.ensures in
    let second = c.in_ok-class.ensures in
    holds_of_fault (Passes BeginsMembership IsShortMembership IsNever (λ (x : Term × ℕ × ℕ). condition.In x.0 x.1 x.2) c.args.self.now c.expect.new.self) c.from_residual-in_err-expect.result c.in_err-expect.field-0.0 c.from_residual-in_err-expect.ensures.1
    (fails_behind BeginsMembership IsShortMembership IsNever (λ (x : Term × ℕ × ℕ). condition.In x.0 x.1 x.2) (λ t (u : Unit {0}) rest. t ≡ 99 ∷ rest) IsAny IsNever (λ (u : Unit {0}). u) c.args.self.now c.number.new.self c.expect.new.self c.expect.new.self c.in_err-expect.field-0.0 c.in_err-expect.ensures
    (λ x rest s.
    let one = same_comma first.0 x.0 c.term.new.self.left.now (numeral x.1 ++ (44 ∷ (99 ∷ (numeral x.2 ++ (41 ∷ rest))))) first.1.1 s.1 (sym first.1.0 ∙ s.0) in
    (tt, numeral x.2 ++ (41 ∷ rest), (same_number 44 second.0 x.1 c.number.new.self.left.now (99 ∷ (numeral x.2 ++ (41 ∷ rest))) refl (sym second.1 ∙ one.1)).1)) (λ never. absurd never) (λ never. never))

pub returns-in_err-number : goal.returns-in_err-number
returns-in_err-number c =
    let first = c.in_ok-term.ensures in
    let second = c.in_ok-class.ensures in
    let third = c.in_ok-expect.ensures in
    holds_of_fault (Passes BeginsMembership IsShortMembership IsNever (λ (x : Term × ℕ × ℕ). condition.In x.0 x.1 x.2) c.args.self.now c.number-2.new.self) c.from_residual-in_err-number.result c.in_err-number.field-0.0 c.from_residual-in_err-number.ensures.1
    (fails_behind BeginsMembership IsShortMembership IsNever (λ (x : Term × ℕ × ℕ). condition.In x.0 x.1 x.2) (BeginsNumber 41) IsShort IsNever (λ (n : ℕ). n) c.args.self.now c.expect.new.self c.number-2.new.self c.number-2.new.self c.in_err-number.field-0.0 c.in_err-number.ensures
    (λ x rest s.
    let one = same_comma first.0 x.0 c.term.new.self.left.now (numeral x.1 ++ (44 ∷ (99 ∷ (numeral x.2 ++ (41 ∷ rest))))) first.1.1 s.1 (sym first.1.0 ∙ s.0) in
    let two = same_number 44 second.0 x.1 c.number.new.self.left.now (99 ∷ (numeral x.2 ++ (41 ∷ rest))) refl (sym second.1 ∙ one.1) in
    (x.2, rest, ap (drop 1) (sym third.1 ∙ two.1))) (λ never. absurd never) (λ never. never))

pub returns : goal.returns
returns c =
    let first = c.in_ok-term.ensures in
    let second = c.in_ok-class.ensures in
    let third = c.in_ok-expect.ensures in
    let last = c.in_ok-number.ensures in
    let kept : c.expect.new.self.in_range ≡ c.number.new.self.in_range = (noted_any c.number.new.self.in_range c.expect.new.self.in_range third.2).1 in
    let column = subst (λ b. Noted (IsShort last.0) (c.in_ok-number.field-0 ≡ last.0) b c.number-2.new.self.in_range) kept last.2 in (
      (first.0, second.0, last.0),
      (first.1.0 ∙ ap (λ t. part_term_text first.0 ++ (44 ∷ t)) (second.1 ∙ ap (λ t. numeral second.0 ++ (44 ∷ t)) (third.1 ∙ ap (λ t. 99 ∷ t) last.1)), first.1.1),
      noted_as c.args.self.now.in_range c.number-2.new.self.in_range (λ all. (all.0, all.1.0, all.1.1)) (λ all. (all.0, (all.1, all.2))) (λ same. λ i. condition.In (same.0 i) (same.1.0 i) (same.1.1 i))
          (noted_both c.args.self.now.in_range c.term.new.self.in_range c.number-2.new.self.in_range first.2 (noted_both c.term.new.self.in_range c.number.new.self.in_range c.number-2.new.self.in_range second.2 column)),
    )
