use Rattle.std.proofs.Common.{sym, ◌∙◌, ap, ◌∷◌, ◌++◌}
use Rattle.algebra.specs.declared.condition.Condition.TheVariants as condition
use Rattle.algebra.specs.declared.condition.Term.{Term}
use Rattle.certificate_text.specs.ConditionReading.{BeginsComparison, BeginsTerm, IsNever, IsShortComparison, Passes}
use Rattle.certificate_text.specs.PartTexts.{part_term_text}
use Rattle.certificate_text.specs.Spelled.{IsShortTerm}
use Rattle.certificate_text.proofs.Exits.{holds_of_fault}
use Rattle.certificate_text.proofs.Passing.{fails_behind, noted_as, noted_both}
use Rattle.certificate_text.proofs.SameFronts.{same_comma}
use Rattle.certificate_text.proofs.conditions.Cursor.comparison.Goals as goal

pub returns-in_err-term : goal.returns-in_err-term
returns-in_err-term c =
    let first = c.in_ok-left.ensures in
    holds_of_fault (Passes BeginsComparison IsShortComparison IsNever (λ (x : Term × Term). condition.Compare c.args.comparison x.0 x.1) c.args.self.now c.term-2.new.self) c.from_residual-in_err-term.result c.in_err-term.field-0.0 c.from_residual-in_err-term.ensures.1
    (fails_behind BeginsComparison IsShortComparison IsNever (λ (x : Term × Term). condition.Compare c.args.comparison x.0 x.1) (BeginsTerm 41) IsShortTerm IsNever (λ (t : Term). t) c.args.self.now c.term.new.self c.term-2.new.self c.term-2.new.self c.in_err-term.field-0.0 c.in_err-term.ensures
    (λ x rest s. (x.1, rest, ((same_comma first.0 x.0 c.term.new.self.left.now (part_term_text x.1 ++ (41 ∷ rest)) first.1.1 s.1 (sym first.1.0 ∙ s.0)).1, s.2))) (λ never. absurd never) (λ never. never))

pub returns : goal.returns
returns c =
    let first = c.in_ok-left.ensures in
    let second = c.in_ok-term.ensures in (
      (first.0, second.0),
      (first.1.0 ∙ ap (λ t. part_term_text first.0 ++ (44 ∷ t)) second.1.0, first.1.1, second.1.1),
      noted_as c.args.self.now.in_range c.term-2.new.self.in_range (λ both. both) (λ both. both) (λ same. λ i. condition.Compare c.args.comparison (same.0 i) (same.1 i)) (noted_both c.args.self.now.in_range c.term.new.self.in_range c.term-2.new.self.in_range first.2 second.2),
    )
