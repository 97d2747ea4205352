use Rattle.std.proofs.Common.{◌≡◌, refl, ◌∙◌, ap}
use Rattle.book.specs.Book.{code_of}
use Rattle.certificate_read.specs.LineReading.{rule_wording, step_wording, step_parts}
use Rattle.certificate_read.specs.WordReading.{number_wording, numbers_wording}
use Rattle.certificate_read.specs.Wordings.{◌␣◌, left_words}
use Rattle.certificate_read.proofs.LineLaws.{rule_told, step_of}
use Rattle.certificate_read.proofs.WordLaws.{number_told, numbers_told}
use Rattle.certificate_read.proofs.Wordings.{passes_two, second_refused, handed_on, parts_passes, parts_refused, name_passes}
use Rattle.certificate_read.proofs.derivation_lines.step.Goals as goal

pub returns-in_err-makes : goal.returns-in_err-makes
returns-in_err-makes c =
    handed_on step_wording (λ s. s) c.args.words.now c.numbers-2.new.self c.from_residual-in_err-makes.result c.in_err-makes.field-0.0 c.from_residual-in_err-makes.ensures.1
    (parts_refused step_parts (rule_wording ␣ number_wording ␣ numbers_wording ␣ numbers_wording) (left_words c.args.words.now) c.in_err-makes.field-0.0
    (second_refused rule_wording (number_wording ␣ numbers_wording ␣ numbers_wording) rule_told (λ x. c.in_ok-rule.rule ≡ x) c.args.words.now c.rule.new.words c.in_err-makes.field-0.0 (name_passes code_of c.in_ok-rule.rule c.args.words.now c.rule.new.words c.in_ok-rule.ensures)
    (second_refused number_wording (numbers_wording ␣ numbers_wording) number_told (λ x. c.in_ok-pick.pick ≡ x) c.rule.new.words c.number.new.self c.in_err-makes.field-0.0 c.in_ok-pick.ensures
    (second_refused numbers_wording numbers_wording numbers_told (λ x. c.in_ok-uses.uses ≡ x) c.number.new.self c.numbers.new.self c.in_err-makes.field-0.0 c.in_ok-uses.ensures
    c.in_err-makes.ensures))))

pub returns : goal.returns
returns c =
    parts_passes step_parts (rule_wording ␣ number_wording ␣ numbers_wording ␣ numbers_wording) step_of (λ x. (c.in_ok-rule.rule, (c.in_ok-pick.pick, (c.in_ok-uses.uses, c.in_ok-makes.makes))) ≡ x) _ c.args.words.now c.numbers-2.new.self (λ x. refl) (λ x e. c.in_ok-new.ensures ∙ ap step_of e)
    (passes_two rule_wording (number_wording ␣ numbers_wording ␣ numbers_wording) c.in_ok-rule.rule (c.in_ok-pick.pick, (c.in_ok-uses.uses, c.in_ok-makes.makes)) c.args.words.now c.rule.new.words c.numbers-2.new.self (name_passes code_of c.in_ok-rule.rule c.args.words.now c.rule.new.words c.in_ok-rule.ensures)
    (passes_two number_wording (numbers_wording ␣ numbers_wording) c.in_ok-pick.pick (c.in_ok-uses.uses, c.in_ok-makes.makes) c.rule.new.words c.number.new.self c.numbers-2.new.self c.in_ok-pick.ensures
    (passes_two numbers_wording numbers_wording c.in_ok-uses.uses c.in_ok-makes.makes c.number.new.self c.numbers.new.self c.numbers-2.new.self c.in_ok-uses.ensures
    c.in_ok-makes.ensures)))
