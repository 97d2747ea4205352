use Rattle.std.proofs.Common.{ℕ, List}
use denote.Ref.{Bor}
use Rattle.algebra.specs.declared.condition.Term.{Term}
use Rattle.certificate_text.specs.ConditionReading.{BeginsTerm, IsNever, Passes}
use Rattle.certificate_text.specs.PartTexts.{part_term_text}
use Rattle.certificate_text.specs.Spelled.{HasText, IsShortTerm}
use Rattle.certificate_text.proofs.Exits.{holds_of_fault}
use Rattle.certificate_text.proofs.Passing.{spells_term, term_fails, word_fails}
use Rattle.certificate_text.proofs.conditions.Cursor.term.Goals as goal

pub returns-in_err-word : goal.returns-in_err-word
returns-in_err-word c =
    holds_of_fault (Passes (BeginsTerm c.args.end) IsShortTerm IsNever (λ (t : Term). t) c.args.self.now c.until.new.self) c.from_residual.result c.in_err-word.field-0.0 c.from_residual.ensures.1
    (word_fails (BeginsTerm c.args.end) IsShortTerm (λ (t : Term). t) part_term_text HasText c.args.end (spells_term c.args.end c.requires) (λ (w : Bor (List ℕ)). w.now) c.args.self.now c.until.new.self c.until.new.self c.in_err-word.field-0.0 c.in_err-word.ensures)

pub returns-in_err-term : goal.returns-in_err-term
returns-in_err-term c =
    holds_of_fault (Passes (BeginsTerm c.args.end) IsShortTerm IsNever (λ (t : Term). t) c.args.self.now c.until.new.self) c.from_residual-in_err-term.result c.in_err-term.field-0.0 c.from_residual-in_err-term.ensures.1
    (term_fails c.args.end c.requires c.in_ok-word.word.now c.args.self.now c.until.new.self c.until.new.self c.in_err-term.field-0.0 c.in_ok-word.ensures.0 c.in_ok-word.ensures.1 c.in_err-term.ensures)
