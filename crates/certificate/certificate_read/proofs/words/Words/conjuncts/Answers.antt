use Rattle.algebra.specs.declared.condition.Condition.{Condition}
use Rattle.std.proofs.Common.{List}
use Rattle.certificate_read.specs.WordReading.{conjuncts_wording}
use Rattle.certificate_read.specs.Wordings.{line_fault_of}
use Rattle.certificate_read.proofs.WideConjuncts.{conjuncts_refused}
use Rattle.certificate_read.proofs.Wordings.{handed_on}
use Rattle.certificate_read.proofs.words.Words.conjuncts.Goals as goal

pub returns-in_err-conjuncts : goal.returns-in_err-conjuncts
returns-in_err-conjuncts c =
    handed_on conjuncts_wording (λ C. C) c.args.self.now c.word.new.self c.from_residual-in_err-conjuncts.result (line_fault_of c.in_err-conjuncts.field-0.0) c.from_residual-in_err-conjuncts.ensures.1
    (conjuncts_refused (λ (C : List Condition). C) c.args.self.now c.word.new.self c.in_ok-word.field-0.now c.in_err-conjuncts.field-0.0 c.in_ok-word.ensures c.in_err-conjuncts.ensures)
