use Rattle.std.proofs.Common.{codes, arith, List, ℕ}
use Rattle.std.proofs.lemmas.Str.Pattern.{strip_prefix_char}
use Rattle.algebra.specs.declared.condition.Term.{Term}
use Rattle.certificate_text.specs.Parts.{Reads}
use Rattle.certificate_text.specs.Spelled.{SpellsTerm, IsShortTerm}
use Rattle.certificate_text.proofs.Exits.{holds_of_fault}
use Rattle.certificate_text.proofs.TermParts.{no_word, no_text, column_past, integer_past, text_fault}
use Rattle.certificate_text.proofs.terms.term.Goals as goal

pub returns-in-None : goal.returns-in-None
returns-in-None c = column_past c.args.word.now c.in-Some.column.now (rw c.in-Some.is at (strip_prefix_char 99 c.args.word.now c.strip_prefix.result c.strip_prefix.ensures.cases (omega arith))) (rw c.in-None.is at c.in_ok-column.ensures)

pub returns-in-None-2 : goal.returns-in-None-2
returns-in-None-2 c = integer_past c.args.word.now c.in-Some-strip_prefix.literal.now (rw c.in-Some-strip_prefix.is at (strip_prefix_char 105 c.args.word.now c.strip_prefix-2.result c.strip_prefix-2.ensures.cases (omega arith))) (rw c.in-None-2.is at c.in_ok-literal.ensures)

pub returns-in_err-text-in-Some-strip_prefix-2 : goal.returns-in_err-text-in-Some-strip_prefix-2
returns-in_err-text-in-Some-strip_prefix-2 c =
    holds_of_fault (Reads SpellsTerm IsShortTerm c.args.word.now (λ (t : Term). t)) c.from_residual-in_err-text-in-Some-strip_prefix-2.result c.in_err-text-in-Some-strip_prefix-2.field-0.0 c.from_residual-in_err-text-in-Some-strip_prefix-2.ensures.1
    (text_fault c.args.word.now c.in-Some-strip_prefix-2.digits.now (rw c.in-Some-strip_prefix-2.is at (strip_prefix_char 116 c.args.word.now c.strip_prefix-3.result c.strip_prefix-3.ensures.cases (omega arith))) (λ (t : List ℕ). t) (λ (t : Term). t) c.in_err-text-in-Some-strip_prefix-2.field-0.0
    c.in_err-text-in-Some-strip_prefix-2.ensures)

pub returns-in-None-strip_prefix : goal.returns-in-None-strip_prefix
returns-in-None-strip_prefix c = rw c.into.ensures (λ t s.
    no_word t c.args.word.now (no_text c.args.word.now (codes "n") c.eq.result c.if-eq.false c.eq.ensures)
    (rw c.in_default.is at (strip_prefix_char 99 c.args.word.now c.strip_prefix.result c.strip_prefix.ensures.cases (omega arith)))
    (rw c.in_default-strip_prefix.is at (strip_prefix_char 105 c.args.word.now c.strip_prefix-2.result c.strip_prefix-2.ensures.cases (omega arith)))
    (rw c.in-None-strip_prefix.is at (strip_prefix_char 116 c.args.word.now c.strip_prefix-3.result c.strip_prefix-3.ensures.cases (omega arith))) s)
