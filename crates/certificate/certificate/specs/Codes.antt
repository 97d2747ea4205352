-- The codes by which the program reports a faulty certificate.
use Rattle.std.specs.Prelude.{ℕ, List, Option, Some, None, codes}
use Rattle.book.specs.Book as book
use Rattle.certificate.specs.declared.certificate.CheckReason.{CheckReason}
use Rattle.certificate.specs.declared.certificate.CheckReason.TheVariants.{UnknownLine, OtherForm, OtherLine, IllFormed, FailedCondition, FailedFact, OtherOperator, UnsortedInput, UnsortedAnswer}

abbrev pub code_of : CheckReason → List ℕ
code_of UnknownLine = codes "K01"
code_of OtherForm = codes "K02"
code_of OtherLine = codes "K03"
code_of IllFormed = codes "K04"
code_of (FailedCondition rule) = codes "K05"
code_of FailedFact = codes "K05"
code_of OtherOperator = codes "K06"
code_of UnsortedInput = codes "K07"
code_of UnsortedAnswer = codes "K08"

-- what fails where K05 is reported: a rule's condition, by the rule's name, or a fact
abbrev pub rule_of : CheckReason → Option (List ℕ)
rule_of (FailedCondition rule) = Some (book.code_of rule)
rule_of FailedFact = Some (codes "L")
rule_of reason = None
