use Rattle.std.proofs.Common.{List, length}
use Rattle.std.specs.List.{AllByRecursion}
use Rattle.book.specs.declared.names.RuleName.{RuleName}
use Rattle.book.specs.Book.{pattern_of}
use Rattle.closure.specs.Lines.{HasResultsBy}
use Rattle.closure.proofs.closing.lacking_among.Given as goal

-- all have results where those that are left have
abbrev pub invariant-rules : goal.invariant-rules
invariant-rules l =
    let All = λ (rules : List RuleName). AllByRecursion (λ rule. HasResultsBy l.log.instances l.log.log rule l.line (pattern_of rule)) rules in
    All l.rules → All l.fn.rules

abbrev pub decreases-rules : goal.decreases-rules
decreases-rules l = length l.rules
