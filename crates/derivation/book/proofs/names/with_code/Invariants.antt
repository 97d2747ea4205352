use Rattle.std.proofs.Common.{◌≢◌, length}
use Rattle.std.specs.List.{AllByRecursion}
use Rattle.book.specs.Book.{code_of}
use Rattle.book.proofs.names.with_code.Given as goal

-- if none of those that are left has the code, none has it
abbrev pub invariant-rules : goal.invariant-rules
invariant-rules l = AllByRecursion (λ rule. code_of rule ≢ l.fn.code) l.rules → AllByRecursion (λ rule. code_of rule ≢ l.fn.code) l.fn.rules

abbrev pub decreases-rules : goal.decreases-rules
decreases-rules l = length l.rules
