use Rattle.std.proofs.Common.{}
use Rattle.book.proofs.RuleLaws.{book_formed}
use Rattle.bindings.proofs.result_laws.results_may_stand.Goals as goal

pub returns : goal.returns
returns c = book_formed
