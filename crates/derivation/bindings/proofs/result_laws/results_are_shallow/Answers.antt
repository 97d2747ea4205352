use Rattle.std.proofs.Common.{}
use Rattle.bindings.proofs.ShallowResults.{book_shallow}
use Rattle.bindings.proofs.result_laws.results_are_shallow.Goals as goal

pub returns : goal.returns
returns c = book_shallow
