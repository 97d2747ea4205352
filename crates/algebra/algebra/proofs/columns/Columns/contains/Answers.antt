use Rattle.std.proofs.Common.{ap, ◌∙◌}
use Rattle.algebra.specs.Columns.{has}
use Rattle.algebra.proofs.Sets.{found-has}
use Rattle.algebra.proofs.columns.Columns.contains.Goals as goal

pub returns : goal.returns
returns c =
    c.is_ok.ensures.value
    ∙ found-has c.as_slice.result.now c.args.column c.binary_search.result (rw c.as_slice.ensures.columns c.as_slice.ensures.rising) c.binary_search.ensures.position
    ∙ ap (λ columns. has columns c.args.column) c.as_slice.ensures.columns
