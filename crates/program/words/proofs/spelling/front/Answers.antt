use Rattle.std.proofs.Common.{arith, sym}
use Rattle.std.proofs.lemmas.List.{length-take-le, take_all}
use Rattle.words.proofs.spelling.front.Goals as goal

pub slice_bounds-result-end : goal.slice_bounds-result-end
slice_bounds-result-end c = sym (length-take-le 60 c.args.bytes.now (omega (arith, c.if-bytes-le-MOST_SHOWN.false)))

pub returns-then-bytes-le-MOST_SHOWN : goal.returns-then-bytes-le-MOST_SHOWN
returns-then-bytes-le-MOST_SHOWN c = sym (take_all 60 c.args.bytes.now (omega (arith, c.if-bytes-le-MOST_SHOWN.true)))
