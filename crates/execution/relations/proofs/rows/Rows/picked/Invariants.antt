use Rattle.std.proofs.Common.{◌≡◌, get_or, map, take, []}
use Rattle.relations.proofs.rows.Rows.picked.Given as goal

abbrev pub invariant-loop-part : goal.invariant-loop-part
invariant-loop-part l = l.parts.items ≡ map (λ part. map (λ n. get_or part n []) l.numbers) (take l.part-index l.part-items)
