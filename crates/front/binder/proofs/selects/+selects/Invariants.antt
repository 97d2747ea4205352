use Rattle.std.proofs.Common.{◌≡◌, map, drop}
use Rattle.binder.specs.Chained.{scopes_of}
use Rattle.binder.specs.Selects as spec
use Rattle.binder.proofs.SelectLoops.{in_front}
use Rattle.binder.proofs.selects.+selects.Given as goal

abbrev pub invariant-conditions-loop-part : goal.invariant-conditions-loop-part
invariant-conditions-loop-part l =
    in_front l.bound (spec.all_in (map (spec.condition_in l.schema) (drop l.part-index l.parts)) (scopes_of l.scopes) l.numbered)
    ≡ spec.all_in (map (spec.condition_in l.schema) l.parts) (scopes_of l.scopes) l.fn.numbered

abbrev pub invariant-joins-loop-part : goal.invariant-joins-loop-part
invariant-joins-loop-part l =
    spec.through (map (spec.join_in l.schema) (drop l.part-index l.parts)) (scopes_of l.outer) l.before (l.left.0, l.left.1, l.numbered)
    ≡ spec.through (map (spec.join_in l.schema) l.parts) (scopes_of l.outer) l.before (l.fn.first.0, l.fn.first.1, l.fn.numbered)

abbrev pub invariant-sources-loop-part : goal.invariant-sources-loop-part
invariant-sources-loop-part l =
    spec.commas (map (spec.chain_in l.schema) (drop l.part-index l.others)) (scopes_of l.outer) (l.left, l.scope, l.numbered)
    ≡ spec.from_in (map (spec.chain_in l.schema) l.parts) (scopes_of l.outer) l.fn.numbered
