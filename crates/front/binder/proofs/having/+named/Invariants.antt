use Rattle.std.proofs.Common.{◌≡◌, drop, map}
use Rattle.binder.specs.Chained.{scopes_of}
use Rattle.binder.specs.Havings.{all_asked, condition_asked}
use Rattle.binder.proofs.having.+named.Given as goal

abbrev pub invariant-conditions-loop-part : goal.invariant-conditions-loop-part
invariant-conditions-loop-part l = all_asked (map (condition_asked (scopes_of l.scopes) l.keys) (drop l.part-index l.parts)) l.asked ≡ all_asked (map (condition_asked (scopes_of l.scopes) l.keys) l.parts) l.fn.asked
