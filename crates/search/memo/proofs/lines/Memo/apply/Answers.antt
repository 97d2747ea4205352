use Rattle.std.proofs.Common.{ap, sym, ◌∙◌}
use Rattle.logs.specs.Logged.{Logged}
use Rattle.bindings.specs.Bindings.{given_by_binding}
use Rattle.lean_logs.proofs.Founding.{tells_extends, tells_lean}
use Rattle.lean_logs.proofs.Growth.{extended_along, lean_along, lean_at_first}
use Rattle.memo.proofs.lines.Memo.apply.Goals as goal

pub returns-in_default-clause-lean : goal.returns-in_default-clause-lean
returns-in_default-clause-lean c = lean_at_first _ _

pub returns-then-is_some-clause-lean : goal.returns-then-is_some-clause-lean
returns-then-is_some-clause-lean c = lean_at_first _ _

pub returns-then-not-has_room-clause-lean : goal.returns-then-not-has_room-clause-lean
returns-then-not-has_room-clause-lean c = lean_at_first _ _

pub returns-in_err-close-clause-extends : goal.returns-in_err-close-clause-extends
returns-in_err-close-clause-extends c = extended_along _ _ _ _ c.add_given.ensures.extends (tells_extends _ _ _ c.close.ensures.tells)

pub returns-clause-extends : goal.returns-clause-extends
returns-clause-extends c = extended_along _ _ _ _ c.add_given.ensures.extends (tells_extends _ _ _ c.close.ensures.tells)

pub returns-clause-lean : goal.returns-clause-lean
returns-clause-lean c = lean_along _ _ _ _ (c.in_ok-line.ensures.lean (c.has_room.ensures.0 c.if-not-has_room.false)) (tells_lean _ _ _ c.close.ensures.tells)

pub add_given-requires : goal.add_given-requires
add_given-requires c = sym (c.in_ok-given.ensures ∙ ap (λ (l : Logged). given_by_binding l.instances l.log c.args.binding) c.log.ensures) ∙ c.in-Some.is
