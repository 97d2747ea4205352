use Rattle.std.proofs.Common.{ap, sym, ◌∙◌, inl, refl}
use Rattle.derivation.specs.Logs.{are_same}
use Rattle.logs.specs.Logged.{Logged}
use Rattle.lean_logs.proofs.Growth.{lean_at_first, lean_extends}
use Rattle.lean_logs.proofs.Results.{class_stands, class_told, class_unites}
use Rattle.lean_logs.proofs.lean_log.LeanLog.unite_with.Goals as goal

pub returns-then-are_same-clause-extends : goal.returns-then-are_same-clause-extends
returns-then-are_same-clause-extends c = lean_extends _ _ _ (lean_at_first _ _)

pub returns-then-are_same-clause-told : goal.returns-then-are_same-clause-told
returns-then-are_same-clause-told c = inl (class_stands c.args.limit c.args.self.now c.args.given.now c.args.binding c.args.other c.requires.class c.requires.result (ap (λ (l : Logged). are_same l.log c.args.given.now.class c.args.other) (sym c.log.ensures) ∙ sym c.if-are_same.ensures), refl)

pub returns-clause-told : goal.returns-clause-told
returns-clause-told c = class_told c.args.limit c.add_told.result c.args.self.now c.add_told.new.self c.args.given.now c.args.binding c.in_ok-step.step c.args.other c.in_ok-step.ensures c.add_told.ensures.told

pub add_told-requires-clause-stands : goal.add_told-requires-clause-stands
add_told-requires-clause-stands c = class_unites c.args.limit c.args.self.now c.args.given.now c.args.binding c.args.other c.in_ok-step.step c.requires.class c.requires.result c.in_ok-step.ensures
