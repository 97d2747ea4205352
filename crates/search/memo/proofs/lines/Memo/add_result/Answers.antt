use Rattle.std.proofs.Common.{ap, sym, ◌∙◌, inl, inr}
use Rattle.logs.specs.Logged.{Logged}
use Rattle.bindings.specs.Bindings.{given_by_binding}
use Rattle.lean_logs.proofs.Founding.{longer_still, tells_extends, tells_lean, where_ok}
use Rattle.lean_logs.proofs.Growth.{extended_along, fills_along, lean_fills}
use Rattle.memo.proofs.lines.Memo.add_result.Goals as goal

pub returns-clause-extends : goal.returns-clause-extends
returns-clause-extends c = extended_along _ _ _ _ c.add_given.ensures.extends (tells_extends _ _ _ c.close.ensures.tells)

pub returns-clause-fills : goal.returns-clause-fills
returns-clause-fills c = where_ok c.close.result (fills_along _ _ _ _ c.in_ok-add_given.ensures.fills (lean_fills _ _ _ (tells_lean _ _ _ c.close.ensures.tells)))

pub returns-clause-added : goal.returns-clause-added
returns-clause-added c =
    let is = sym (c.in_ok-given.ensures ∙ ap (λ (l : Logged). given_by_binding l.instances l.log c.args.binding) c.log.ensures) ∙ c.in-Some.is in
    where_ok c.close.result (λ room. elim (c.in_ok-add_given.ensures.added room) [
      | inl stands ↦ inl (record { given = c.in-Some.given; is = is; stands = stands })
      | inr more ↦ inr (longer_still _ c.args.self.now.log c.add_given.new.self c.close.new.self.log c.close.ensures.tells more)
    ])

pub add_given-requires : goal.add_given-requires
add_given-requires c = sym (c.in_ok-given.ensures ∙ ap (λ (l : Logged). given_by_binding l.instances l.log c.args.binding) c.log.ensures) ∙ c.in-Some.is
