use Rattle.std.proofs.Common.{refl, ap, ◌∙◌, subst, ◌++◌, ◌∷◌, []}
use Rattle.derivation.specs.Replay.{Replays}
use Rattle.logs.specs.Logged.{Logged}
use Rattle.lean_logs.proofs.Growth.{extended_along}
use Rattle.lean_logs.proofs.Spelling.{class_ends, expr_ends, expr_refused, first_refused, one_ends, one_refused, places_none, places_on, second_refused, spells_on, two_end}
use Rattle.lean_logs.proofs.lean_log.LeanLog.+spelling.Goals as goal

pub place-returns-in-Class-clause-placed : goal.place-returns-in-Class-clause-placed
place-returns-in-Class-clause-placed t c =
    class_ends c.args.limit c.args.self.now c.args.shape.now c.in-Class.class _ c.in-Class.is (subst (λ (l : Logged). Replays l.instances l.own l.log) c.log.ensures c.lines-replays.ensures.replays) refl c.new.ensures.items

pub place-returns-in_err-line : goal.place-returns-in_err-line
place-returns-in_err-line t c = record {
  extends = extended_along _ _ _ _ c.spell.ensures.extends c.intern.ensures.extends;
  placed = places_on c.args.limit c.args.self.now c.intern.new.self c.args.shape.now _ _ c.from_residual-in_err-line.ensures.1
      (expr_refused c.args.limit c.args.self.now c.spell.new.self c.intern.new.self c.args.shape.now _ _ c.in_default.not-Class c.in_ok-expr.ensures.spelt (subst (λ (l : Logged). Replays l.instances l.own l.log) c.log-2.ensures c.lines-spelt.ensures.replays) c.in_err-line.ensures.interned);
}

pub place-returns-in_err-push : goal.place-returns-in_err-push
place-returns-in_err-push t c = record {
  extends = extended_along _ _ _ _ c.spell.ensures.extends c.intern.ensures.extends;
  placed = places_on c.args.limit c.args.self.now c.intern.new.self c.args.shape.now _ _ c.from_residual-in_err-push.ensures.1 (places_none c.args.limit c.args.self.now c.intern.new.self c.args.shape.now);
}

pub place-returns-in_err-extend_from_slice : goal.place-returns-in_err-extend_from_slice
place-returns-in_err-extend_from_slice t c = record {
  extends = extended_along _ _ _ _ c.spell.ensures.extends c.intern.ensures.extends;
  placed = places_on c.args.limit c.args.self.now c.intern.new.self c.args.shape.now _ _ c.from_residual-in_err-extend_from_slice.ensures.1 (places_none c.args.limit c.args.self.now c.intern.new.self c.args.shape.now);
}

pub place-returns : goal.place-returns
place-returns t c = record {
  extends = extended_along _ _ _ _ c.spell.ensures.extends c.intern.ensures.extends;
  placed = expr_ends c.args.limit c.args.self.now c.spell.new.self c.intern.new.self c.args.shape.now _ _ _ c.in_default.not-Class c.in_ok-expr.ensures.spelt
      (subst (λ (l : Logged). Replays l.instances l.own l.log) c.log-2.ensures c.lines-spelt.ensures.replays) (subst (λ (l : Logged). Replays l.instances l.own l.log) c.log-3.ensures c.lines-founded.ensures.replays)
      c.in_ok-line.ensures.interned refl
      (c.in_ok-extend_from_slice.ensures.items ∙ ap (λ ns. ns ++ c.as_slice.result.now) (c.in_ok-push.ensures.items ∙ ap (λ ns. ns ++ (c.in_ok-line.field-0.line ∷ [])) c.new-makes.ensures.items) ∙ ap (λ ms. c.in_ok-line.field-0.line ∷ ms) c.as_slice.ensures.value);
}

pub spell_one-returns-in_err-class-clause-spelt : goal.spell_one-returns-in_err-class-clause-spelt
spell_one-returns-in_err-class-clause-spelt t c = spells_on c.args.limit c.args.self.now c.place.new.self _ _ _ c.from_residual.ensures.1 (one_refused c.args.limit c.args.self.now c.place.new.self c.args.operator c.args.input.now _ c.in_err-class.ensures.placed)

pub spell_one-returns-clause-spelt : goal.spell_one-returns-clause-spelt
spell_one-returns-clause-spelt t c = one_ends c.args.limit c.args.self.now c.place.new.self c.args.operator c.args.input.now _ _ c.in_ok-class.ensures.placed c.in_ok-expr.ensures refl

pub spell_two-returns-in_err-class-clause-spelt : goal.spell_two-returns-in_err-class-clause-spelt
spell_two-returns-in_err-class-clause-spelt t c = spells_on c.args.limit c.args.self.now c.place.new.self _ _ _ c.from_residual.ensures.1 (first_refused c.args.limit c.args.self.now c.place.new.self c.args.operator c.args.left.now c.args.right.now _ c.in_err-class.ensures.placed)

pub spell_two-returns-in_err-right-clause-extends : goal.spell_two-returns-in_err-right-clause-extends
spell_two-returns-in_err-right-clause-extends t c = extended_along _ _ _ _ c.place.ensures.extends c.place-2.ensures.extends

pub spell_two-returns-in_err-right-clause-spelt : goal.spell_two-returns-in_err-right-clause-spelt
spell_two-returns-in_err-right-clause-spelt t c = spells_on c.args.limit c.args.self.now c.place-2.new.self _ _ _ c.from_residual-in_err-right.ensures.1 (second_refused c.args.limit c.args.self.now c.place.new.self c.place-2.new.self c.args.operator c.args.left.now c.args.right.now _ _ c.in_ok-class.ensures.placed c.in_err-right.ensures.placed)

pub spell_two-returns-in_err-extend_from_slice-clause-extends : goal.spell_two-returns-in_err-extend_from_slice-clause-extends
spell_two-returns-in_err-extend_from_slice-clause-extends t c = extended_along _ _ _ _ c.place.ensures.extends c.place-2.ensures.extends

pub spell_two-returns-in_err-expr-clause-extends : goal.spell_two-returns-in_err-expr-clause-extends
spell_two-returns-in_err-expr-clause-extends t c = extended_along _ _ _ _ c.place.ensures.extends c.place-2.ensures.extends

pub spell_two-returns-clause-extends : goal.spell_two-returns-clause-extends
spell_two-returns-clause-extends t c = extended_along _ _ _ _ c.place.ensures.extends c.place-2.ensures.extends

pub spell_two-returns-clause-spelt : goal.spell_two-returns-clause-spelt
spell_two-returns-clause-spelt t c = two_end c.args.limit c.args.self.now c.place.new.self c.place-2.new.self c.args.operator c.args.left.now c.args.right.now _ _ _ c.in_ok-class.ensures.placed c.in_ok-right.ensures.placed c.in_ok-expr.ensures
    (c.in_ok-extend_from_slice.ensures.items ∙ ap (λ ns. c.in_ok-class.field-0.makes.items ++ ns) c.as_slice.ensures.value)
