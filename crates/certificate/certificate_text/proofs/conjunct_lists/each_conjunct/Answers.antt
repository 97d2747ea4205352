use Rattle.std.proofs.Common.{List, subst, Ok, Err}
use Rattle.algebra.specs.declared.condition.Condition.{Condition}
use Rattle.certificate_text.specs.ListReading.{AddsConjunct, IsOneTooDeep, ReadsList, SpellEachAny}
use Rattle.certificate_text.proofs.ConjunctLists.{all_behind, all_read, at_part, part_added, part_unread}
use Rattle.certificate_text.proofs.Exits.{holds_of_fault}
use Rattle.certificate_text.proofs.NumberLists.{texts}
use Rattle.certificate_text.proofs.conjunct_lists.each_conjunct.Goals as goal

pub returns-in_err-add : goal.returns-in_err-add
returns-in_err-add c =
    let at = at_part c.args.parts.now c.loop-place.place _ c.loop-place-test.true c.end_of.result.now c.end_of.ensures.inner c.end_of.ensures.last in
    holds_of_fault (ReadsList (SpellEachAny c.args.room) (IsOneTooDeep c.args.room) (texts c.args.parts.now) (λ (C : List Condition). C)) c.from_residual.result c.in_err-add.field-0.0 c.from_residual.ensures.1
    (part_unread c.args.room (texts c.args.parts.now) c.loop-place.place c.end_of.result.now at.0 at.1 at.2 c.loop-place.read c.add.new.self c.loop-place.invariant (λ (C : List Condition). C) c.in_err-add.field-0.0 (subst (λ t. AddsConjunct c.args.room t c.end_of.result.now c.loop-place.read c.add.new.self (Err c.in_err-add.field-0.0)) at.3 c.in_err-add.ensures))

pub loop-place-preserved : goal.loop-place-preserved
loop-place-preserved c =
    let at = at_part c.args.parts.now c.loop-place.place _ c.loop-place-test.true c.end_of.result.now c.end_of.ensures.inner c.end_of.ensures.last in
    part_added c.args.room (texts c.args.parts.now) c.loop-place.place c.end_of.result.now at.0 at.1 at.2 c.loop-place.read c.add.new.self c.loop-place.invariant c.in_ok-add.field-0 (subst (λ t. AddsConjunct c.args.room t c.end_of.result.now c.loop-place.read c.add.new.self (Ok c.in_ok-add.field-0)) at.3 c.in_ok-add.ensures)

pub returns : goal.returns
returns c = all_read c.args.room (texts c.args.parts.now) c.loop-place.place c.loop-place.read c.into_conjuncts.result (all_behind c.args.parts.now c.loop-place.place c.loop-place-test.false) c.loop-place.invariant c.into_conjuncts.ensures.whole c.into_conjuncts.ensures.past
