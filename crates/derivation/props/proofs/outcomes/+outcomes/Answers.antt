use Rattle.std.proofs.Common.{ap, sym, ◌∙◌, fold, map, take, arith}
use Rattle.algebra.specs.declared.condition.Condition.{Condition}
use Rattle.algebra.proofs.Lists.{fold-next}
use Rattle.props.specs.declared.outcomes.Truths.{Truths}
use Rattle.props.specs.Outcomes.{outcomes, null_set, of_and, of_or}
use Rattle.props.proofs.OutcomeForms.{outcomes-Compare, outcomes-IsNull, outcomes-Not, outcomes-And, outcomes-Or, outcomes-Exists, outcomes-In}
use Rattle.props.proofs.outcomes.+outcomes.Goals as goal

pub outcomes-returns-in-Compare : goal.outcomes-returns-in-Compare
outcomes-returns-in-Compare t c =
    rw (c.compared.ensures, c.is_one_nulled.ensures) (sym (ap (λ d. outcomes d (null_set c.args.nulls)) c.in-Compare.is ∙ outcomes-Compare (null_set c.args.nulls) c.in-Compare.field-0 c.in-Compare.a c.in-Compare.b))

pub outcomes-returns-in-IsNull : goal.outcomes-returns-in-IsNull
outcomes-returns-in-IsNull t c = c.null_outcomes.ensures ∙ sym (ap (λ d. outcomes d (null_set c.args.nulls)) c.in-IsNull.is ∙ outcomes-IsNull (null_set c.args.nulls) c.in-IsNull.a)

pub outcomes-returns-in-Not : goal.outcomes-returns-in-Not
outcomes-returns-in-Not t c =
    rw (c.not.ensures, c.outcomes.ensures, c.get.ensures) (sym (ap (λ d. outcomes d (null_set c.args.nulls)) c.in-Not.is ∙ outcomes-Not (null_set c.args.nulls) c.in-Not.part))

pub outcomes-returns-in-And : goal.outcomes-returns-in-And
outcomes-returns-in-And t c =
    rw (c.all_outcomes.ensures, c.and.ensures, c.outcomes-first.ensures, c.outcomes-second.ensures, c.get-in-And.ensures, c.get-in-And-2.ensures, c.as_slice.ensures)
    (sym (ap (λ d. outcomes d (null_set c.args.nulls)) c.in-And.is ∙ outcomes-And (null_set c.args.nulls) c.in-And.a c.in-And.b c.in-And.more))

pub outcomes-returns-in-Or : goal.outcomes-returns-in-Or
outcomes-returns-in-Or t c =
    rw (c.any_outcomes.ensures, c.or.ensures, c.outcomes-first-in-Or.ensures, c.outcomes-second-in-Or.ensures, c.get-in-Or.ensures, c.get-in-Or-2.ensures, c.as_slice-in-Or.ensures)
    (sym (ap (λ d. outcomes d (null_set c.args.nulls)) c.in-Or.is ∙ outcomes-Or (null_set c.args.nulls) c.in-Or.a c.in-Or.b c.in-Or.more))

pub outcomes-returns-in-Exists : goal.outcomes-returns-in-Exists
outcomes-returns-in-Exists t c = c.known.ensures ∙ sym (ap (λ d. outcomes d (null_set c.args.nulls)) c.in-Exists.is ∙ outcomes-Exists (null_set c.args.nulls) c.in-Exists.field-0)

pub outcomes-returns-in-In : goal.outcomes-returns-in-In
outcomes-returns-in-In t c =
    rw (c.compared-in-In.ensures, c.is_nulled.ensures) (sym (ap (λ d. outcomes d (null_set c.args.nulls)) c.in-In.is ∙ outcomes-In (null_set c.args.nulls) c.in-In.a c.in-In.field-1 c.in-In.field-2))

pub all_outcomes-loop-condition-preserved : goal.all_outcomes-loop-condition-preserved
all_outcomes-loop-condition-preserved t c =
    let of : Condition → Truths = λ d. outcomes d (null_set c.args.nulls) in
    let i = c.loop-condition.condition-index in
    c.and-all.ensures
    ∙ ap (λ (A : Truths). of_and A c.outcomes.result) c.loop-condition.invariant
    ∙ ap (of_and (fold of_and c.args.first (map of (take i c.args.conditions.now)))) c.outcomes.ensures
    ∙ sym (fold-next of_and c.args.first of c.args.conditions.now i c.condition-item.result (omega arith) c.condition-item.is)

pub any_outcomes-loop-condition-preserved : goal.any_outcomes-loop-condition-preserved
any_outcomes-loop-condition-preserved t c =
    let of : Condition → Truths = λ d. outcomes d (null_set c.args.nulls) in
    let i = c.loop-condition.condition-index in
    c.or-any.ensures
    ∙ ap (λ (A : Truths). of_or A c.outcomes.result) c.loop-condition.invariant
    ∙ ap (of_or (fold of_or c.args.first (map of (take i c.args.conditions.now)))) c.outcomes.ensures
    ∙ sym (fold-next of_or c.args.first of c.args.conditions.now i c.condition-item.result (omega arith) c.condition-item.is)
