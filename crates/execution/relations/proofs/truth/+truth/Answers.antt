use Rattle.std.proofs.Common.{◌∙◌, refl, ap, sym, fold, map, take, arith}
use Rattle.values.specs.declared.truth.Truth.{Truth}
use Rattle.values.specs.Truth.{truth_of, conjunction, disjunction}
use Rattle.algebra.specs.declared.condition.Condition.{Condition}
use Rattle.algebra.specs.Conditions.{truth}
use Rattle.algebra.proofs.Truths.{truth-Compare, truth-IsNull, truth-Not, truth-And, truth-Or, truth-Exists, truth-In}
use Rattle.algebra.proofs.Lists.{fold-next}
use Rattle.relations.specs.Relations.{env_of}
use Rattle.relations.specs.Subqueries.{subqueries_given}
use Rattle.relations.proofs.truth.+truth.Goals as goal

pub truth-returns-in-IsNull : goal.truth-returns-in-IsNull
truth-returns-in-IsNull t c =
    let W = subqueries_given c.args.subqueries in
    let r = env_of c.args.env.now in
    c.from.ensures ∙ ap truth_of c.is_null.ensures ∙ sym (truth-IsNull c.in-IsNull.term W r) ∙ ap (λ d. truth d W r) (sym c.in-IsNull.is)

pub truth-returns-in-Compare : goal.truth-returns-in-Compare
truth-returns-in-Compare t c = cc (truth-Compare c.in-Compare.comparison c.in-Compare.a c.in-Compare.b (subqueries_given c.args.subqueries) (env_of c.args.env.now))

pub truth-returns-in-Not : goal.truth-returns-in-Not
truth-returns-in-Not t c = cc (truth-Not c.in-Not.part (subqueries_given c.args.subqueries) (env_of c.args.env.now))

pub truth-returns-in-And : goal.truth-returns-in-And
truth-returns-in-And t c =
    let W = subqueries_given c.args.subqueries in
    let r = env_of c.args.env.now in
    rw (c.all.ensures, c.and.ensures, c.truth-first.ensures, c.truth-second.ensures, c.get-in-And.ensures, c.get-in-And-2.ensures, c.as_slice.ensures, c.in-And.is, truth-And c.in-And.a c.in-And.b c.in-And.more W r) refl

pub truth-returns-in-Or : goal.truth-returns-in-Or
truth-returns-in-Or t c =
    let W = subqueries_given c.args.subqueries in
    let r = env_of c.args.env.now in
    rw (c.any.ensures, c.or.ensures, c.truth-first-in-Or.ensures, c.truth-second-in-Or.ensures, c.get-in-Or.ensures, c.get-in-Or-2.ensures, c.as_slice-in-Or.ensures, c.in-Or.is, truth-Or c.in-Or.a c.in-Or.b c.in-Or.more W r) refl

pub truth-returns-in-Exists : goal.truth-returns-in-Exists
truth-returns-in-Exists t c =
    let W = subqueries_given c.args.subqueries in
    let r = env_of c.args.env.now in
    c.from-in-Exists.ensures ∙ ap truth_of (c.has_row.ensures r) ∙ sym (truth-Exists c.in-Exists.class W r) ∙ ap (λ d. truth d W r) (sym c.in-Exists.is)

pub truth-returns-in-In : goal.truth-returns-in-In
truth-returns-in-In t c =
    let W = subqueries_given c.args.subqueries in
    let r = env_of c.args.env.now in
    c.has_term.ensures ∙ sym (truth-In c.in-In.term c.in-In.class c.in-In.column W r) ∙ ap (λ d. truth d W r) (sym c.in-In.is)

pub all-loop-condition-preserved : goal.all-loop-condition-preserved
all-loop-condition-preserved t c =
    let true_of : Condition → Truth = λ d. truth d (subqueries_given c.args.subqueries) (env_of c.args.env.now) in
    let i = c.loop-condition.condition-index in
    c.and-all.ensures
    ∙ ap (λ (a : Truth). conjunction a c.truth.result) c.loop-condition.invariant
    ∙ ap (conjunction (fold conjunction c.args.first (map true_of (take i c.args.conditions.now)))) c.truth.ensures
    ∙ sym (fold-next conjunction c.args.first true_of c.args.conditions.now i c.condition-item.result (omega arith) c.condition-item.is)

pub any-loop-condition-preserved : goal.any-loop-condition-preserved
any-loop-condition-preserved t c =
    let true_of : Condition → Truth = λ d. truth d (subqueries_given c.args.subqueries) (env_of c.args.env.now) in
    let i = c.loop-condition.condition-index in
    c.or-any.ensures
    ∙ ap (λ (a : Truth). disjunction a c.truth.result) c.loop-condition.invariant
    ∙ ap (disjunction (fold disjunction c.args.first (map true_of (take i c.args.conditions.now)))) c.truth.ensures
    ∙ sym (fold-next disjunction c.args.first true_of c.args.conditions.now i c.condition-item.result (omega arith) c.condition-item.is)
