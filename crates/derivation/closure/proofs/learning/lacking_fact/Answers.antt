use Rattle.std.proofs.Common.{subst, List, ℕ}
use Rattle.std.specs.List.{AllByRecursion}
use Rattle.query.specs.declared.query.TableInstance.{TableInstance}
use Rattle.props.specs.Knowledge.{Knowledge, known}
use Rattle.rules.specs.Matches.{line_in}
use Rattle.closure.specs.Learnt.{HasColumn, LacksFact, LineTold}
use Rattle.closure.proofs.LackedFacts.{none_told, some_told, line_told}
use Rattle.closure.proofs.learning.lacking_fact.Goals as goal

pub returns-in-Some : goal.returns-in-Some
returns-in-Some c = subst (λ (K : Knowledge). LacksFact c.args.log.now.instances K (line_in c.args.line) c.in-Some.fact) c.classes-classes.ensures.known
    (subst (λ (instances : List TableInstance). LacksFact instances (known c.classes-classes.result) (line_in c.args.line) c.in-Some.fact) c.instances-instances.ensures c.in-Some.ensures)

pub returns-in-Some-2 : goal.returns-in-Some-2
returns-in-Some-2 c = subst (λ (K : Knowledge). LacksFact c.args.log.now.instances K (line_in c.args.line) c.in-Some-2.fact) c.classes-classes.ensures.known
    (subst (λ (instances : List TableInstance). LacksFact instances (known c.classes-classes.result) (line_in c.args.line) c.in-Some-2.fact) c.instances-instances.ensures
    (some_told c.instances-instances.result.now (known c.classes-classes.result) (line_in c.args.line) _ c.in_ok-fact.field-0 c.in-Some-2.fact c.in-Some-2.is c.in_ok-fact.ensures))

pub returns : goal.returns
returns c =
    let instances = c.instances-instances.result.now in
    let classes = known c.classes-classes.result in
    let line = line_in c.args.line in
    subst (λ (K : Knowledge). LineTold c.args.log.now.instances K line c.in_ok-found.found) c.classes-classes.ensures.known
    (subst (λ (instances : List TableInstance). LineTold instances classes line c.in_ok-found.found) c.instances-instances.ensures
    (line_told instances classes line c.in_ok-found.found
    (subst (λ (columns : List ℕ). AllByRecursion (HasColumn instances classes line) columns) c.columns_of-columns.ensures (none_told instances classes line _ c.lacking_column.result c.in_default.is c.lacking_column.ensures))
    (none_told instances classes line _ c.in_ok-fact.field-0 c.in_default-2.is c.in_ok-fact.ensures)
    c.in_ok-found.ensures))
