use Rattle.std.proofs.Common.{List, ap, sym, subst, ◌∙◌, option_map}
use Rattle.algebra.specs.Columns.{columns_at}
use Rattle.rules.specs.Matches.{line_in}
use Rattle.physical.specs.declared.plan.Node.{Node}
use Rattle.labels.specs.Candidates.{line_holds}
use Rattle.labels.specs.Nodes.{Adds, HasNodes}
use Rattle.labels.proofs.NodeLists.{all-fit, each-node, if_fits, no-nodes}
use Rattle.labels.proofs.nodes.nodes_of.Goals as goal

pub returns-in_default-clause-each : goal.returns-in_default-clause-each
returns-in_default-clause-each c =
    let L = c.args.derived.log.now in
    subst (λ (nodes : List Node). HasNodes L.instances L.log (columns_at c.args.derived.columns.now) c.args.line nodes) (sym c.new-nodes.ensures.items)
    (no-nodes L.instances L.log (columns_at c.args.derived.columns.now) c.args.accesses.now c.args.line (sym c.member.ensures ∙ ap (option_map line_in) c.in_default.is))

pub returns-clause-each : goal.returns-clause-each
returns-clause-each c =
    let L = c.args.derived.log.now in
    let cols = columns_at c.args.derived.columns.now in
    let list = c.args.accesses.now in
    let line = c.args.line in
    let l = line_in c.in-Some.member in
    let there = sym c.member.ensures ∙ ap (option_map line_in) c.in-Some.is in
    let nodes = c.push_nodes.new.nodes.items in
    each-node L.instances L.log cols list line l there nodes c.requires
    (subst (λ (old : List Node). Adds old nodes (λ p. line_holds (if_fits L.instances L.log cols list line l there p) L.log list line l.expr)) c.new-nodes.ensures.items c.in_ok-push_nodes.ensures)

pub returns-clause-fit : goal.returns-clause-fit
returns-clause-fit c =
    let L = c.args.derived.log.now in
    let cols = columns_at c.args.derived.columns.now in
    let list = c.args.accesses.now in
    let line = c.args.line in
    let l = line_in c.in-Some.member in
    let there = sym c.member.ensures ∙ ap (option_map line_in) c.in-Some.is in
    let nodes = c.push_nodes.new.nodes.items in
    all-fit L.instances L.log cols list line l there nodes
    (subst (λ (old : List Node). Adds old nodes (λ p. line_holds (if_fits L.instances L.log cols list line l there p) L.log list line l.expr)) c.new-nodes.ensures.items c.in_ok-push_nodes.ensures)
