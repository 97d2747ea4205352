use Rattle.std.proofs.Common.{}
use Rattle.algebra.specs.Columns.{columns_at}
use Rattle.winners.proofs.Standing.{fit_more, fits-moved, front_more, line_more, nodes-moved}
use Rattle.winners.proofs.nodes.push_line.Goals as goal

pub returns-clause-fit : goal.returns-clause-fit
returns-clause-fit c =
    let log = c.args.derived.log.now in
    let cols = columns_at c.args.derived.columns.now in
    let own = c.put_in_turn.new.nodes.items in
    let fits = fits-moved log.instances log.log cols c.args.line c.in_ok-own.own.items own c.put_in_turn.ensures c.in_ok-own.ensures.fit in
    fit_more log.instances log.log cols c.args.line c.args.nodes.now.items own c.append.new.self.items c.in_ok-append.ensures.items c.requires.fit fits

pub returns-clause-before : goal.returns-clause-before
returns-clause-before c =
    let log = c.args.derived.log.now in
    front_more log.instances log.log (columns_at c.args.derived.columns.now) c.args.line c.args.nodes.now.items c.put_in_turn.new.nodes.items c.append.new.self.items c.in_ok-append.ensures.items

pub returns-clause-line : goal.returns-clause-line
returns-clause-line c =
    let log = c.args.derived.log.now in
    let cols = columns_at c.args.derived.columns.now in
    let own = c.put_in_turn.new.nodes.items in
    let has = nodes-moved log.instances log.log cols c.args.line c.in_ok-own.own.items own c.put_in_turn.ensures c.in_ok-own.ensures.each in
    line_more log.instances log.log cols c.args.line c.args.nodes.now.items own c.append.new.self.items c.in_ok-append.ensures.items has
