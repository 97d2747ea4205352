use Rattle.std.proofs.Common.{ap, sym, ◌∙◌, option_map}
use Rattle.rules.specs.Matches.{line_in}
use Rattle.bindings.proofs.Founding.{result_behind}
use Rattle.bindings.proofs.result_laws.result_may_stand.Goals as goal

pub returns : goal.returns
returns c = result_behind c.args.log.now c.args.binding c.top.result (line_in c.in-Some.top) c.lines-lines.ensures.replays c.top.ensures
    (sym c.member.ensures ∙ ap (option_map line_in) c.in-Some.is) c.rises.ensures
