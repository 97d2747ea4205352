use Rattle.std.proofs.Common.{ap, sym, ◌∙◌, map, option_map}
use Rattle.rules.specs.Matches.{line_in}
use Rattle.closure.proofs.Lacking.{disagreeing_there}
use Rattle.closure.proofs.pairs.disagreeing_with.Goals as goal

pub returns-in_ok-found-in-Some : goal.returns-in_ok-found-in-Some
returns-in_ok-found-in-Some c =
    disagreeing_there c.args.log.now.log (map (λ v. v.items) c.args.over.now) c.args.line (line_in c.in-Some.one) _ _ c.requires (sym c.member.ensures ∙ ap (option_map line_in) c.in-Some.is) c.in_ok-others-in-Some.ensures
    c.in_ok-found-in-Some.ensures
