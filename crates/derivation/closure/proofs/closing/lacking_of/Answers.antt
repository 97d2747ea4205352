use Rattle.std.proofs.Common.{ap, sym, ◌∙◌, subst, List, option_map}
use Rattle.std.specs.List.{AllByRecursion}
use Rattle.book.specs.declared.names.RuleName.{RuleName}
use Rattle.book.specs.Book.{pattern_of}
use Rattle.rules.specs.Matches.{line_in}
use Rattle.closure.specs.Lacking.{BindingTold}
use Rattle.closure.specs.Lines.{HasResultsBy}
use Rattle.closure.proofs.Lacking.{at_line, no_line}
use Rattle.closure.proofs.closing.lacking_of.Goals as goal

pub returns : goal.returns
returns c = at_line c.args.log.now.instances c.args.log.now.log c.args.line c.in_ok-found.found
    (subst (λ (rules : List RuleName). BindingTold c.args.log.now.instances c.args.log.now.log (AllByRecursion (λ rule. HasResultsBy c.args.log.now.instances c.args.log.now.log rule c.args.line (pattern_of rule)) rules) c.in_ok-found.found) c.all.ensures c.in_ok-found.ensures)
