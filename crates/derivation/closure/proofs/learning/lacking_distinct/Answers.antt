use Rattle.std.proofs.Common.{subst, List, ℕ, append-nil, ◌∙◌}
use Rattle.algebra.specs.Columns.{is_same_set}
use Rattle.props.specs.Knowledge.{known}
use Rattle.rules.specs.Matches.{line_in}
use Rattle.closure.specs.Learnt.{is_key, KeysTold}
use Rattle.closure.proofs.LackedFacts.{none_told, told_also}
use Rattle.closure.proofs.learning.lacking_distinct.Goals as goal

pub returns : goal.returns
returns c = told_also c.args.instances.now (known c.args.classes) (line_in c.args.line) (is_key (known c.args.classes) c.args.class) (λ L. is_same_set L ((known c.args.classes).columns c.args.class)) c.in_ok-found.found
    (none_told c.args.instances.now (known c.args.classes) (line_in c.args.line) _ c.in_ok-fact.field-0 c.in_default.is c.in_ok-fact.ensures)
    (subst (λ (columns : List ℕ). KeysTold c.args.instances.now (known c.args.classes) (line_in c.args.line) (λ L. is_same_set L columns) c.in_ok-found.found) (append-nil _ ∙ c.columns_of-columns.ensures) c.in_ok-found.ensures)
