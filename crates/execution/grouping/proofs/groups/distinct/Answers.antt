use Rattle.std.proofs.Common.{ap, ◌∙◌, ℕ, List, map}
use Rattle.relations.specs.Relations.{numbered_env}
use Rattle.grouping.proofs.GroupEnvs.{distinct-rows}
use Rattle.grouping.proofs.groups.distinct.Goals as goal
use Rattle.index_access.proofs.Sorting.{reported}

pub returns : goal.returns
returns c = λ e.
    reported c.chosen.result _ _ _ e c.chosen.ensures.columns (c.chosen.ensures.rows e)
    (ap (λ (ns : List ℕ). map (numbered_env c.args.input e) ns) c.as_slice.ensures.value ∙ distinct-rows c.args.input c.in_ok-firsts.firsts.items e (c.in_ok-firsts.ensures e))
