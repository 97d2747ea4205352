use Rattle.std.proofs.Common.{ap, sym, ◌∙◌, map, ℕ}
use Rattle.values.proofs.Lists.{filter-map}
use Rattle.algebra.specs.Bags.{Env}
use Rattle.algebra.specs.Conditions.{holds}
use Rattle.physical.specs.Outputs.{no_classes}
use Rattle.relations.specs.Relations.{env_of, numbered_env, numbers_of}
use Rattle.selections.proofs.filters.filtered.Goals as goal
use Rattle.index_access.proofs.Sorting.{reported}

pub returns : goal.returns
returns c =
    let e = env_of c.args.env.now in
    let row : ℕ → Env = numbered_env c.args.input e in
    reported c.chosen.result _ _ _ e c.chosen.ensures.columns (c.chosen.ensures.rows e)
    (ap (map row) (c.as_slice.ensures.value ∙ c.in_ok-kept.ensures) ∙ sym (filter-map (holds no_classes c.args.conditions.now) row (numbers_of c.args.input)))
