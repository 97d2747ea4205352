use Rattle.std.proofs.Common.{◌∙◌, ap, map, ℕ}
use Rattle.algebra.specs.Conditions.{holds}
use Rattle.algebra.specs.Bags.{Env}
use Rattle.physical.specs.Outputs.{no_classes}
use Rattle.relations.specs.Relations.{env_of, numbered_env, numbers_of}
use Rattle.index_access.proofs.Sorting.{reported, rows_by_index}
use Rattle.index_access.proofs.lookup.found_by_index.Goals as goal

pub returns : goal.returns
returns c =
    let e = env_of c.args.env.now in
    let row : ℕ → Env = numbered_env c.args.relation e in
    reported c.chosen.result _ _ _ e c.chosen.ensures.columns (c.chosen.ensures.rows e)
    (ap (map row) (c.as_slice.ensures.value ∙ c.in_ok-kept.ensures) ∙ rows_by_index row c.args.columns.now (holds no_classes c.args.conditions.now) (numbers_of c.args.relation))
