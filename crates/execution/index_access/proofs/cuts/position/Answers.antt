use Rattle.std.proofs.Common.{ℕ, map, rules}
use Rattle.std.proofs.lemmas.List.Sorted.{IsPartitionPoint-from_clause}
use Rattle.algebra.specs.Bags.{Env}
use Rattle.relations.specs.Relations.{env_of, numbered_env}
use Rattle.index_access.specs.Cuts.{is_before, key_value}
use Rattle.index_access.proofs.CutOrders.{cut_partitions}
use Rattle.index_access.proofs.cuts.position.Goals as goal

pub returns-clause-parts : goal.returns-clause-parts
returns-clause-parts c =
    let row : ℕ → Env = numbered_env c.args.rows.relation.now (env_of c.args.rows.env.now) in
    let cut = c.args.cut.now in
    let columns = c.args.columns.now in
    IsPartitionPoint-from_clause (λ n. is_before cut columns (row n)) c.args.numbers.now c.partition_point.result c.partition_point.ensures.partitioned
    (cut_partitions row cut.behind columns (map key_value cut.key.items) c.args.numbers.now c.requires) (λ a r f' k. search rules)
