use Rattle.std.proofs.Common.{ap, ◌∙◌, ℕ, List, [], ◌∷◌, ◌++◌, length, map, arith}
use Rattle.algebra.specs.Columns.{has, rising}
use Rattle.algebra.specs.Bags.{lay, group}
use Rattle.algebra.specs.Expressions.{with_aggregates}
use Rattle.relations.specs.Relations.{env_of, rows_of}
use Rattle.grouping.proofs.GroupEnvs.{group-laid, no-keys}
use Rattle.joins.proofs.Outputs.{restated}
use Rattle.grouping.proofs.groups.grouped.Goals as goal

pub returns-in_ok-totals : goal.returns-in_ok-totals
returns-in_ok-totals c =
    let K = c.args.keys.now in
    let A = c.args.added.now in
    let e = env_of c.args.env.now in
    let x = rows_of c.args.input.now in
    restated c.row.result _ _ _ _ e c.in_ok-columns.ensures
    (ap (λ (L : List ℕ). map (λ f. lay (has L) f e) (with_aggregates A (x e) e ∷ [])) c.in_ok-columns.ensures
    ∙ ap (map (λ f. lay (has (rising (K ++ _))) f e)) (no-keys K (with_aggregates A) x e (omega (arith, c.if-as_slice-eq0.true, ap length c.as_slice.ensures.columns))) ∙ group-laid K A x e)
    (c.row.ensures (x e) c.add.ensures)

pub returns-else-as_slice-eq0 : goal.returns-else-as_slice-eq0
returns-else-as_slice-eq0 c =
    let K = c.args.keys.now in
    let A = c.args.added.now in
    let e = env_of c.args.env.now in
    let x = rows_of c.args.input.now in
    restated c.rows_of_groups.result _ _ _ _ e c.in_ok-columns.ensures
    (ap (λ (L : List ℕ). map (λ f. lay (has L) f e) (group K (with_aggregates A) x e)) c.in_ok-columns.ensures ∙ group-laid K A x e)
    c.rows_of_groups.ensures

pub rows_of_groups-requires : goal.rows_of_groups-requires
rows_of_groups-requires c = record { read = c.requires.read; together = c.requires.together; keyed = omega (arith, c.if-as_slice-eq0.false, ap length c.as_slice.ensures.columns) }

pub add-requires : goal.add-requires
add-requires c = (λ fits. omega (arith, fits), (c.requires.read, c.in_ok-totals.ensures))

pub row-requires : goal.row-requires
row-requires c = (rows_of c.args.input.now (env_of c.args.env.now), c.add.ensures)
