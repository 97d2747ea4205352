use Rattle.std.proofs.Common.{◌≡◌, refl, ap, sym, subst, ◌∙◌, List, [], ◌∷◌, length, map, arith}
use Rattle.std.specs.List.{AllByRecursion}
use Rattle.std.proofs.lemmas.List.{length-map}
use Rattle.schema.specs.Databases.{Row}
use Rattle.algebra.specs.Columns.{has}
use Rattle.algebra.specs.Bags.{Env, lay, group}
use Rattle.algebra.specs.Expressions.{with_aggregates}
use Rattle.physical.specs.Origins.{AreReadable}
use Rattle.relations.specs.declared.headings.Place.{Place}
use Rattle.relations.specs.declared.relation.Relation.{Relation}
use Rattle.grouping.specs.Grouped.{groups_in}
use Rattle.grouping.specs.Groups.{StandTogether, group_envs, placed_groups, same_at}
use Rattle.relations.specs.Relations.{column_places, env_of, rows_of}
use Rattle.grouping.proofs.GroupEnvs.{group-rows, groups-many}
use Rattle.joins.proofs.Outputs.{restated}
use Rattle.relations.proofs.RelationRows.{made-even}
use Rattle.grouping.proofs.groups.rows_of_groups.Goals as goal

pub group_parts-requires : goal.group_parts-requires
group_parts-requires c = subst (λ (r : Relation). AreReadable c.args.grouping.added.now (rows_of r (env_of c.args.env.now))) (sym c.in_ok-groups.ensures.input) c.requires.read

pub made-requires : goal.made-requires
made-requires c =
    let G = c.in_ok-groups.groups in
    let e = env_of c.args.env.now in
    let made : List Env = group_envs c.args.grouping G.input.now e (groups_in G) in
    let many : length made ≡ c.len.result = groups-many c.args.grouping G e ∙ omega (arith, c.len.ensures) in
    record {
      even = subst (AllByRecursion (λ (part : List Row). length part ≡ c.len.result)) (sym c.in_ok-parts.ensures) (made-even _ made c.len.result many);
      each = ap length c.in_ok-parts.ensures ∙ length-map _ (λ k. map (λ (f : Env). f k ∷ []) made) ∙ ap length c.as_slice-2.ensures.columns;
    }

pub returns : goal.returns
returns c =
    let G = c.in_ok-groups.groups in
    let g = c.args.grouping in
    let input = c.args.input.now in
    let e = env_of c.args.env.now in
    let K = g.keys.now in
    let made : List Env = group_envs g G.input.now e (groups_in G) in
    let many : length made ≡ c.len.result = groups-many g G e ∙ omega (arith, c.len.ensures) in
    let places : G.places.items ≡ column_places input.heading K = c.in_ok-groups.ensures.places ∙ c.in_ok-places.ensures ∙ ap (column_places input.heading) c.as_slice.ensures.columns in
    let is : made ≡ group K (with_aggregates g.added.now) (rows_of input) e =
    ap (λ (r : Relation). group_envs g r e (placed_groups G.places.items r)) c.in_ok-groups.ensures.input ∙ ap (λ (ps : List Place). group_envs g input e (placed_groups ps input)) places ∙ group-rows g input e c.requires.keyed in
    restated c.made.result _ _ _ _ e refl (ap (map (λ f. lay (has c.args.columns) f e)) is)
    (c.made.ensures made e many (c.in_ok-parts.ensures ∙ ap (map (λ k. map (λ (f : Env). f k ∷ []) made)) c.as_slice-2.ensures.columns))

pub new-requires : goal.new-requires
new-requires c = λ sorted.
    let input = c.args.input.now in
    subst (λ (ps : List Place). StandTogether (same_at ps input.rows) input.rows.count) (sym (c.in_ok-places.ensures ∙ ap (column_places input.heading) c.as_slice.ensures.columns)) (c.requires.together sorted)
