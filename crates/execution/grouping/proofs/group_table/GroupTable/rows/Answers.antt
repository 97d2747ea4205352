use Rattle.std.proofs.Common.{◌≡◌, ap, sym, subst, ◌∙◌, ℕ, List, [], ◌∷◌, filter, length, map}
use Rattle.std.specs.List.{AllByRecursion, range_with_len}
use Rattle.std.proofs.lemmas.List.{length-map}
use Rattle.schema.specs.Databases.{Row}
use Rattle.algebra.specs.Bags.{Env, nulls}
use Rattle.relations.proofs.RelationRows.{made-even}
use Rattle.grouping.specs.declared.groups.Grouping.{Grouping}
use Rattle.grouping.specs.declared.group_table.GroupTable.{GroupTable}
use Rattle.grouping.specs.Groups.{GroupOf, first_seen, group_env, row_group_envs}
use Rattle.grouping.specs.GroupTables.{HasGroups, groups_seen, keys_seen, row_key, same_key}
use Rattle.grouping.proofs.Zips.{zip-length}
use Rattle.grouping.proofs.group_table.GroupTable.rows.Goals as goal

-- there are as many groups as keys
many-groups : (g : Grouping) (row : ℕ → Env) (t : GroupTable) → HasGroups g.keys.now g.added.now row t → length (row_group_envs g row nulls (groups_seen (row_key row g.keys.now) t.count)) ≡ length (keys_seen (row_key row g.keys.now) t.count)
many-groups g row t groups =
    let key : ℕ → Row = row_key row g.keys.now in
    let firsts : List ℕ = first_seen (same_key key) (range_with_len 0 t.count) in
    length-map (groups_seen key t.count) (λ (group : GroupOf ℕ). group_env g (map row group.rows) (row group.first) nulls)
    ∙ length-map firsts (λ n. record { first = n; rows = filter (same_key key n) (range_with_len 0 t.count) })
    ∙ sym (length-map firsts key)

pub parts-requires : goal.parts-requires
parts-requires c = zip-length _ c.args.grouping.added.now c.args.self.now.running.items c.requires.1.held

pub made-requires : goal.made-requires
made-requires c =
    let g = c.args.grouping in
    let row = c.requires.0 in
    let made : List Env = row_group_envs g row nulls (groups_seen (row_key row g.keys.now) c.args.self.now.count) in
    let parts = c.in_ok-parts.ensures row c.requires.1 in
    let many : length made ≡ c.len.result = many-groups g row c.args.self.now c.requires.1 ∙ sym (c.len.ensures (length g.keys.now) (keys_seen (row_key row g.keys.now) c.args.self.now.count) c.requires.1.keys_are) in
    record {
      even = subst (AllByRecursion (λ (part : List Row). length part ≡ c.len.result)) (sym parts) (made-even _ made c.len.result many);
      each = ap length parts ∙ length-map _ (λ k. map (λ (f : Env). f k ∷ []) made) ∙ ap length c.as_slice.ensures.columns;
    }

pub returns : goal.returns
returns c = λ row groups.
    let g = c.args.grouping in
    let made : List Env = row_group_envs g row nulls (groups_seen (row_key row g.keys.now) c.args.self.now.count) in
    c.made.ensures made nulls (many-groups g row c.args.self.now groups ∙ sym (c.len.ensures (length g.keys.now) (keys_seen (row_key row g.keys.now) c.args.self.now.count) groups.keys_are)) (c.in_ok-parts.ensures row groups ∙ ap (map (λ k. map (λ (f : Env). f k ∷ []) made)) c.as_slice.ensures.columns)
