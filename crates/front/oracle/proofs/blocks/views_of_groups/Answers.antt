use Rattle.std.proofs.Common.{◌≡◌, ◌∙◌, ap, sym, subst, ℕ, List, [], ◌∷◌, ◌++◌, map, filter, take, arith}
use Rattle.std.proofs.lemmas.List.{take_all, map_push}
use Rattle.values.proofs.Each.{all_filter}
use Rattle.values.proofs.Lists.{map_next}
use Rattle.schema.specs.Databases.{Row, values_at}
use Rattle.query.specs.Rows.{same_rows}
use Rattle.query.specs.Aggregates.{Group, AreShort, group_of, groups}
use Rattle.oracle.specs.declared.blocks.View.{View}
use Rattle.oracle.specs.Given.{env_of, rows_at}
use Rattle.oracle.specs.Views.{view_of_group}
use Rattle.oracle.proofs.blocks.views_of_groups.Goals as goal

pub loop-key-preserved : goal.loop-key-preserved
loop-key-preserved c =
    let group : Row → Group = group_of c.args.block.now.keys c.args.source.now in
    let view : Group → View = view_of_group c.args.block.now (env_of c.args.env.now) in
    let done : List Row = take c.loop-key.key-index c.as_slice-key-items.result.now in
    let key : Row = c.key-item.result in
    let same : rows_at c.as_slice-in-loop-key-2.result.now ≡ filter (λ r. same_rows key (values_at c.args.block.now.keys r)) c.args.source.now =
    ap rows_at c.as_slice-in-loop-key-2.ensures.value ∙ c.in_ok-members.ensures
    ∙ ap (λ k. filter (λ r. same_rows k (values_at c.as_slice-keys.result.now r)) c.args.source.now) c.as_slice.ensures ∙ ap (λ (ks : List ℕ). filter (λ r. same_rows key (values_at ks r)) c.args.source.now) c.as_slice-keys.ensures in
    let is : c.in_ok-view.view ≡ view (group key) =
    c.in_ok-view.ensures
    ∙ ap (λ k. view (record { key = k; rows = rows_at c.as_slice-in-loop-key-2.result.now })) c.as_slice-in-loop-key.ensures
    ∙ ap (λ (rows : List Row). view (record { key = key; rows = rows })) same in
    c.in_ok-push.ensures.items
    ∙ ap (λ (l : List View). l ++ c.in_ok-view.view ∷ []) c.loop-key.invariant
    ∙ ap (λ (v : View). map view (map group done) ++ v ∷ []) is
    ∙ sym (ap (map view) (map_next group c.as_slice-key-items.result.now c.loop-key.key-index key (omega arith) c.key-item.is) ∙ map_push view (map group done) (group key))

pub view_of_group-requires : goal.view_of_group-requires
view_of_group-requires c =
    let is = ap rows_at c.as_slice-in-loop-key-2.ensures.value ∙ c.in_ok-members.ensures in
    subst AreShort (sym is) (all_filter _ (λ r. same_rows c.as_slice.result.now (values_at c.as_slice-keys.result.now r)) c.args.source.now c.requires)

pub returns : goal.returns
returns c =
    let group : Row → Group = group_of c.args.block.now.keys c.args.source.now in
    let view : Group → View = view_of_group c.args.block.now (env_of c.args.env.now) in
    c.loop-key.invariant
    ∙ ap (λ (keys : List Row). map view (map group keys)) (take_all c.loop-key.key-index c.as_slice-key-items.result.now (omega arith) ∙ c.as_slice-key-items.ensures.value)
    ∙ ap (map view) (subst (λ (ks : List ℕ). map (group_of ks c.args.source.now) c.in_ok-group_keys.group_keys.items ≡ groups ks c.args.source.now) c.as_slice-keys.ensures c.in_ok-group_keys.ensures)
