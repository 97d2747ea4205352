use Rattle.std.proofs.Common.{◌≡◌, ap, sym, ◌∙◌, subst, List, map}
use Rattle.std.proofs.lemmas.Result.{IfOk-weaker}
use Rattle.relations.specs.declared.headings.Place.{Place}
use Rattle.relations.specs.declared.relation.Relation.{Relation}
use Rattle.grouping.specs.Groups.{StandTogether, first_seen, same_at}
use Rattle.relations.specs.Relations.{column_places, numbered_env, numbers_of}
use Rattle.grouping.proofs.GroupEnvs.{distinct-envs}
use Rattle.grouping.proofs.groups.distinct_numbers.Goals as goal

pub returns : goal.returns
returns c = λ e.
    let input = c.args.input.now in
    let h = input.heading in
    let groups = c.in_ok-groups.groups in
    let places : groups.places.items ≡ column_places h h.columns = c.in_ok-groups.ensures.places ∙ c.in_ok-places.ensures ∙ ap (column_places h) c.as_slice.ensures.columns in
    IfOk-weaker c.into_firsts.result _ _ (λ firsts is. ap (map (numbered_env input e)) (is ∙ groups.seen ∙ ap (λ (r : Relation). first_seen (same_at groups.places.items r.rows) (numbers_of r)) c.in_ok-groups.ensures.input
    ∙ ap (λ (ps : List Place). first_seen (same_at ps input.rows) (numbers_of input)) places)
    ∙ sym (distinct-envs input e h.columns)) c.into_firsts.ensures

pub new-requires : goal.new-requires
new-requires c = λ sorted.
    let input = c.args.input.now in
    subst (λ (ps : List Place). StandTogether (same_at ps input.rows) input.rows.count) (sym (c.in_ok-places.ensures ∙ ap (column_places input.heading) c.as_slice.ensures.columns)) (c.requires sorted)
