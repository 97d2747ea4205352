use Rattle.std.proofs.Common.{ap, sym, ◌∙◌, ℕ, filter, map, take, arith}
use Rattle.std.proofs.lemmas.List.{take_all}
use mathlib.Core.List.{map-map}
use Rattle.values.specs.declared.value.Value.{Value}
use Rattle.algebra.specs.Columns.{has}
use Rattle.algebra.specs.Bags.{lay}
use Rattle.grouping.specs.Groups.{GroupOf, first_seen, same_at}
use Rattle.relations.specs.Relations.{env_of, numbered_env, numbers_of}
use Rattle.grouping.specs.RowNumbers.{numbers_in}
use Rattle.grouping.proofs.groups.first_column.Goals as goal

pub returns : goal.returns
returns c =
    let g = c.args.groups.now in
    let e = env_of c.args.env.now in
    let same = same_at g.places.items g.input.now.rows in
    let numbers = numbers_of g.input.now in
    let value : ℕ → Value = λ n. lay (has c.args.grouping.keys.now) (numbered_env g.input.now e n) e c.args.column in
    c.loop-group.invariant ∙ ap (λ f. map f (take c.loop-group.group (numbers_in g.firsts))) (λ i n. c.key_column-values.ensures n i)
    ∙ ap (map value) (take_all c.loop-group.group (numbers_in g.firsts) (omega arith) ∙ g.seen)
    ∙ sym (map-map (λ (group : GroupOf ℕ). value group.first) (λ n. record { first = n; rows = filter (same n) numbers }) (first_seen same numbers))
