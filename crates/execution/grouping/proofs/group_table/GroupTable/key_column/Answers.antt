use Rattle.std.proofs.Common.{◌≡◌, ◌<◌, ◌∙◌, ap, subst, false, List, IfOk, MatchOption, length, get_or, map}
use Rattle.values.specs.declared.value.Value.{Value}
use Rattle.relations.specs.MadeColumns.{made_values}
use Rattle.algebra.specs.Columns.{has}
use Rattle.grouping.specs.GroupTables.{keys_seen, row_key}
use Rattle.grouping.proofs.KeyPlaces.{placed-groups}
use Rattle.grouping.proofs.group_table.GroupTable.key_column.Goals as goal

pub returns : goal.returns
returns c = λ A row groups.
    let place = c.key_place.result in
    let at = subst (λ L. MatchOption place (has L c.args.column ≡ false) (λ p. (p < length L) × (get_or L p 0 ≡ c.args.column))) c.as_slice.ensures.columns c.key_place.ensures in
    subst (λ (vs : List Value). IfOk c.column.result (λ made. made_values made ≡ vs)) (placed-groups row c.args.keys.now c.args.column place c.args.self.now.count at) (c.column.ensures (length c.args.keys.now) (keys_seen (row_key row c.args.keys.now) c.args.self.now.count) groups.keys_are)
