use Rattle.std.proofs.Common.{◌≡◌, ◌∙◌, ap, [], ◌∷◌, length, map, rules}
use Rattle.query.specs.Aggregates.{group_of}
use Rattle.oracle.proofs.Grouping.{one-group}
use Rattle.oracle.proofs.blocks.group_keys.Goals as goal

pub returns-then-is_empty : goal.returns-then-is_empty
returns-then-is_empty c =
    let none : length c.args.keys.now ≡ 0 = search rules in
    let one : c.push.new.self.items ≡ [] ∷ [] = search rules in
    ap (map (group_of c.args.keys.now c.args.source.now)) one ∙ one-group c.args.keys.now c.args.source.now none
