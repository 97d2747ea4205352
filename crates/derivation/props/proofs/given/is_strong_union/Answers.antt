use Rattle.std.proofs.Common.{ap, ◌∙◌, ◌++◌}
use Rattle.std.specs.List.{list_any}
use Rattle.algebra.specs.Columns.{is_same_set}
use Rattle.props.specs.Knowledge.{known}
use Rattle.props.proofs.given.is_strong_union.Goals as goal

pub returns : goal.returns
returns c =
    let key = c.args.key.now in
    c.is_union.ensures ∙ c.strong_keys.ensures (λ one. list_any (λ other. is_same_set key (one ++ other.items)) c.strong_keys-2.result.now)
    ∙ ap (λ p. list_any p ((known c.args.classes).facts c.args.left).strong_keys) (λ i one. c.strong_keys-2.ensures (λ other. is_same_set key (one ++ other)) i)
