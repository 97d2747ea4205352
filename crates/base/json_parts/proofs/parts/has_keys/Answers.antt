use Rattle.std.proofs.Common.{sym, ◌∙◌}
use Rattle.json_parts.proofs.Reading.{keys_right, keys_wrong}
use Rattle.json_parts.proofs.parts.has_keys.Goals as goal

pub returns-then-len-count : goal.returns-then-len-count
returns-then-len-count g c = keys_wrong _ c.args.count _ _ c.in-Some.ensures (λ e. c.if-len-count.true (c.len.ensures.len ∙ e))

pub returns : goal.returns
returns g c = keys_right _ c.args.count _ _ c.in-Some.ensures (sym c.len.ensures.len ∙ c.if-len-count.false)
