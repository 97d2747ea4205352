use Rattle.serde_json.proofs.Views.{view-Object}
use Rattle.statistics_text.proofs.Parts.{column_within}
use Rattle.statistics_text.proofs.entries.column_value.Goals as goal

pub returns : goal.returns
returns c = rw (view-Object c.put.new.map, c.in_ok-put.ensures.ok, c.new-members.ensures.empty, c.from.ensures) (column_within c.args.keys)
