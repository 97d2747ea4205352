use Rattle.serde_json.proofs.Views.{view-Object}
use Rattle.statistics_text.proofs.Parts.{index_within}
use Rattle.statistics_text.proofs.entries.index_value.Goals as goal

pub returns : goal.returns
returns c = rw (view-Object c.put-2.new.map, c.in_ok-put-2.ensures.ok, c.in_ok-put.ensures.ok, c.new-members.ensures.empty, c.from.ensures, c.from-2.ensures) (index_within c.args.index.now)
