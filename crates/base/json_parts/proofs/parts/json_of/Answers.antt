use Rattle.std.proofs.Common.{rules}
use Rattle.json_parts.proofs.Reading.{json_ok, json_err}
use Rattle.json_parts.proofs.parts.json_of.Goals as goal

pub returns-in-Ok : goal.returns-in-Ok
returns-in-Ok g c = json_ok _ _ _ c.in-Ok.ensures.ok.0 c.in-Ok.ensures.ok.1

pub returns-else-is_memory : goal.returns-else-is_memory
returns-else-is_memory g c = json_err _ _ (c.in-Err.ensures.err (search rules))
