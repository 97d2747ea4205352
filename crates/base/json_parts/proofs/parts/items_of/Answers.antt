use Rattle.json_parts.proofs.Reading.{items_right}
use Rattle.json_parts.proofs.parts.items_of.Goals as goal

pub returns-in-Some : goal.returns-in-Some
returns-in-Some g c = rw c.as_slice.ensures.value (items_right _ _ _ c.in-Some.ensures)
