use Rattle.std.proofs.Common.{◌∙◌, [], ◌∷◌}
use mathlib.Core.List.{map-map}
use Rattle.values.specs.declared.value.Value.{Value}
use Rattle.values.specs.Cells.{value_of}
use Rattle.relations.proofs.parts.Part.made.Goals as goal

pub returns : goal.returns
returns c = c.of_column.ensures ∙ map-map (λ (v : Value). v ∷ []) value_of c.args.cells.items
