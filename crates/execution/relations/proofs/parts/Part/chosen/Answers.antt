use Rattle.std.proofs.Common.{ap, sym, ◌∙◌, List, [], get_or, map}
use Rattle.schema.specs.Databases.{Row}
use Rattle.relations.specs.Parts.{source_rows}
use Rattle.relations.proofs.parts.Part.chosen.Goals as goal

pub returns : goal.returns
returns c = c.in_ok-numbers.ensures (source_rows c.self.inside.source) (sym c.len.ensures) ∙ ap (λ (rows : List Row). map (λ n. get_or rows n []) c.args.numbers.now) c.self.view_is
