use Rattle.std.proofs.Common.{sym, subst, List}
use Rattle.relations.specs.declared.headings.Place.{Place}
use Rattle.grouping.specs.Groups.{StandTogether, same_at}
use Rattle.grouping.proofs.row_groups.Groups.new.Goals as goal

pub numbered-requires : goal.numbered-requires
numbered-requires c = λ sorted. subst (λ (ps : List Place). StandTogether (same_at ps c.args.input.now.rows) c.args.input.now.rows.count) (sym c.as_slice.ensures.value) (c.requires sorted)
