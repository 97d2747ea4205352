use Rattle.std.proofs.Common.{rules, ◌≡◌, ◌++◌, ap, sym, ◌∙◌}
use Rattle.algebra.specs.Columns.{rising}
use Rattle.algebra.proofs.Sets.{rising-moved}
use Rattle.algebra.proofs.columns.Columns.union.Goals as goal

pub returns : goal.returns
returns c =
    let all : c.extend_from_slice-2.new.self.items ≡ c.args.self.now ++ c.args.other.now = search rules in
    c.from_vec.ensures ∙ sym (rising-moved _ _ c.sort.ensures.permutation) ∙ ap rising all
