use Rattle.std.proofs.Common.{◌≡◌, ◌++◌, ap, sym, ◌∙◌, List, reverse, None}
use Rattle.std.specs.List.{slice_get}
use Rattle.std.specs.Option.{option_map, option_to_list}
use Rattle.std.proofs.lemmas.List.{append-nil, reverse-reverse}
use Rattle.std.proofs.lemmas.Option.{slice_get_past}
use Rattle.derivation.specs.declared.line.Line.{Line}
use Rattle.trimming.specs.Kept.{number_in}
use Rattle.trimming.specs.Renumbered.{renumbered_line}
use Rattle.trimming.proofs.part.push_line.Goals as goal

pub returns-in_default : goal.returns-in_default
returns-in_default c =
    let none : slice_get (reverse c.args.log.now.log) c.args.number ≡ None =
    ap (λ (lines : List Line). slice_get lines c.args.number) (ap (λ (log : List Line). reverse log) (sym c.lines.ensures.lines) ∙ reverse-reverse c.lines.result.now) ∙ slice_get_past c.lines.result.now c.args.number c.in_default.ensures.lookup.3 in
    sym (ap (λ line. c.args.renumbered.now ++ option_to_list (option_map (renumbered_line (number_in c.args.kept.now.numbers.items) c.args.log.now.log) line)) none ∙ append-nil c.args.renumbered.now)
