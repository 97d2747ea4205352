use Rattle.std.proofs.Common.{ap, sym, ◌∙◌, reverse}
use Rattle.std.specs.List.{list_all}
use Rattle.derivation.specs.Logs.{founds}
use Rattle.logs.proofs.LogLines.{pass-inputs}
use Rattle.logs.proofs.lookups.is_known.Goals as goal

pub returns : goal.returns
returns c =
    let passes = founds (reverse c.args.lines.now) in
    c.are_founded.ensures ∙ ap (list_all passes) (c.as_slice.ensures.value ∙ c.in_ok-classes.ensures) ∙ sym (pass-inputs passes c.args.expr.now)
