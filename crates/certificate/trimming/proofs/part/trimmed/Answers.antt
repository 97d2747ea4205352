use Rattle.std.proofs.Common.{subst}
use Rattle.trimming.specs.Kept.{IsKept, number_in}
use Rattle.trimming.proofs.part.trimmed.Goals as goal

pub returns : goal.returns
returns c =
    let kept = c.in_ok-kept.kept in
    let number = number_in kept.numbers.items in
    record {
      lines = record {
        kept = kept.lines.items;
        number = number;
        in_order = subst (λ count. IsKept count kept.lines.items number) c.len.ensures c.in_ok-kept.ensures;
        part = c.in_ok-lines.ensures;
      };
      same_plan = c.in_ok-plan.ensures;
    }
