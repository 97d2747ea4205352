use Rattle.std.proofs.Common.{◌≡◌, ap, ◌∙◌, ℕ, ◌+◌, ◌-◌, Bool, List, ◌++◌, filter, arith}
use Rattle.std.specs.List.{range_with_len}
use Rattle.relations.specs.Resolved.{all_pass, inner_row}
use Rattle.relations.proofs.Numbers.{filter_split}
use Rattle.relations.proofs.passing.passing.Goals as goal

pub loop-start-preserved : goal.loop-start-preserved
loop-start-preserved c =
    let start = c.loop-start.start in
    let more = c.min.result in
    let passes : ℕ → Bool = all_pass c.args.right.now (inner_row c.args.beside.now) c.args.tests.now in
    let length : start + more - start ≡ more = omega arith in
    record {
      within = omega (arith, c.min.ensures);
      kept =
          c.in_ok-append.ensures.items
          ∙ ap (λ (l : List ℕ). l ++ c.fill_by_columns.new.rows.items) c.loop-start.invariant.kept
          ∙ ap (λ (l : List ℕ). filter passes (range_with_len 0 start) ++ l) (c.in_ok-fill_by_columns.ensures ∙ ap (λ n. filter passes (range_with_len start n)) length)
          ∙ filter_split passes start more;
    }
