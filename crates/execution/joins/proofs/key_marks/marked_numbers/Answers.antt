use Rattle.std.proofs.Common.{ap, sym, ◌∙◌, ℕ, Bool, if◌then◌else◌, List, [], ◌∷◌, ◌++◌, filter}
use Rattle.std.specs.List.{range_with_len}
use Rattle.relations.proofs.Numbers.{filter_number}
use Rattle.joins.specs.KeyMarks.{has_mark, key_at}
use Rattle.joins.proofs.key_marks.marked_numbers.Goals as goal

pub loop-number-preserved : goal.loop-number-preserved
loop-number-preserved c =
    let n = c.loop-number.number in
    let p : ℕ → Bool = has_mark (key_at c.args.columns.now) c.args.marks.now in
    let one : Bool → List ℕ = λ b. if b then n ∷ [] else [] in
    c.in_ok-push_if.ensures ∙ ap (λ (l : List ℕ). l ++ one c.is_marked-passes.result) c.loop-number.invariant ∙ ap (λ b. filter p (range_with_len 0 n) ++ one b) c.is_marked-passes.ensures ∙ sym (filter_number p n)
