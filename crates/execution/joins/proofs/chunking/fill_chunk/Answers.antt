use Rattle.std.proofs.Common.{ap, sym, ◌∙◌, ℕ, List, ◌++◌, map}
use Rattle.algebra.specs.Bags.{nulls}
use Rattle.joins.specs.Joins.{partners_of}
use Rattle.relations.specs.Relations.{numbered_env}
use Rattle.relations.proofs.Numbers.{flat_map_next_number}
use Rattle.joins.proofs.chunking.fill_chunk.Goals as goal

pub loop-number-preserved : goal.loop-number-preserved
loop-number-preserved c =
    let n = c.loop-number.number in
    let start = c.args.start in
    let M : ℕ → List ℕ = λ i. partners_of c.args.unmatched c.args.on.tested.conditions.now c.args.right.now (numbered_env c.args.left.now nulls i) in
    record {
      left = c.in_ok-push_pairs.ensures.left ∙ ap (λ (l : List ℕ). l ++ map (λ j. n) (M n)) c.loop-number.invariant.left ∙ sym (flat_map_next_number (λ i. map (λ j. i) (M i)) start n c.loop-number.auto.number);
      right = c.in_ok-push_pairs.ensures.right ∙ ap (λ (l : List ℕ). l ++ M n) c.loop-number.invariant.right ∙ sym (flat_map_next_number M start n c.loop-number.auto.number);
    }
