use Rattle.std.proofs.Common.{◌≡◌, ap, sym, ◌∙◌, ◌-◌, ℕ, List, [], ◌++◌, flat_map, length, map, arith}
use Rattle.std.specs.List.{range_with_len}
use Rattle.std.proofs.lemmas.List.{length-append, nil_from_length}
use Rattle.algebra.specs.declared.condition.Condition.{Condition}
use Rattle.algebra.specs.Bags.{nulls}
use Rattle.relations.specs.Relations.{numbered_env}
use Rattle.joins.specs.JoinStages.{pairs_from}
use Rattle.joins.specs.Joins.{pair_env, pair_envs, partners_of}
use Rattle.joins.proofs.ChunkedPairs.{none-left, pairs-between, pairs-ended, pairs-none, some-left, two-some}
use Rattle.joins.proofs.JoinRows.{loops-length}
use Rattle.joins.proofs.stages.JoinStage.next_chunk.Goals as goal

pub returns-then-is_empty-clause-chunk : goal.returns-then-is_empty-clause-chunk
returns-then-is_empty-clause-chunk c =
    let j = c.args.self.now in
    let next = c.in_ok-reached.reached.next in
    let so = c.in_ok-reached.ensures in
    let pairs = c.fill_resolved.new.pairs in
    let C = j.conditions.items in
    let M : List Condition → ℕ → List ℕ = λ D i. partners_of j.unmatched D j.right (numbered_env j.left nulls i) in
    let come = range_with_len j.next (next - j.next) in
    let lefts = so.left ∙ ap (λ D. flat_map (λ i. map (λ k. i) (M D i)) come) c.as_slice.ensures.value in
    let rights = so.right ∙ ap (λ D. flat_map (M D) come) c.as_slice.ensures.value in
    let empty : pairs.right.items ≡ [] = nil_from_length pairs.right.items (let none = none-left _ _ c.if-is_empty.true c.is_empty.ensures in omega (arith, none, pairs.right.ok)) in
    let last = so.last empty in
    (pairs-ended j.unmatched C j.left j.right nulls j.next next pairs.left.items pairs.right.items so.bounds.0 last empty lefts rights, pairs-none j.unmatched C j.left j.right nulls next last)

pub returns-clause-chunk : goal.returns-clause-chunk
returns-clause-chunk c =
    let j = c.args.self.now in
    let next = c.in_ok-reached.reached.next in
    let so = c.in_ok-reached.ensures in
    let pairs = c.fill_resolved.new.pairs in
    let C = j.conditions.items in
    let M : List Condition → ℕ → List ℕ = λ D i. partners_of j.unmatched D j.right (numbered_env j.left nulls i) in
    let come = range_with_len j.next (next - j.next) in
    let lefts = so.left ∙ ap (λ D. flat_map (λ i. map (λ k. i) (M D i)) come) c.as_slice.ensures.value in
    let rights = so.right ∙ ap (λ D. flat_map (M D) come) c.as_slice.ensures.value in
    let some : pairs.right.items ≡ [] → ⊥ = λ none. let more = some-left _ _ c.if-is_empty.false c.is_empty.ensures in absurd (omega (arith, more, pairs.right.ok, ap length none)) in
    let even : length pairs.left.items ≡ length pairs.right.items = ap length lefts ∙ loops-length (M C) come ∙ sym (ap length rights) in
    let parts = pairs-between j.unmatched C j.left j.right nulls j.next next pairs.left.items pairs.right.items so.bounds.0 so.bounds.1 lefts rights in
    let made-pairs = pair_envs j.left j.right nulls pairs.left.items pairs.right.items in
    let behind = pairs_from j.unmatched C j.left j.right nulls next in
    let output = c.in_ok-chunk.ensures nulls in
    record {
      columns_are = output.columns_are;
      rows_are = parts ∙ ap (λ l. l ++ behind) (sym output.rows_are);
      fewer =
          let some-made = two-some (pair_env j.left j.right nulls) pairs.left.items pairs.right.items even some in
          omega (arith, some-made, ap length parts, length-append made-pairs behind);
    }

pub paired-requires : goal.paired-requires
paired-requires c =
    let j = c.args.self.now in
    let next = c.in_ok-reached.reached.next in
    let so = c.in_ok-reached.ensures in
    let pairs = c.fill_resolved.new.pairs in
    let M : ℕ → List ℕ = λ i. partners_of j.unmatched c.as_slice.result.now j.right (numbered_env j.left nulls i) in
    ap length so.left ∙ loops-length M (range_with_len j.next (next - j.next)) ∙ sym (ap length so.right)
