use Rattle.std.proofs.Common.{true, false, length, ℕ, Bool}
use Rattle.algebra.specs.Bags.{Env}
use Rattle.algebra.specs.Conditions.{holds}
use Rattle.physical.specs.Outputs.{no_classes}
use Rattle.relations.specs.Relations.{env_of, numbered_env}
use Rattle.index_access.specs.Cuts.{is_before}
use Rattle.index_access.proofs.FilteredRanges.{missed}
use Rattle.index_access.proofs.Probes.{row_within}
use Rattle.index_access.proofs.lookup.candidates.Goals as goal

pub returns : goal.returns
returns c =
    let r = c.args.relation.now in
    let e = env_of c.args.env.now in
    let row : ℕ → Env = numbered_env r e in
    let columns = c.args.columns.now in
    let numbers = c.args.numbers.now in
    let p : ℕ → Bool = λ n. holds no_classes c.args.conditions.now (row n) in
    let range = c.in_ok-range.range in
    c.between.ensures p
    (missed p (λ n. is_before range.lower columns (row n)) false numbers 0 c.position-start.result (λ n h. c.in_ok-range.ensures.lower (row n) (row_within r e n) h) c.position-start.ensures.parts.0)
    (missed p (λ n. is_before range.upper columns (row n)) true numbers c.position-end.result (length numbers) (λ n h. c.in_ok-range.ensures.upper (row n) (row_within r e n) h) c.position-end.ensures.parts.1)
