use Rattle.std.proofs.Common.{◌≡◌, ap, ◌∙◌, ℕ, List}
use Rattle.std.specs.List.{list_any}
use Rattle.algebra.specs.Conditions.{holds}
use Rattle.physical.specs.Outputs.{no_classes}
use Rattle.relations.specs.declared.pair_tests.PairTest.{PairTest}
use Rattle.relations.specs.declared.resolved.Test.{Test}
use Rattle.relations.specs.PairTests.{pairs_pass}
use Rattle.relations.specs.Relations.{env_of, numbered_env, numbers_of}
use Rattle.relations.specs.Resolved.{all_pass, inner_row}
use Rattle.operators.proofs.SomeRows.{looked-up-alike, some-numbered}
use Rattle.operators.proofs.existence.has_passing_within.Goals as goal

pub returns : goal.returns
returns c =
    let e = env_of c.args.env.now in
    let input = c.args.input.now in
    let l = inner_row c.args.env.now in
    let passes : (n : ℕ) → pairs_pass c.as_slice-2.result.now 0 n ≡ holds no_classes c.args.conditions.now (numbered_env input e n) = λ n.
    ap (λ (ts : List PairTest). pairs_pass ts 0 n) c.as_slice-2.ensures.value
    ∙ looked-up-alike input l 0 n c.as_slice.result.now c.in_ok-columns.columns.items (c.in_ok-columns.ensures 0 n)
    ∙ ap (λ (ts : List Test). all_pass input l ts n) c.as_slice.ensures.value
    ∙ c.in_ok-tests.ensures l n in
    c.some_pass.ensures ∙ (λ i. list_any (λ n. passes n i) (numbers_of input)) ∙ some-numbered (holds no_classes c.args.conditions.now) input e
