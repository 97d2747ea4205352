use Rattle.std.proofs.Common.{ap, sym, ◌∙◌, List, [], ◌∷◌, ◌++◌, map, take, arith}
use Rattle.std.proofs.lemmas.List.{map-append, take_all, take_more}
use Rattle.values.specs.declared.truth.Truth.{Truth}
use Rattle.values.specs.declared.value.Value.{Value}
use Rattle.values.specs.Truth.{compare, is_null, negation, truth_of}
use Rattle.query.specs.Meaning.{all_of, any_of}
use Rattle.relations.specs.declared.pair_tests.PairTest.{PairTest}
use Rattle.relations.specs.declared.resolved.Test.{Test}
use Rattle.relations.specs.Parts.{row_at}
use Rattle.relations.specs.PairTests.{left_row, pair_truth, side_value}
use Rattle.relations.specs.Resolved.{operand_value, test_truth}
use Rattle.relations.proofs.PairTests.{pair-And, pair-IsNull, pair-Not, pair-OfNoRows, pair-Or}
use Rattle.relations.proofs.Tests.{test-And, test-Compare, test-IsNull, test-Not, test-OfNoRows, test-Or}
use Rattle.relations.proofs.pair_tests.+pairs.Goals as goal

pub pair_test-returns-in-Compare : goal.pair_test-returns-in-Compare
pair_test-returns-in-Compare t c = λ i j.
    let l = left_row c.args.left i in
    let r = row_at c.args.right.now.rows.parts.items j in
    let f = c.in-Compare in
    c.compared.ensures i j
    ∙ ap (λ (v : Value). compare f.comparison v (side_value c.side_column.result i j)) (c.side_column-a.ensures i j)
    ∙ ap (λ (v : Value). compare f.comparison (operand_value f.a l r) v) (c.side_column.ensures i j)
    ∙ sym (ap (λ (t : Test). test_truth t l r) f.is ∙ test-Compare f.comparison f.a f.b l r)

pub pair_test-returns-in-IsNull : goal.pair_test-returns-in-IsNull
pair_test-returns-in-IsNull t c = λ i j.
    let l = left_row c.args.left i in
    let r = row_at c.args.right.now.rows.parts.items j in
    pair-IsNull c.side_column-in-IsNull.result i j ∙ ap (λ (v : Value). truth_of (is_null v)) (c.side_column-in-IsNull.ensures i j)
    ∙ sym (ap (λ (t : Test). test_truth t l r) c.in-IsNull.is ∙ test-IsNull c.in-IsNull.operand l r)

pub pair_test-returns-in_ok-new-in-Not : goal.pair_test-returns-in_ok-new-in-Not
pair_test-returns-in_ok-new-in-Not t c = λ i j.
    let l = left_row c.args.left i in
    let r = row_at c.args.right.now.rows.parts.items j in
    pair-Not c.in_ok-new-in-Not.field-0 i j
    ∙ ap negation (ap (λ (t : PairTest). pair_truth t i j) c.in_ok-new-in-Not.ensures ∙ c.in_ok-part-in-Not.ensures i j ∙ ap (λ (t : Test). test_truth t l r) c.get.ensures)
    ∙ sym (ap (λ (t : Test). test_truth t l r) c.in-Not.is ∙ test-Not c.in-Not.part l r)

pub pair_test-returns-in_ok-parts-in-And : goal.pair_test-returns-in_ok-parts-in-And
pair_test-returns-in_ok-parts-in-And t c = λ i j.
    let l = left_row c.args.left i in
    let r = row_at c.args.right.now.rows.parts.items j in
    pair-And c.from_vec.result i j
    ∙ ap all_of (ap (map (λ t. pair_truth t i j)) c.from_vec.ensures ∙ c.in_ok-parts-in-And.ensures i j ∙ ap (map (λ t. test_truth t l r)) c.as_slice.ensures)
    ∙ sym (ap (λ (t : Test). test_truth t l r) c.in-And.is ∙ test-And c.in-And.parts l r)

pub pair_test-returns-in_ok-parts-in-Or : goal.pair_test-returns-in_ok-parts-in-Or
pair_test-returns-in_ok-parts-in-Or t c = λ i j.
    let l = left_row c.args.left i in
    let r = row_at c.args.right.now.rows.parts.items j in
    pair-Or c.from_vec-in-Or.result i j
    ∙ ap any_of (ap (map (λ t. pair_truth t i j)) c.from_vec-in-Or.ensures ∙ c.in_ok-parts-in-Or.ensures i j ∙ ap (map (λ t. test_truth t l r)) c.as_slice-in-Or.ensures)
    ∙ sym (ap (λ (t : Test). test_truth t l r) c.in-Or.is ∙ test-Or c.in-Or.parts l r)

pub pair_test-returns-in-OfNoRows : goal.pair_test-returns-in-OfNoRows
pair_test-returns-in-OfNoRows t c = λ i j.
    let l = left_row c.args.left i in
    let r = row_at c.args.right.now.rows.parts.items j in
    pair-OfNoRows i j ∙ sym (ap (λ (t : Test). test_truth t l r) c.in-OfNoRows.is ∙ test-OfNoRows l r)

pub pair_tests-returns : goal.pair_tests-returns
pair_tests-returns t c = λ i j.
    let l = left_row c.args.left i in
    let r = row_at c.args.right.now.rows.parts.items j in
    c.loop-test.invariant i j ∙ ap (map (λ t. test_truth t l r)) (take_all c.loop-test.test-index c.args.tests.now (omega arith))

pub pair_tests-loop-test-preserved : goal.pair_tests-loop-test-preserved
pair_tests-loop-test-preserved t c = λ i j.
    let l = left_row c.args.left i in
    let r = row_at c.args.right.now.rows.parts.items j in
    let f : PairTest → Truth = λ t. pair_truth t i j in
    let g : Test → Truth = λ t. test_truth t l r in
    let tests = c.args.tests.now in
    let k = c.loop-test.test-index in
    let one = c.in_ok-pair_test.field-0 in
    ap (map f) c.in_ok-push.ensures.items
    ∙ map-append f c.loop-test.found.items (one ∷ [])
    ∙ ap (λ (ts : List Truth). ts ++ f one ∷ []) (c.loop-test.invariant i j)
    ∙ ap (λ (v : Truth). map g (take k tests) ++ v ∷ []) (c.in_ok-pair_test.ensures i j ∙ ap g c.test-item.is)
    ∙ sym (ap (map g) (take_more tests k c.test-item.result (omega arith)) ∙ map-append g (take k tests) _)
