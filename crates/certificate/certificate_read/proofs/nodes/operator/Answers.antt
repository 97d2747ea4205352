use Rattle.std.proofs.Common.{◌≡◌, refl, sym, subst, inl}
use Rattle.physical.specs.declared.plan.GroupMethod.TheVariants as group
use Rattle.physical.specs.declared.plan.JoinMethod.TheVariants as method
use Rattle.physical.specs.declared.plan.Matching.TheVariants as matching
use Rattle.physical.specs.declared.plan.Operator.TheVariants.{Scan, Filter, Projection, JoinRows, GroupRows, DistinctRows}
use Rattle.certificate_read.specs.declared.node_forms.OperatorForm.TheVariants as operator
use Rattle.certificate_read.specs.NodeReading.{matching_wording, operator_behind, operator_of, matching_of}
use Rattle.certificate_read.specs.WordReading.{number_wording, columns_wording, conjuncts_wording}
use Rattle.certificate_read.specs.Wordings.{left_words, Refuses, Passes, ReadsWords}
use Rattle.certificate_read.proofs.Wordings.{passes_more, handed_on}
use Rattle.certificate_read.proofs.nodes.operator.Goals as goal

pub returns-in_err-instance-in-Scan : goal.returns-in_err-instance-in-Scan
returns-in_err-instance-in-Scan c =
    handed_on (operator_behind c.args.form) (operator_of c.args.form) c.args.words.now c.number.new.self c.from_residual.result c.in_err-instance-in-Scan.field-0.0 c.from_residual.ensures.1
    (subst (λ form. Refuses (operator_behind form) (left_words c.args.words.now) c.in_err-instance-in-Scan.field-0.0) (sym c.in-Scan.is) c.in_err-instance-in-Scan.ensures)

pub returns-in_ok-instance-in-Scan : goal.returns-in_ok-instance-in-Scan
returns-in_ok-instance-in-Scan c =
    subst (λ form. Passes (operator_behind form) (λ p. (Scan c.in_ok-instance-in-Scan.instance, 0) ≡ operator_of form p) c.args.words.now c.number.new.self) (sym c.in-Scan.is)
    (passes_more number_wording (λ x. c.in_ok-instance-in-Scan.instance ≡ x) (λ p. (Scan c.in_ok-instance-in-Scan.instance, 0) ≡ operator_of operator.Scan p) c.args.words.now c.number.new.self (λ x e i. (Scan (e i), 0)) c.in_ok-instance-in-Scan.ensures)

pub returns-in_err-index_scan-in-IndexScan : goal.returns-in_err-index_scan-in-IndexScan
returns-in_err-index_scan-in-IndexScan c =
    handed_on (operator_behind c.args.form) (operator_of c.args.form) c.args.words.now c.index_scan.new.words c.from_residual-in_err-index_scan-in-IndexScan.result c.in_err-index_scan-in-IndexScan.field-0.0 c.from_residual-in_err-index_scan-in-IndexScan.ensures.1
    (subst (λ form. Refuses (operator_behind form) (left_words c.args.words.now) c.in_err-index_scan-in-IndexScan.field-0.0) (sym c.in-IndexScan.is)
    c.in_err-index_scan-in-IndexScan.ensures)

pub returns-in_ok-index_scan-in-IndexScan : goal.returns-in_ok-index_scan-in-IndexScan
returns-in_ok-index_scan-in-IndexScan c =
    subst (λ form. Passes (operator_behind form) (λ p. (c.in_ok-index_scan-in-IndexScan.field-0, 0) ≡ operator_of form p) c.args.words.now c.index_scan.new.words) (sym c.in-IndexScan.is)
    (passes_more (operator_behind operator.IndexScan) (λ p. c.in_ok-index_scan-in-IndexScan.field-0 ≡ (operator_of operator.IndexScan p).0) (λ p. (c.in_ok-index_scan-in-IndexScan.field-0, 0) ≡ operator_of operator.IndexScan p) c.args.words.now c.index_scan.new.words (λ p e i. (e i, 0)) c.in_ok-index_scan-in-IndexScan.ensures)

pub returns-in_err-conjuncts-in-Filter : goal.returns-in_err-conjuncts-in-Filter
returns-in_err-conjuncts-in-Filter c =
    handed_on (operator_behind c.args.form) (operator_of c.args.form) c.args.words.now c.conjuncts.new.self c.from_residual-in_err-conjuncts-in-Filter.result c.in_err-conjuncts-in-Filter.field-0.0 c.from_residual-in_err-conjuncts-in-Filter.ensures.1
    (subst (λ form. Refuses (operator_behind form) (left_words c.args.words.now) c.in_err-conjuncts-in-Filter.field-0.0) (sym c.in-Filter.is) c.in_err-conjuncts-in-Filter.ensures)

pub returns-in_ok-conjuncts-in-Filter : goal.returns-in_ok-conjuncts-in-Filter
returns-in_ok-conjuncts-in-Filter c =
    subst (λ form. Passes (operator_behind form) (λ p. (Filter c.in_ok-conjuncts-in-Filter.conjuncts, 1) ≡ operator_of form p) c.args.words.now c.conjuncts.new.self) (sym c.in-Filter.is)
    (passes_more conjuncts_wording (λ x. c.in_ok-conjuncts-in-Filter.conjuncts ≡ x) (λ p. (Filter c.in_ok-conjuncts-in-Filter.conjuncts, 1) ≡ operator_of operator.Filter p) c.args.words.now c.conjuncts.new.self (λ x e i. (Filter (e i), 1)) c.in_ok-conjuncts-in-Filter.ensures)

pub returns-in_err-columns-in-Projection : goal.returns-in_err-columns-in-Projection
returns-in_err-columns-in-Projection c =
    handed_on (operator_behind c.args.form) (operator_of c.args.form) c.args.words.now c.columns.new.self c.from_residual-in_err-columns-in-Projection.result c.in_err-columns-in-Projection.field-0.0 c.from_residual-in_err-columns-in-Projection.ensures.1
    (subst (λ form. Refuses (operator_behind form) (left_words c.args.words.now) c.in_err-columns-in-Projection.field-0.0) (sym c.in-Projection.is) c.in_err-columns-in-Projection.ensures)

pub returns-in_ok-columns-in-Projection : goal.returns-in_ok-columns-in-Projection
returns-in_ok-columns-in-Projection c =
    subst (λ form. Passes (operator_behind form) (λ p. (Projection c.in_ok-columns-in-Projection.columns, 1) ≡ operator_of form p) c.args.words.now c.columns.new.self) (sym c.in-Projection.is)
    (passes_more columns_wording (λ x. c.in_ok-columns-in-Projection.columns ≡ x) (λ p. (Projection c.in_ok-columns-in-Projection.columns, 1) ≡ operator_of operator.Projection p) c.args.words.now c.columns.new.self (λ x e i. (Projection (e i), 1)) c.in_ok-columns-in-Projection.ensures)

pub returns-in_err-matching-in-NestedLoop : goal.returns-in_err-matching-in-NestedLoop
returns-in_err-matching-in-NestedLoop c =
    handed_on (operator_behind c.args.form) (operator_of c.args.form) c.args.words.now c.join.new.words c.from_residual-in_err-matching-in-NestedLoop.result c.in_err-matching-in-NestedLoop.field-0.0 c.from_residual-in_err-matching-in-NestedLoop.ensures.1
    (subst (λ form. Refuses (operator_behind form) (left_words c.args.words.now) c.in_err-matching-in-NestedLoop.field-0.0) (sym c.in-NestedLoop.is) c.in_err-matching-in-NestedLoop.ensures)

pub returns-in_ok-matching-in-NestedLoop : goal.returns-in_ok-matching-in-NestedLoop
returns-in_ok-matching-in-NestedLoop c =
    subst (λ form. Passes (operator_behind form) (λ p. (JoinRows method.NestedLoop c.in_ok-matching-in-NestedLoop.matching, 2) ≡ operator_of form p) c.args.words.now c.join.new.words) (sym c.in-NestedLoop.is)
    (passes_more matching_wording (λ j. c.in_ok-matching-in-NestedLoop.matching ≡ matching_of j.0 j.1) (λ p. (JoinRows method.NestedLoop c.in_ok-matching-in-NestedLoop.matching, 2) ≡ operator_of operator.NestedLoop p) c.args.words.now c.join.new.words (λ x e i. (JoinRows method.NestedLoop (e i), 2)) c.in_ok-matching-in-NestedLoop.ensures)

pub returns-in_err-matching-in-HashJoin : goal.returns-in_err-matching-in-HashJoin
returns-in_err-matching-in-HashJoin c =
    handed_on (operator_behind c.args.form) (operator_of c.args.form) c.args.words.now c.join-in-HashJoin.new.words c.from_residual-in_err-matching-in-HashJoin.result c.in_err-matching-in-HashJoin.field-0.0 c.from_residual-in_err-matching-in-HashJoin.ensures.1
    (subst (λ form. Refuses (operator_behind form) (left_words c.args.words.now) c.in_err-matching-in-HashJoin.field-0.0) (sym c.in-HashJoin.is) c.in_err-matching-in-HashJoin.ensures)

pub returns-in_ok-matching-in-HashJoin : goal.returns-in_ok-matching-in-HashJoin
returns-in_ok-matching-in-HashJoin c =
    subst (λ form. Passes (operator_behind form) (λ p. (JoinRows method.Hash c.in_ok-matching-in-HashJoin.matching, 2) ≡ operator_of form p) c.args.words.now c.join-in-HashJoin.new.words) (sym c.in-HashJoin.is)
    (passes_more matching_wording (λ j. c.in_ok-matching-in-HashJoin.matching ≡ matching_of j.0 j.1) (λ p. (JoinRows method.Hash c.in_ok-matching-in-HashJoin.matching, 2) ≡ operator_of operator.HashJoin p) c.args.words.now c.join-in-HashJoin.new.words (λ x e i. (JoinRows method.Hash (e i), 2)) c.in_ok-matching-in-HashJoin.ensures)

pub returns-in_err-merge-in-MergeJoin : goal.returns-in_err-merge-in-MergeJoin
returns-in_err-merge-in-MergeJoin c =
    handed_on (operator_behind c.args.form) (operator_of c.args.form) c.args.words.now c.merge.new.words c.from_residual-in_err-merge-in-MergeJoin.result c.in_err-merge-in-MergeJoin.field-0.0 c.from_residual-in_err-merge-in-MergeJoin.ensures.1
    (subst (λ form. Refuses (operator_behind form) (left_words c.args.words.now) c.in_err-merge-in-MergeJoin.field-0.0) (sym c.in-MergeJoin.is) c.in_err-merge-in-MergeJoin.ensures)

pub returns-in_ok-merge-in-MergeJoin : goal.returns-in_ok-merge-in-MergeJoin
returns-in_ok-merge-in-MergeJoin c =
    subst (λ form. Passes (operator_behind form) (λ p. (c.in_ok-merge-in-MergeJoin.field-0, 2) ≡ operator_of form p) c.args.words.now c.merge.new.words) (sym c.in-MergeJoin.is)
    (passes_more (operator_behind operator.MergeJoin) (λ p. c.in_ok-merge-in-MergeJoin.field-0 ≡ JoinRows (method.Merge p.0 p.1.0) (matching.Inner p.1.1)) (λ p. (c.in_ok-merge-in-MergeJoin.field-0, 2) ≡ operator_of operator.MergeJoin p) c.args.words.now c.merge.new.words (λ p e i. (e i, 2)) c.in_ok-merge-in-MergeJoin.ensures)

pub returns-in_err-index_join-in-IndexJoin : goal.returns-in_err-index_join-in-IndexJoin
returns-in_err-index_join-in-IndexJoin c =
    handed_on (operator_behind c.args.form) (operator_of c.args.form) c.args.words.now c.index_join.new.words c.from_residual-in_err-index_join-in-IndexJoin.result c.in_err-index_join-in-IndexJoin.field-0.0 c.from_residual-in_err-index_join-in-IndexJoin.ensures.1
    (subst (λ form. Refuses (operator_behind form) (left_words c.args.words.now) c.in_err-index_join-in-IndexJoin.field-0.0) (sym c.in-IndexJoin.is)
    c.in_err-index_join-in-IndexJoin.ensures)

pub returns-in_ok-index_join-in-IndexJoin : goal.returns-in_ok-index_join-in-IndexJoin
returns-in_ok-index_join-in-IndexJoin c =
    subst (λ form. Passes (operator_behind form) (λ p. (c.in_ok-index_join-in-IndexJoin.field-0, 1) ≡ operator_of form p) c.args.words.now c.index_join.new.words) (sym c.in-IndexJoin.is)
    (passes_more (operator_behind operator.IndexJoin) (λ p. c.in_ok-index_join-in-IndexJoin.field-0 ≡ (operator_of operator.IndexJoin p).0) (λ p. (c.in_ok-index_join-in-IndexJoin.field-0, 1) ≡ operator_of operator.IndexJoin p) c.args.words.now c.index_join.new.words (λ p e i. (e i, 1)) c.in_ok-index_join-in-IndexJoin.ensures)

pub returns-in_err-group-in-HashGroup : goal.returns-in_err-group-in-HashGroup
returns-in_err-group-in-HashGroup c =
    handed_on (operator_behind c.args.form) (operator_of c.args.form) c.args.words.now c.group.new.words c.from_residual-in_err-group-in-HashGroup.result c.in_err-group-in-HashGroup.field-0.0 c.from_residual-in_err-group-in-HashGroup.ensures.1
    (subst (λ form. Refuses (operator_behind form) (left_words c.args.words.now) c.in_err-group-in-HashGroup.field-0.0) (sym c.in-HashGroup.is) c.in_err-group-in-HashGroup.ensures)

pub returns-in_ok-group-in-HashGroup : goal.returns-in_ok-group-in-HashGroup
returns-in_ok-group-in-HashGroup c =
    subst (λ form. Passes (operator_behind form) (λ p. (c.in_ok-group-in-HashGroup.field-0, 1) ≡ operator_of form p) c.args.words.now c.group.new.words) (sym c.in-HashGroup.is)
    (passes_more (operator_behind operator.HashGroup) (λ p. c.in_ok-group-in-HashGroup.field-0 ≡ GroupRows group.Hash p.0 p.1) (λ p. (c.in_ok-group-in-HashGroup.field-0, 1) ≡ operator_of operator.HashGroup p) c.args.words.now c.group.new.words (λ p e i. (e i, 1)) c.in_ok-group-in-HashGroup.ensures)

pub returns-in_err-group-in-SortedGroup : goal.returns-in_err-group-in-SortedGroup
returns-in_err-group-in-SortedGroup c =
    handed_on (operator_behind c.args.form) (operator_of c.args.form) c.args.words.now c.group-in-SortedGroup.new.words c.from_residual-in_err-group-in-SortedGroup.result c.in_err-group-in-SortedGroup.field-0.0 c.from_residual-in_err-group-in-SortedGroup.ensures.1
    (subst (λ form. Refuses (operator_behind form) (left_words c.args.words.now) c.in_err-group-in-SortedGroup.field-0.0) (sym c.in-SortedGroup.is) c.in_err-group-in-SortedGroup.ensures)

pub returns-in_ok-group-in-SortedGroup : goal.returns-in_ok-group-in-SortedGroup
returns-in_ok-group-in-SortedGroup c =
    subst (λ form. Passes (operator_behind form) (λ p. (c.in_ok-group-in-SortedGroup.field-0, 1) ≡ operator_of form p) c.args.words.now c.group-in-SortedGroup.new.words) (sym c.in-SortedGroup.is)
    (passes_more (operator_behind operator.SortedGroup) (λ p. c.in_ok-group-in-SortedGroup.field-0 ≡ GroupRows group.Sorted p.0 p.1) (λ p. (c.in_ok-group-in-SortedGroup.field-0, 1) ≡ operator_of operator.SortedGroup p) c.args.words.now c.group-in-SortedGroup.new.words (λ p e i. (e i, 1)) c.in_ok-group-in-SortedGroup.ensures)

pub returns-in-FilterSubqueries : goal.returns-in-FilterSubqueries
returns-in-FilterSubqueries c =
    subst (λ form. ReadsWords (operator_behind form) (operator_of form) c.args.words.now c.filter_subqueries.new.words c.filter_subqueries.result) (sym c.in-FilterSubqueries.is) c.filter_subqueries.ensures

pub returns-in-HashDistinct : goal.returns-in-HashDistinct
returns-in-HashDistinct c =
    subst (λ form. Passes (operator_behind form) (λ p. (DistinctRows group.Hash, 1) ≡ operator_of form p) c.args.words.now c.args.words.now) (sym c.in-HashDistinct.is) (tt, refl, tt, inl (tt, refl, refl))

pub returns-in-SortedDistinct : goal.returns-in-SortedDistinct
returns-in-SortedDistinct c =
    subst (λ form. Passes (operator_behind form) (λ p. (DistinctRows group.Sorted, 1) ≡ operator_of form p) c.args.words.now c.args.words.now) (sym c.in-SortedDistinct.is) (tt, refl, tt, inl (tt, refl, refl))
