use Rattle.std.proofs.Common.{◌≡◌, ap, sym, ◌∙◌, true, false, ◌||◌, List}
use Rattle.std.proofs.lemmas.List.{take_all}
use Rattle.std.proofs.lemmas.Result.{IfOk-weaker}
use Rattle.algebra.specs.declared.condition.Condition.{Condition}
use Rattle.algebra.specs.Columns.{ColumnSet, has}
use Rattle.algebra.specs.Bags.{lay}
use Rattle.algebra.specs.Conditions.{holds}
use Rattle.algebra.specs.GivenColumns.{given_columns, given_free}
use Rattle.physical.specs.Outputs.{no_classes}
use Rattle.joins.specs.SideParts.{is_true_at, some_true}
use Rattle.joins.proofs.Branches.{true-or_of}
use Rattle.joins.proofs.SideParts.{and-part, next-all, next-any, none-any, or-part, own-part}
use Rattle.joins.proofs.SharedKeys.{restated}
use Rattle.joins.proofs.side_parts.+side_parts.Goals as goal
use Rattle.joins.proofs.side_parts.+side_parts.Goals.{add_parts-then-whole, add_parts-else-whole}

pub add_parts-loop-condition-init : goal.add_parts-loop-condition-init
add_parts-loop-condition-init t c =
    record { all = λ s r h k. h; any = λ w s r h. none-any (has (given_columns c.args.other 0)) (some_true c.args.parts.now) s r h }

pub add_parts-loop-condition-preserved : goal.add_parts-loop-condition-preserved
add_parts-loop-condition-preserved t c =
    let L : ColumnSet = has (given_columns c.args.other 0) in
    let C = c.args.conditions.now in
    let n = c.loop-condition.condition-index in
    record {
      all = next-all L (holds no_classes c.args.parts.now) (holds no_classes c.loop-condition.parts) (holds no_classes c.add_part.new.parts) C n c.condition-item.result c.loop-condition-test.true c.condition-item.is
          c.loop-condition.invariant.all c.in_ok-added.ensures.all;
      any = λ whole. elim c.if-whole.branch [
        | add_parts-then-whole w ↦ next-any L (some_true c.args.parts.now) (some_true c.loop-condition.parts) (some_true c.add_part.new.parts) C n c.condition-item.result c.loop-condition-test.true c.condition-item.is
            (c.loop-condition.invariant.any w.if-whole.true) (c.in_ok-added.ensures.any (sym w.whole-is ∙ whole))
        | add_parts-else-whole w ↦ let no : false ≡ true = sym w.if-whole.false ∙ sym w.whole-is ∙ whole in cc no
      ];
    }

pub add_parts-returns : goal.add_parts-returns
add_parts-returns t c =
    let L : ColumnSet = has (given_columns c.args.other 0) in
    let all = take_all c.loop-condition.condition-index c.args.conditions.now c.loop-condition-test.false in
    record {
      all = λ s r h k. c.loop-condition.invariant.all s r h (ap (λ C. holds no_classes C (lay L s r)) all ∙ k);
      any = λ whole s r h. c.loop-condition.invariant.any whole s r (ap (λ C. some_true c.args.parts.now r || some_true C (lay L s r)) all ∙ h);
    }

pub side_part-returns-then-branch : goal.side_part-returns-then-branch
side_part-returns-then-branch t c =
    own-part (given_columns c.args.other) (given_free c.args.other) (given_columns c.args.other 0) c.args.condition.now c.in_ok-copy.field-0 c.in_ok-copy.ensures (sym c.in_ok-is_without.ensures ∙ c.if-branch.true)

pub side_part-returns-in_ok-add_parts-in-And : goal.side_part-returns-in_ok-add_parts-in-And
side_part-returns-in_ok-add_parts-in-And t c =
    let L : ColumnSet = has (given_columns c.args.other 0) in
    IfOk-weaker c.and_of.result _ _ (λ o given. restated o _ _ (λ own whole.
    and-part L c.args.condition.now c.in-And.a c.in-And.b c.in-And.more own c.new-parts.result c.add_part.new.parts c.add_part-in-And.new.parts c.add_parts.new.parts c.in-And.is c.new-parts.ensures
    (λ s r h k. c.in_ok-add_part-in-And.ensures.all s r h (ap (λ d. is_true_at d (lay L s r)) c.get.ensures ∙ k))
    (λ s r h k. c.in_ok-add_part-in-And-2.ensures.all s r h (ap (λ d. is_true_at d (lay L s r)) c.get-in-And.ensures ∙ k))
    (λ s r h k. c.in_ok-add_parts-in-And.ensures.all s r h (ap (λ (C : List Condition). holds no_classes C (lay L s r)) c.as_slice.ensures ∙ k))
    whole) given) c.and_of.ensures

pub side_part-returns-in_ok-or-in-Or : goal.side_part-returns-in_ok-or-in-Or
side_part-returns-in_ok-or-in-Or t c =
    let L : ColumnSet = has (given_columns c.args.other 0) in
    let parts = c.add_parts-in-Or.new.parts in
    or-part L c.args.condition.now c.in-Or.a c.in-Or.b c.in-Or.more c.in_ok-or-in-Or.field-0 c.new-parts-in-Or.result c.add_part-in-Or.new.parts c.add_part-in-Or-2.new.parts parts c.in-Or.is
    (λ s r h. c.in_ok-add_part-in-Or.ensures.any c.if-not-branch.false s r (ap (λ d. some_true c.new-parts-in-Or.result r || is_true_at d (lay L s r)) c.get-in-Or.ensures ∙ h))
    (λ s r h. c.in_ok-add_part-in-Or-2.ensures.any c.if-not-branch-2.false s r (ap (λ d. some_true c.add_part-in-Or.new.parts r || is_true_at d (lay L s r)) c.get-in-Or-2.ensures ∙ h))
    (λ s r h. c.in_ok-add_parts-in-Or.ensures.any c.if-not-branch-3.false s r (ap (λ (C : List Condition). some_true c.add_part-in-Or-2.new.parts r || some_true C (lay L s r)) c.as_slice-in-Or.ensures ∙ h))
    (λ i r. (ap (λ d. is_true_at d r) c.in_ok-or-in-Or.ensures ∙ true-or_of parts no_classes r) i)
