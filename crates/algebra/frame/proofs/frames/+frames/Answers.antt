use Rattle.std.proofs.Common.{arith}
use Rattle.values.proofs.Exits.{no_change, no_value}
use Rattle.frame.specs.Frames as spec
use Rattle.frame.specs.Lent.{scope_of}
use Rattle.frame.proofs.FrameLoops.{conditions_on, lines_on, conditions_end, lines_end}
use Rattle.frame.proofs.FrameSteps.{compare_is, null_is, not_is, and_is, or_is, exists_is, in_is, table_is, join_is, left_join_is, comma_is, first_shown_is, block_lines_are}
use Rattle.frame.proofs.frames.+frames.Goals as goal

-- ---- conditions

pub condition-returns-in_ok-right-in-Compare : goal.condition-returns-in_ok-right-in-Compare
condition-returns-in_ok-right-in-Compare t c =
    compare_is c.args.instances.now (scope_of c.args.scope.now) c.args.lines.now c.args.cond.now c.in-Compare.comparison c.in-Compare.a c.in-Compare.b
    c.in_ok-left-in-Compare.left c.in_ok-right-in-Compare.right c.in-Compare.is c.in_ok-left-in-Compare.ensures c.in_ok-right-in-Compare.ensures

pub condition-returns-in_ok-numbered-in-IsNull : goal.condition-returns-in_ok-numbered-in-IsNull
condition-returns-in_ok-numbered-in-IsNull t c =
    null_is c.args.instances.now (scope_of c.args.scope.now) c.args.lines.now c.args.cond.now c.in-IsNull.a c.in_ok-numbered-in-IsNull.field-0 c.in-IsNull.is c.in_ok-numbered-in-IsNull.ensures

pub condition-returns-in_ok-new-in-Not : goal.condition-returns-in_ok-new-in-Not
condition-returns-in_ok-new-in-Not t c =
    not_is c.args.instances.now (scope_of c.args.scope.now) c.args.lines.now c.args.cond.now c.in-Not.part c.get.result.now c.in_ok-part-in-Not.part c.in_ok-new-in-Not.field-0
    c.condition.new.lines c.in-Not.is c.get.ensures c.in_ok-part-in-Not.ensures.condition c.in_ok-part-in-Not.ensures.lines c.in_ok-new-in-Not.ensures

pub condition-returns-in_ok-parts-in-And : goal.condition-returns-in_ok-parts-in-And
condition-returns-in_ok-parts-in-And t c =
    and_is c.args.instances.now (scope_of c.args.scope.now) c.args.lines.now c.args.cond.now c.in-And.parts c.as_slice.result.now c.and.result c.in_ok-parts-in-And.parts
    c.conditions.new.lines c.in-And.is c.as_slice.ensures c.in_ok-parts-in-And.ensures.conditions c.in_ok-parts-in-And.ensures.lines c.and.ensures

pub condition-returns-in_ok-parts-in-Or : goal.condition-returns-in_ok-parts-in-Or
condition-returns-in_ok-parts-in-Or t c =
    or_is c.args.instances.now (scope_of c.args.scope.now) c.args.lines.now c.args.cond.now c.in-Or.parts c.as_slice-in-Or.result.now c.or.result c.in_ok-parts-in-Or.parts
    c.conditions-in-Or.new.lines c.in-Or.is c.as_slice-in-Or.ensures c.in_ok-parts-in-Or.ensures.conditions c.in_ok-parts-in-Or.ensures.lines c.or.ensures

pub condition-returns-in_ok-add_block-in-Exists : goal.condition-returns-in_ok-add_block-in-Exists
condition-returns-in_ok-add_block-in-Exists t c =
    exists_is c.args.instances.now (scope_of c.args.scope.now) c.args.lines.now c.args.cond.now c.in-Exists.block c.get-in-Exists.result.now
    c.add_block.new.lines c.last.result c.in-Exists.is c.get-in-Exists.ensures c.in_ok-add_block-in-Exists.ensures.lines c.last.ensures

pub condition-returns-in_ok-shown-in-In : goal.condition-returns-in_ok-shown-in-In
condition-returns-in_ok-shown-in-In t c =
    in_is c.args.instances.now (scope_of c.args.scope.now) c.args.lines.now c.args.cond.now c.in-In.a c.in-In.block c.get-in-In.result.now
    c.add_block-in-In.new.lines c.in_ok-term-in-In.term c.last-in-In.result c.in_ok-shown-in-In.shown c.in-In.is c.get-in-In.ensures
    c.in_ok-shown-in-In.ensures.lines c.in_ok-term-in-In.ensures c.last-in-In.ensures c.in_ok-shown-in-In.ensures.shown

pub conditions-loop-cond-preserved : goal.conditions-loop-cond-preserved
conditions-loop-cond-preserved t c = record {
  conditions = conditions_on (spec.cond_frame c.args.instances.now) (scope_of c.args.scope.now) c.args.conds.now c.loop-cond.cond-index c.cond-item.result c.in_ok-condition.field-0
      c.loop-cond.framed c.push.new.self _ c.loop-cond.lines c.condition.new.lines (omega arith) c.cond-item.is c.in_ok-condition.ensures.condition c.in_ok-condition.ensures.lines
      c.in_ok-push.ensures.ok c.loop-cond.invariant.conditions;
  lines = lines_on (spec.cond_frame c.args.instances.now) (scope_of c.args.scope.now) c.args.conds.now c.loop-cond.cond-index c.cond-item.result _ c.loop-cond.lines c.condition.new.lines
      (omega arith) c.cond-item.is c.in_ok-condition.ensures.lines c.loop-cond.invariant.lines;
}

pub conditions-returns : goal.conditions-returns
conditions-returns t c = record {
  conditions = conditions_end (spec.cond_frame c.args.instances.now) (scope_of c.args.scope.now) c.args.conds.now c.loop-cond.cond-index c.loop-cond.framed _ c.loop-cond.lines (omega arith) c.loop-cond.invariant.conditions;
  lines = lines_end (spec.cond_frame c.args.instances.now) (scope_of c.args.scope.now) c.args.conds.now c.loop-cond.cond-index _ c.loop-cond.lines (omega arith) c.loop-cond.invariant.lines;
}

-- ---- FROM

pub add_from-returns-in_ok-push-in-Table : goal.add_from-returns-in_ok-push-in-Table
add_from-returns-in_ok-push-in-Table t c =
    table_is c.args.instances.now (scope_of c.args.outer.now) c.args.lines.now c.args.from.now c.in-Table.reference c.in_ok-numbers-in-Table.numbers.items c.push.new.self c.in-Table.is c.in_ok-numbers-in-Table.ensures c.in_ok-push-in-Table.ensures

pub add_from-returns-in_ok-push-in-Join : goal.add_from-returns-in_ok-push-in-Join
add_from-returns-in_ok-push-in-Join t c =
    let n = c.in_ok-numbers-in-Join.ensures in
    let s = c.in_ok-sides-in-Join.ensures in
    rw c.in_ok-push-in-Join.ensures (join_is c.args.instances.now (scope_of c.args.outer.now) c.args.lines.now c.args.from.now c.in-Join.left c.get.result.now c.in-Join.reference c.in-Join.on c.get-in-Join.result.now
    c.get.ensures c.get-in-Join.ensures c.in_ok-numbers-in-Join.numbers.items c.in_ok-sides-in-Join.sides.numbers.items c.add_from.new.lines c.join_sides.new.lines
    c.in_ok-sides-in-Join.sides.on c.in_ok-sides-in-Join.sides.left c.in_ok-sides-in-Join.sides.right c.in-Join.is n.numbers n.lines s.numbers s.on s.classes.0 s.classes.1 s.lines)

pub add_from-returns-in_ok-push-in-LeftJoin : goal.add_from-returns-in_ok-push-in-LeftJoin
add_from-returns-in_ok-push-in-LeftJoin t c =
    let n = c.in_ok-numbers-in-LeftJoin.ensures in
    let s = c.in_ok-sides-in-LeftJoin.ensures in
    rw c.in_ok-push-in-LeftJoin.ensures (left_join_is c.args.instances.now (scope_of c.args.outer.now) c.args.lines.now c.args.from.now c.in-LeftJoin.left c.get-in-LeftJoin.result.now c.in-LeftJoin.reference c.in-LeftJoin.on c.get-in-LeftJoin-2.result.now
    c.get-in-LeftJoin.ensures c.get-in-LeftJoin-2.ensures c.in_ok-numbers-in-LeftJoin.numbers.items c.in_ok-sides-in-LeftJoin.sides.numbers.items c.add_from-in-LeftJoin.new.lines c.join_sides-in-LeftJoin.new.lines
    c.in_ok-sides-in-LeftJoin.sides.on c.in_ok-sides-in-LeftJoin.sides.left c.in_ok-sides-in-LeftJoin.sides.right c.in-LeftJoin.is n.numbers n.lines s.numbers s.on s.classes.0 s.classes.1 s.lines)

pub add_from-returns-in_ok-push-in-Comma : goal.add_from-returns-in_ok-push-in-Comma
add_from-returns-in_ok-push-in-Comma t c =
    let n = c.in_ok-numbers-in-Comma.ensures in
    let m = c.in_ok-more-in-Comma.ensures in
    comma_is c.args.instances.now (scope_of c.args.outer.now) c.args.lines.now c.args.from.now c.in-Comma.left c.get-in-Comma.result.now c.in-Comma.right c.get-in-Comma-2.result.now
    c.in_ok-numbers-in-Comma.numbers.items c.in_ok-more-in-Comma.more.items c.as_slice.result.now c.extend_from_slice.new.self.items c.add_from-in-Comma.new.lines c.add_from-in-Comma-2.new.lines c.push-in-Comma.new.self
    c.none.result c.last-left_class.result c.last-right_class.result c.in-Comma.is c.get-in-Comma.ensures c.get-in-Comma-2.ensures n.numbers n.lines m.numbers m.lines c.as_slice.ensures.value
    c.in_ok-extend_from_slice-in-Comma.ensures.items c.last-left_class.ensures c.last-right_class.ensures c.none.ensures c.in_ok-push-in-Comma.ensures

-- ---- blocks

pub add_block-returns : goal.add_block-returns
add_block-returns t c =
    let instances = c.args.instances.now in
    let scope = scope_of c.args.outer.now in
    let n = c.in_ok-numbers.ensures in
    record {
      shown = first_shown_is instances scope c.args.lines.now c.args.block.now c.in_ok-numbers.numbers.items c.as_slice.result.now c.as_slice-5.result.now c.first_number.result
          n.numbers c.as_slice.ensures.value c.as_slice-5.ensures c.first_number.ensures;
      lines = block_lines_are instances scope c.args.lines.now c.args.block.now c.in_ok-numbers.numbers.items c.as_slice.result.now c.as_slice-2.result.now c.in_ok-asked.asked.items c.as_slice-4.result.now c.as_slice-3.result.now
          c.add_from.new.lines c.add_filter.new.lines c.add_group.new.lines c.add_filter-2.new.lines
          c.add_end.new.lines n.numbers c.as_slice.ensures.value c.as_slice-2.ensures.value n.lines c.in_ok-add_filter.ensures c.in_ok-add_group.ensures c.as_slice-3.ensures c.in_ok-asked.ensures c.as_slice-4.ensures.value c.in_ok-add_filter-2.ensures c.in_ok-add_end.ensures;
    }

-- ---- exits

pub add_block-returns-in_err-numbers : goal.add_block-returns-in_err-numbers
add_block-returns-in_err-numbers t c =
    let exit = c.from_residual in
    record { shown = no_value exit.result _ _ exit.ensures.1; lines = no_change exit.result _ _ exit.ensures.1 }

pub add_block-returns-in_err-add_filter : goal.add_block-returns-in_err-add_filter
add_block-returns-in_err-add_filter t c =
    let exit = c.from_residual-in_err-add_filter in
    record { shown = no_value exit.result _ _ exit.ensures.1; lines = no_change exit.result _ _ exit.ensures.1 }

pub add_block-returns-in_err-add_group : goal.add_block-returns-in_err-add_group
add_block-returns-in_err-add_group t c =
    let exit = c.from_residual-in_err-add_group in
    record { shown = no_value exit.result _ _ exit.ensures.1; lines = no_change exit.result _ _ exit.ensures.1 }

pub add_block-returns-in_err-asked : goal.add_block-returns-in_err-asked
add_block-returns-in_err-asked t c =
    let exit = c.from_residual-in_err-asked in
    record { shown = no_value exit.result _ _ exit.ensures.1; lines = no_change exit.result _ _ exit.ensures.1 }

pub add_block-returns-in_err-add_filter-2 : goal.add_block-returns-in_err-add_filter-2
add_block-returns-in_err-add_filter-2 t c =
    let exit = c.from_residual-in_err-add_filter-2 in
    record { shown = no_value exit.result _ _ exit.ensures.1; lines = no_change exit.result _ _ exit.ensures.1 }

pub add_block-returns-in_err-add_end : goal.add_block-returns-in_err-add_end
add_block-returns-in_err-add_end t c =
    let exit = c.from_residual-in_err-add_end in
    record { shown = no_value exit.result _ _ exit.ensures.1; lines = no_change exit.result _ _ exit.ensures.1 }

pub add_filter-returns-in_err-conjuncts : goal.add_filter-returns-in_err-conjuncts
add_filter-returns-in_err-conjuncts t c =
    let exit = c.from_residual in
    no_change exit.result _ _ exit.ensures.1

pub add_from-returns-in_err-numbers-in-Table : goal.add_from-returns-in_err-numbers-in-Table
add_from-returns-in_err-numbers-in-Table t c =
    let exit = c.from_residual in
    record { numbers = no_value exit.result _ _ exit.ensures.1; lines = no_change exit.result _ _ exit.ensures.1 }

pub add_from-returns-in_err-push-in-Table : goal.add_from-returns-in_err-push-in-Table
add_from-returns-in_err-push-in-Table t c =
    let exit = c.from_residual-in_err-push-in-Table in
    record { numbers = no_value exit.result _ _ exit.ensures.1; lines = no_change exit.result _ _ exit.ensures.1 }

pub add_from-returns-in_err-numbers-in-Join : goal.add_from-returns-in_err-numbers-in-Join
add_from-returns-in_err-numbers-in-Join t c =
    let exit = c.from_residual-in_err-numbers-in-Join in
    record { numbers = no_value exit.result _ _ exit.ensures.1; lines = no_change exit.result _ _ exit.ensures.1 }

pub add_from-returns-in_err-sides-in-Join : goal.add_from-returns-in_err-sides-in-Join
add_from-returns-in_err-sides-in-Join t c =
    let exit = c.from_residual-in_err-sides-in-Join in
    record { numbers = no_value exit.result _ _ exit.ensures.1; lines = no_change exit.result _ _ exit.ensures.1 }

pub add_from-returns-in_err-push-in-Join : goal.add_from-returns-in_err-push-in-Join
add_from-returns-in_err-push-in-Join t c =
    let exit = c.from_residual-in_err-push-in-Join in
    record { numbers = no_value exit.result _ _ exit.ensures.1; lines = no_change exit.result _ _ exit.ensures.1 }

pub add_from-returns-in_err-numbers-in-LeftJoin : goal.add_from-returns-in_err-numbers-in-LeftJoin
add_from-returns-in_err-numbers-in-LeftJoin t c =
    let exit = c.from_residual-in_err-numbers-in-LeftJoin in
    record { numbers = no_value exit.result _ _ exit.ensures.1; lines = no_change exit.result _ _ exit.ensures.1 }

pub add_from-returns-in_err-sides-in-LeftJoin : goal.add_from-returns-in_err-sides-in-LeftJoin
add_from-returns-in_err-sides-in-LeftJoin t c =
    let exit = c.from_residual-in_err-sides-in-LeftJoin in
    record { numbers = no_value exit.result _ _ exit.ensures.1; lines = no_change exit.result _ _ exit.ensures.1 }

pub add_from-returns-in_err-push-in-LeftJoin : goal.add_from-returns-in_err-push-in-LeftJoin
add_from-returns-in_err-push-in-LeftJoin t c =
    let exit = c.from_residual-in_err-push-in-LeftJoin in
    record { numbers = no_value exit.result _ _ exit.ensures.1; lines = no_change exit.result _ _ exit.ensures.1 }

pub add_from-returns-in_err-numbers-in-Comma : goal.add_from-returns-in_err-numbers-in-Comma
add_from-returns-in_err-numbers-in-Comma t c =
    let exit = c.from_residual-in_err-numbers-in-Comma in
    record { numbers = no_value exit.result _ _ exit.ensures.1; lines = no_change exit.result _ _ exit.ensures.1 }

pub add_from-returns-in_err-more-in-Comma : goal.add_from-returns-in_err-more-in-Comma
add_from-returns-in_err-more-in-Comma t c =
    let exit = c.from_residual-in_err-more-in-Comma in
    record { numbers = no_value exit.result _ _ exit.ensures.1; lines = no_change exit.result _ _ exit.ensures.1 }

pub add_from-returns-in_err-extend_from_slice-in-Comma : goal.add_from-returns-in_err-extend_from_slice-in-Comma
add_from-returns-in_err-extend_from_slice-in-Comma t c =
    let exit = c.from_residual-in_err-extend_from_slice-in-Comma in
    record { numbers = no_value exit.result _ _ exit.ensures.1; lines = no_change exit.result _ _ exit.ensures.1 }

pub add_from-returns-in_err-push-in-Comma : goal.add_from-returns-in_err-push-in-Comma
add_from-returns-in_err-push-in-Comma t c =
    let exit = c.from_residual-in_err-push-in-Comma in
    record { numbers = no_value exit.result _ _ exit.ensures.1; lines = no_change exit.result _ _ exit.ensures.1 }

pub condition-returns-in_err-left-in-Compare : goal.condition-returns-in_err-left-in-Compare
condition-returns-in_err-left-in-Compare t c =
    let exit = c.from_residual in
    record { condition = no_value exit.result _ _ exit.ensures.1; lines = no_change exit.result _ _ exit.ensures.1 }

pub condition-returns-in_err-right-in-Compare : goal.condition-returns-in_err-right-in-Compare
condition-returns-in_err-right-in-Compare t c =
    let exit = c.from_residual-in_err-right-in-Compare in
    record { condition = no_value exit.result _ _ exit.ensures.1; lines = no_change exit.result _ _ exit.ensures.1 }

pub condition-returns-in_err-numbered-in-IsNull : goal.condition-returns-in_err-numbered-in-IsNull
condition-returns-in_err-numbered-in-IsNull t c =
    let exit = c.from_residual-in_err-numbered-in-IsNull in
    record { condition = no_value exit.result _ _ exit.ensures.1; lines = no_change exit.result _ _ exit.ensures.1 }

pub condition-returns-in_err-part-in-Not : goal.condition-returns-in_err-part-in-Not
condition-returns-in_err-part-in-Not t c =
    let exit = c.from_residual-in_err-part-in-Not in
    record { condition = no_value exit.result _ _ exit.ensures.1; lines = no_change exit.result _ _ exit.ensures.1 }

pub condition-returns-in_err-new-in-Not : goal.condition-returns-in_err-new-in-Not
condition-returns-in_err-new-in-Not t c =
    let exit = c.from_residual-in_err-new-in-Not in
    record { condition = no_value exit.result _ _ exit.ensures.1; lines = no_change exit.result _ _ exit.ensures.1 }

pub condition-returns-in_err-parts-in-And : goal.condition-returns-in_err-parts-in-And
condition-returns-in_err-parts-in-And t c =
    let exit = c.from_residual-in_err-parts-in-And in
    record { condition = no_value exit.result _ _ exit.ensures.1; lines = no_change exit.result _ _ exit.ensures.1 }

pub condition-returns-in_err-parts-in-Or : goal.condition-returns-in_err-parts-in-Or
condition-returns-in_err-parts-in-Or t c =
    let exit = c.from_residual-in_err-parts-in-Or in
    record { condition = no_value exit.result _ _ exit.ensures.1; lines = no_change exit.result _ _ exit.ensures.1 }

pub condition-returns-in_err-add_block-in-Exists : goal.condition-returns-in_err-add_block-in-Exists
condition-returns-in_err-add_block-in-Exists t c =
    let exit = c.from_residual-in_err-add_block-in-Exists in
    record { condition = no_value exit.result _ _ exit.ensures.1; lines = no_change exit.result _ _ exit.ensures.1 }

pub condition-returns-in_err-term-in-In : goal.condition-returns-in_err-term-in-In
condition-returns-in_err-term-in-In t c =
    let exit = c.from_residual-in_err-term-in-In in
    record { condition = no_value exit.result _ _ exit.ensures.1; lines = no_change exit.result _ _ exit.ensures.1 }

pub condition-returns-in_err-shown-in-In : goal.condition-returns-in_err-shown-in-In
condition-returns-in_err-shown-in-In t c =
    let exit = c.from_residual-in_err-shown-in-In in
    record { condition = no_value exit.result _ _ exit.ensures.1; lines = no_change exit.result _ _ exit.ensures.1 }

pub conditions-returns-in_err-condition : goal.conditions-returns-in_err-condition
conditions-returns-in_err-condition t c =
    let exit = c.from_residual in
    record { conditions = no_value exit.result _ _ exit.ensures.1; lines = no_change exit.result _ _ exit.ensures.1 }

pub conditions-returns-in_err-push : goal.conditions-returns-in_err-push
conditions-returns-in_err-push t c =
    let exit = c.from_residual-in_err-push in
    record { conditions = no_value exit.result _ _ exit.ensures.1; lines = no_change exit.result _ _ exit.ensures.1 }

pub conjuncts-returns-in_err-framed : goal.conjuncts-returns-in_err-framed
conjuncts-returns-in_err-framed t c =
    let exit = c.from_residual in
    record { conjuncts = no_value exit.result _ _ exit.ensures.1; lines = no_change exit.result _ _ exit.ensures.1 }

pub join_sides-returns-in_err-more : goal.join_sides-returns-in_err-more
join_sides-returns-in_err-more t c =
    let exit = c.from_residual in
    record { numbers = no_value exit.result _ _ exit.ensures.1; on = no_value exit.result _ _ exit.ensures.1; classes = no_value exit.result _ _ exit.ensures.1; lines = no_change exit.result _ _ exit.ensures.1 }

pub join_sides-returns-in_err-extend_from_slice : goal.join_sides-returns-in_err-extend_from_slice
join_sides-returns-in_err-extend_from_slice t c =
    let exit = c.from_residual-in_err-extend_from_slice in
    record { numbers = no_value exit.result _ _ exit.ensures.1; on = no_value exit.result _ _ exit.ensures.1; classes = no_value exit.result _ _ exit.ensures.1; lines = no_change exit.result _ _ exit.ensures.1 }

pub join_sides-returns-in_err-push : goal.join_sides-returns-in_err-push
join_sides-returns-in_err-push t c =
    let exit = c.from_residual-in_err-push in
    record { numbers = no_value exit.result _ _ exit.ensures.1; on = no_value exit.result _ _ exit.ensures.1; classes = no_value exit.result _ _ exit.ensures.1; lines = no_change exit.result _ _ exit.ensures.1 }

pub join_sides-returns-in_err-on : goal.join_sides-returns-in_err-on
join_sides-returns-in_err-on t c =
    let exit = c.from_residual-in_err-on in
    record { numbers = no_value exit.result _ _ exit.ensures.1; on = no_value exit.result _ _ exit.ensures.1; classes = no_value exit.result _ _ exit.ensures.1; lines = no_change exit.result _ _ exit.ensures.1 }
