use Rattle.std.proofs.Common.{sym, ◌∙◌}
use Rattle.planner.proofs.Operators.{filter_of, subqueries_of, join_of, left_join_of, projection_of, group_of}
use Rattle.planner.proofs.certificates.operator_of.Goals as goal

pub returns-then-is_plain : goal.returns-then-is_plain
returns-then-is_plain c = filter_of c.args.expr.now _ _ _ c.in-Select.is c.in_ok-conjuncts-in-Select.ensures (sym c.is_plain.ensures ∙ c.if-is_plain.true)

pub returns-else-is_plain : goal.returns-else-is_plain
returns-else-is_plain c = subqueries_of c.args.expr.now _ _ _ c.in-Select.is c.in_ok-conjuncts-in-Select.ensures (sym c.is_plain.ensures ∙ c.if-is_plain.false)

pub returns-in_ok-copy-in-Join : goal.returns-in_ok-copy-in-Join
returns-in_ok-copy-in-Join c = join_of c.args.expr.now _ _ _ _ c.in-Join.is c.in_ok-copy-in-Join.ensures

pub returns-in_ok-copy-in-LeftJoin : goal.returns-in_ok-copy-in-LeftJoin
returns-in_ok-copy-in-LeftJoin c = left_join_of c.args.expr.now _ _ _ _ c.in-LeftJoin.is c.in_ok-copy-in-LeftJoin.ensures

pub returns-in_ok-copy-in-Keep : goal.returns-in_ok-copy-in-Keep
returns-in_ok-copy-in-Keep c = projection_of c.args.expr.now _ _ _ c.in-Keep.is c.in_ok-copy-in-Keep.ensures

pub returns-in_ok-copy-in-Group-2 : goal.returns-in_ok-copy-in-Group-2
returns-in_ok-copy-in-Group-2 c =
    group_of c.args.expr.now _ _ _ _ _ c.in-Group.is c.in_ok-copy-in-Group.ensures c.in_ok-copy-in-Group-2.ensures
