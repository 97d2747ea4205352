use Rattle.std.proofs.Common.{◌≡◌, ap, sym, ◌∙◌, ◌+◌, arith}
use Rattle.rules.specs.declared.shape.Shape.{Shape}
use Rattle.bindings.specs.Shallow.{operator_count}
use Rattle.lean_logs.proofs.Counts.{same_none, same_room, class_counts, select_counts, keep_counts, distinct_counts, group_counts, join_counts, left_join_counts, semi_counts, anti_counts}
use Rattle.lean_logs.proofs.given_results.+counting.Goals as goal

pub room_behind-returns-in-Class-clause-some : goal.room_behind-returns-in-Class-clause-some
room_behind-returns-in-Class-clause-some t c = let none : operator_count c.args.shape.now ≡ 0 = ap operator_count c.in-Class.is ∙ class_counts c.in-Class.field-0 in omega (arith, none)

pub room_behind-returns-in-Select-clause-some : goal.room_behind-returns-in-Select-clause-some
room_behind-returns-in-Select-clause-some t c = same_room _ _ c.args.room c.room_over.result (ap operator_count c.in-Select.is ∙ select_counts c.in-Select.field-0 c.in-Select.x ∙ ap (λ (s : Shape). 1 + operator_count s) (sym c.get.ensures)) c.room_over.ensures.some

pub room_behind-returns-in-Select-clause-none : goal.room_behind-returns-in-Select-clause-none
room_behind-returns-in-Select-clause-none t c = same_none _ _ c.args.room c.room_over.result (ap operator_count c.in-Select.is ∙ select_counts c.in-Select.field-0 c.in-Select.x ∙ ap (λ (s : Shape). 1 + operator_count s) (sym c.get.ensures)) c.room_over.ensures.none

pub room_behind-returns-in-Keep-clause-some : goal.room_behind-returns-in-Keep-clause-some
room_behind-returns-in-Keep-clause-some t c = same_room _ _ c.args.room c.room_over-in-Keep.result (ap operator_count c.in-Keep.is ∙ keep_counts c.in-Keep.field-0 c.in-Keep.x ∙ ap (λ (s : Shape). 1 + operator_count s) (sym c.get-in-Keep.ensures)) c.room_over-in-Keep.ensures.some

pub room_behind-returns-in-Keep-clause-none : goal.room_behind-returns-in-Keep-clause-none
room_behind-returns-in-Keep-clause-none t c = same_none _ _ c.args.room c.room_over-in-Keep.result (ap operator_count c.in-Keep.is ∙ keep_counts c.in-Keep.field-0 c.in-Keep.x ∙ ap (λ (s : Shape). 1 + operator_count s) (sym c.get-in-Keep.ensures)) c.room_over-in-Keep.ensures.none

pub room_behind-returns-in-Distinct-clause-some : goal.room_behind-returns-in-Distinct-clause-some
room_behind-returns-in-Distinct-clause-some t c = same_room _ _ c.args.room c.room_over-in-Distinct.result (ap operator_count c.in-Distinct.is ∙ distinct_counts c.in-Distinct.x ∙ ap (λ (s : Shape). 1 + operator_count s) (sym c.get-in-Distinct.ensures)) c.room_over-in-Distinct.ensures.some

pub room_behind-returns-in-Distinct-clause-none : goal.room_behind-returns-in-Distinct-clause-none
room_behind-returns-in-Distinct-clause-none t c = same_none _ _ c.args.room c.room_over-in-Distinct.result (ap operator_count c.in-Distinct.is ∙ distinct_counts c.in-Distinct.x ∙ ap (λ (s : Shape). 1 + operator_count s) (sym c.get-in-Distinct.ensures)) c.room_over-in-Distinct.ensures.none

pub room_behind-returns-in-Group-clause-some : goal.room_behind-returns-in-Group-clause-some
room_behind-returns-in-Group-clause-some t c = same_room _ _ c.args.room c.room_over-in-Group.result (ap operator_count c.in-Group.is ∙ group_counts c.in-Group.field-0 c.in-Group.field-1 c.in-Group.x ∙ ap (λ (s : Shape). 1 + operator_count s) (sym c.get-in-Group.ensures)) c.room_over-in-Group.ensures.some

pub room_behind-returns-in-Group-clause-none : goal.room_behind-returns-in-Group-clause-none
room_behind-returns-in-Group-clause-none t c = same_none _ _ c.args.room c.room_over-in-Group.result (ap operator_count c.in-Group.is ∙ group_counts c.in-Group.field-0 c.in-Group.field-1 c.in-Group.x ∙ ap (λ (s : Shape). 1 + operator_count s) (sym c.get-in-Group.ensures)) c.room_over-in-Group.ensures.none

pub room_behind-returns-in-Join-clause-some : goal.room_behind-returns-in-Join-clause-some
room_behind-returns-in-Join-clause-some t c = same_room _ _ c.args.room c.room_over_both.result
    (ap operator_count c.in-Join.is ∙ join_counts c.in-Join.field-0 c.in-Join.a c.in-Join.b ∙ ap (λ (s : Shape). 1 + (operator_count s + operator_count c.in-Join.b)) (sym c.get-in-Join.ensures) ∙ ap (λ (s : Shape). 1 + (operator_count c.get-in-Join.result.now + operator_count s)) (sym c.get-in-Join-2.ensures))
    c.room_over_both.ensures.some

pub room_behind-returns-in-Join-clause-none : goal.room_behind-returns-in-Join-clause-none
room_behind-returns-in-Join-clause-none t c = same_none _ _ c.args.room c.room_over_both.result
    (ap operator_count c.in-Join.is ∙ join_counts c.in-Join.field-0 c.in-Join.a c.in-Join.b ∙ ap (λ (s : Shape). 1 + (operator_count s + operator_count c.in-Join.b)) (sym c.get-in-Join.ensures) ∙ ap (λ (s : Shape). 1 + (operator_count c.get-in-Join.result.now + operator_count s)) (sym c.get-in-Join-2.ensures))
    c.room_over_both.ensures.none

pub room_behind-returns-in-LeftJoin-clause-some : goal.room_behind-returns-in-LeftJoin-clause-some
room_behind-returns-in-LeftJoin-clause-some t c = same_room _ _ c.args.room c.room_over_both-in-LeftJoin.result
    (ap operator_count c.in-LeftJoin.is ∙ left_join_counts c.in-LeftJoin.field-0 c.in-LeftJoin.a c.in-LeftJoin.b ∙ ap (λ (s : Shape). 1 + (operator_count s + operator_count c.in-LeftJoin.b)) (sym c.get-in-LeftJoin.ensures) ∙ ap (λ (s : Shape). 1 + (operator_count c.get-in-LeftJoin.result.now + operator_count s)) (sym c.get-in-LeftJoin-2.ensures))
    c.room_over_both-in-LeftJoin.ensures.some

pub room_behind-returns-in-LeftJoin-clause-none : goal.room_behind-returns-in-LeftJoin-clause-none
room_behind-returns-in-LeftJoin-clause-none t c = same_none _ _ c.args.room c.room_over_both-in-LeftJoin.result
    (ap operator_count c.in-LeftJoin.is ∙ left_join_counts c.in-LeftJoin.field-0 c.in-LeftJoin.a c.in-LeftJoin.b ∙ ap (λ (s : Shape). 1 + (operator_count s + operator_count c.in-LeftJoin.b)) (sym c.get-in-LeftJoin.ensures) ∙ ap (λ (s : Shape). 1 + (operator_count c.get-in-LeftJoin.result.now + operator_count s)) (sym c.get-in-LeftJoin-2.ensures))
    c.room_over_both-in-LeftJoin.ensures.none

pub room_behind-returns-in-Semi-clause-some : goal.room_behind-returns-in-Semi-clause-some
room_behind-returns-in-Semi-clause-some t c = same_room _ _ c.args.room c.room_over_both-in-Semi.result
    (ap operator_count c.in-Semi.is ∙ semi_counts c.in-Semi.field-0 c.in-Semi.a c.in-Semi.b ∙ ap (λ (s : Shape). 1 + (operator_count s + operator_count c.in-Semi.b)) (sym c.get-in-Semi.ensures) ∙ ap (λ (s : Shape). 1 + (operator_count c.get-in-Semi.result.now + operator_count s)) (sym c.get-in-Semi-2.ensures))
    c.room_over_both-in-Semi.ensures.some

pub room_behind-returns-in-Semi-clause-none : goal.room_behind-returns-in-Semi-clause-none
room_behind-returns-in-Semi-clause-none t c = same_none _ _ c.args.room c.room_over_both-in-Semi.result
    (ap operator_count c.in-Semi.is ∙ semi_counts c.in-Semi.field-0 c.in-Semi.a c.in-Semi.b ∙ ap (λ (s : Shape). 1 + (operator_count s + operator_count c.in-Semi.b)) (sym c.get-in-Semi.ensures) ∙ ap (λ (s : Shape). 1 + (operator_count c.get-in-Semi.result.now + operator_count s)) (sym c.get-in-Semi-2.ensures))
    c.room_over_both-in-Semi.ensures.none

pub room_behind-returns-in-Anti-clause-some : goal.room_behind-returns-in-Anti-clause-some
room_behind-returns-in-Anti-clause-some t c = same_room _ _ c.args.room c.room_over_both-in-Anti.result
    (ap operator_count c.in-Anti.is ∙ anti_counts c.in-Anti.field-0 c.in-Anti.field-1 c.in-Anti.a c.in-Anti.b ∙ ap (λ (s : Shape). 1 + (operator_count s + operator_count c.in-Anti.b)) (sym c.get-in-Anti.ensures) ∙ ap (λ (s : Shape). 1 + (operator_count c.get-in-Anti.result.now + operator_count s)) (sym c.get-in-Anti-2.ensures))
    c.room_over_both-in-Anti.ensures.some

pub room_behind-returns-in-Anti-clause-none : goal.room_behind-returns-in-Anti-clause-none
room_behind-returns-in-Anti-clause-none t c = same_none _ _ c.args.room c.room_over_both-in-Anti.result
    (ap operator_count c.in-Anti.is ∙ anti_counts c.in-Anti.field-0 c.in-Anti.field-1 c.in-Anti.a c.in-Anti.b ∙ ap (λ (s : Shape). 1 + (operator_count s + operator_count c.in-Anti.b)) (sym c.get-in-Anti.ensures) ∙ ap (λ (s : Shape). 1 + (operator_count c.get-in-Anti.result.now + operator_count s)) (sym c.get-in-Anti-2.ensures))
    c.room_over_both-in-Anti.ensures.none
