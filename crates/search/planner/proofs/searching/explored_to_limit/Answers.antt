use Rattle.std.proofs.Common.{subst}
use Rattle.algebra.proofs.MentionedColumns.{on_ok}
use Rattle.lean_logs.specs.Growth.{FillsLean}
use Rattle.lean_logs.proofs.Growth.{lean_at_first, lean_fills, lean_then_fills}
use Rattle.planner.proofs.searching.explored_to_limit.Goals as goal

pub returns-then-is_full-clause-fills : goal.returns-then-is_full-clause-fills
returns-then-is_full-clause-fills c = lean_fills _ _ _ (lean_at_first _ _)

pub returns-then-is_full-2-clause-fills : goal.returns-then-is_full-2-clause-fills
returns-then-is_full-2-clause-fills c = lean_fills _ _ _ c.in_ok-apply_and_learn.ensures.lean

pub returns-clause-fills : goal.returns-clause-fills
returns-clause-fills c =
    let known = c.apply_and_learn.new.memo in
    on_ok c.explore.result (λ fills. lean_then_fills _ _ _ _ c.in_ok-apply_and_learn.ensures.lean (subst (λ n. FillsLean n known.log c.explore.new.memo.log) c.apply_and_learn.ensures.limit fills)) c.explore.ensures.fills
