use Rattle.std.proofs.Common.{◌≡◌, refl, ap, sym, ◌∙◌, subst, ℕ, ◌-◌, rules, set, slice_get, map, [], arith}
use Rattle.joins.specs.JoinChains.{AreLinked, columns_or_none, come_of}
use Rattle.joins.specs.JoinStages.{IsNextOrNone, joining_of, stage_columns, stage_to_come}
use Rattle.joins.proofs.JoinChains.{again-above, again-fewer, again-rows, again-same, left-columns, none-of, step-above, step-chunk, step-ended, step-none, step-same, step-within}
use Rattle.joins.proofs.join_chains.+next_of.Goals as goal

pub loop-chunk-init : goal.loop-chunk-init
loop-chunk-init t c = record { same = refl; rows = refl; above = λ i past. refl }

pub returns-in-Some-clause-same : goal.returns-in-Some-clause-same
returns-in-Some-clause-same t c =
    step-same c.args.stages.now.items c.loop-chunk.stages.items c.args.number c.index_mut.result.now c.next_chunk.new.self c.requires.within c.loop-chunk.invariant.same c.index_mut.ensures.value c.next_chunk.ensures.same

pub returns-in-Some-clause-above : goal.returns-in-Some-clause-above
returns-in-Some-clause-above t c =
    step-above c.args.stages.now.items c.loop-chunk.stages.items c.args.number c.index_mut.result.now c.next_chunk.new.self c.requires.within c.loop-chunk.invariant.same c.index_mut.ensures.value c.next_chunk.ensures.same c.loop-chunk.invariant.above

pub returns-in-Some-clause-chunk : goal.returns-in-Some-clause-chunk
returns-in-Some-clause-chunk t c =
    let j = c.index_mut.result.now in
    let k = c.next_chunk.new.self in
    step-chunk c.args.stages.now.items c.loop-chunk.stages.items c.args.number c.index_mut.result.now c.next_chunk.new.self c.requires.within c.loop-chunk.invariant.same c.index_mut.ensures.value c.next_chunk.ensures.same c.in-Some.chunk c.loop-chunk.invariant.rows
    (subst (IsNextOrNone (stage_columns j) (stage_to_come j) (stage_to_come k)) c.in-Some.is c.in_ok-chunk.ensures.chunk)

pub returns-in_err-chunk-clause-same : goal.returns-in_err-chunk-clause-same
returns-in_err-chunk-clause-same t c =
    step-same c.args.stages.now.items c.loop-chunk.stages.items c.args.number c.index_mut.result.now c.next_chunk.new.self c.requires.within c.loop-chunk.invariant.same c.index_mut.ensures.value c.next_chunk.ensures.same

pub returns-then-number-eq0 : goal.returns-then-number-eq0
returns-then-number-eq0 t c =
    let j = c.index_mut.result.now in
    let k = c.next_chunk.new.self in
    let none = none-of (stage_columns j) (stage_to_come j) (stage_to_come k) c.in_ok-chunk.field-0 c.in_default.not-Some c.in_ok-chunk.ensures.chunk in
    record {
      same = step-same c.args.stages.now.items c.loop-chunk.stages.items c.args.number c.index_mut.result.now c.next_chunk.new.self c.requires.within c.loop-chunk.invariant.same c.index_mut.ensures.value c.next_chunk.ensures.same;
      above = step-above c.args.stages.now.items c.loop-chunk.stages.items c.args.number c.index_mut.result.now c.next_chunk.new.self c.requires.within c.loop-chunk.invariant.same c.index_mut.ensures.value c.next_chunk.ensures.same c.loop-chunk.invariant.above;
      chunk = step-none c.args.stages.now.items c.loop-chunk.stages.items c.args.number c.index_mut.result.now c.next_chunk.new.self c.requires.within c.loop-chunk.invariant.same c.index_mut.ensures.value c.next_chunk.ensures.same c.loop-chunk.invariant.rows c.if-number-eq0.true none;
    }

pub next_of-requires : goal.next_of-requires
next_of-requires t c =
    let within = step-within c.args.stages.now.items c.loop-chunk.stages.items c.args.number c.index_mut.result.now c.next_chunk.new.self c.requires.within c.loop-chunk.invariant.same c.index_mut.ensures.value c.next_chunk.ensures.same in
    let linked : AreLinked (map joining_of (set c.loop-chunk.stages.items c.args.number c.next_chunk.new.self)) = subst AreLinked (sym (step-same c.args.stages.now.items c.loop-chunk.stages.items c.args.number c.index_mut.result.now c.next_chunk.new.self c.requires.within c.loop-chunk.invariant.same c.index_mut.ensures.value c.next_chunk.ensures.same)) c.requires.linked in
    (omega (arith, c.decreases, c.if-number-eq0.false), (omega (arith, within), (linked, omega arith)))

pub returns-in_err-left-clause-same : goal.returns-in_err-left-clause-same
returns-in_err-left-clause-same t c =
    c.next_of.ensures.same ∙ step-same c.args.stages.now.items c.loop-chunk.stages.items c.args.number c.index_mut.result.now c.next_chunk.new.self c.requires.within c.loop-chunk.invariant.same c.index_mut.ensures.value c.next_chunk.ensures.same

pub returns-in_default-2-clause-same : goal.returns-in_default-2-clause-same
returns-in_default-2-clause-same t c =
    c.next_of.ensures.same ∙ step-same c.args.stages.now.items c.loop-chunk.stages.items c.args.number c.index_mut.result.now c.next_chunk.new.self c.requires.within c.loop-chunk.invariant.same c.index_mut.ensures.value c.next_chunk.ensures.same

pub returns-in_default-2-clause-above : goal.returns-in_default-2-clause-above
returns-in_default-2-clause-above t c =
    let step = step-above c.args.stages.now.items c.loop-chunk.stages.items c.args.number c.index_mut.result.now c.next_chunk.new.self c.requires.within c.loop-chunk.invariant.same c.index_mut.ensures.value c.next_chunk.ensures.same c.loop-chunk.invariant.above in
    λ i past. c.in_ok-left.ensures.above i (omega (arith, past)) ∙ step i past

pub returns-in_default-2-clause-chunk : goal.returns-in_default-2-clause-chunk
returns-in_default-2-clause-chunk t c =
    let j = c.index_mut.result.now in
    let k = c.next_chunk.new.self in
    let none = none-of (stage_columns j) (stage_to_come j) (stage_to_come k) c.in_ok-chunk.field-0 c.in_default.not-Some c.in_ok-chunk.ensures.chunk in
    let ys = c.next_of.new.stages.items in
    let xs = set c.loop-chunk.stages.items c.args.number c.next_chunk.new.self in
    let m = c.args.number - 1 in
    let lower = none-of (columns_or_none (slice_get xs m)) (come_of xs m) (come_of ys m) c.in_ok-left.field-0 c.in_default-2.not-Some c.in_ok-left.ensures.chunk in
    step-ended c.args.stages.now.items c.loop-chunk.stages.items c.args.number c.index_mut.result.now c.next_chunk.new.self c.requires.within c.loop-chunk.invariant.same c.index_mut.ensures.value c.next_chunk.ensures.same ys c.if-number-eq0.false c.in_ok-left.ensures.above c.loop-chunk.invariant.rows none lower

pub restart-requires : goal.restart-requires
restart-requires t c =
    let ys = c.next_of.new.stages.items in
    let xs = set c.loop-chunk.stages.items c.args.number c.next_chunk.new.self in
    let m = c.args.number - 1 in
    let K = columns_or_none (slice_get xs m) in
    let left = c.in-Some-2.left in
    let next = subst (IsNextOrNone K (come_of xs m) (come_of ys m)) c.in-Some-2.is c.in_ok-left.ensures.chunk in
    let i = c.index_mut-in-loop-chunk.result.now in
    left-columns c.args.stages.now.items c.loop-chunk.stages.items c.args.number c.index_mut.result.now c.next_chunk.new.self c.requires.within c.loop-chunk.invariant.same c.index_mut.ensures.value c.next_chunk.ensures.same ys c.if-number-eq0.false c.in_ok-left.ensures.above left K next i i c.next_of.ensures.same c.index_mut-in-loop-chunk.ensures.value refl c.requires.linked refl

pub returns-in_err-restart-clause-same : goal.returns-in_err-restart-clause-same
returns-in_err-restart-clause-same t c =
    let ys = c.next_of.new.stages.items in
    let xs = set c.loop-chunk.stages.items c.args.number c.next_chunk.new.self in
    let m = c.args.number - 1 in
    let K = columns_or_none (slice_get xs m) in
    let left = c.in-Some-2.left in
    let next = subst (IsNextOrNone K (come_of xs m) (come_of ys m)) c.in-Some-2.is c.in_ok-left.ensures.chunk in
    let i = c.index_mut-in-loop-chunk.result.now in
    again-same c.args.stages.now.items c.loop-chunk.stages.items c.args.number c.index_mut.result.now c.next_chunk.new.self c.requires.within c.loop-chunk.invariant.same c.index_mut.ensures.value c.next_chunk.ensures.same ys c.if-number-eq0.false c.in_ok-left.ensures.above left K next i c.restart.new.self c.next_of.ensures.same c.index_mut-in-loop-chunk.ensures.value c.restart.ensures.same

pub loop-chunk-smaller : goal.loop-chunk-smaller
loop-chunk-smaller t c =
    let ys = c.next_of.new.stages.items in
    let xs = set c.loop-chunk.stages.items c.args.number c.next_chunk.new.self in
    let m = c.args.number - 1 in
    let K = columns_or_none (slice_get xs m) in
    let left = c.in-Some-2.left in
    let next = subst (IsNextOrNone K (come_of xs m) (come_of ys m)) c.in-Some-2.is c.in_ok-left.ensures.chunk in
    let i = c.index_mut-in-loop-chunk.result.now in
    again-fewer c.args.stages.now.items c.loop-chunk.stages.items c.args.number c.index_mut.result.now c.next_chunk.new.self c.requires.within c.loop-chunk.invariant.same c.index_mut.ensures.value c.next_chunk.ensures.same ys c.if-number-eq0.false c.in_ok-left.ensures.above left K next i c.restart.new.self c.next_of.ensures.same c.index_mut-in-loop-chunk.ensures.value c.restart.ensures.same

pub loop-chunk-preserved : goal.loop-chunk-preserved
loop-chunk-preserved t c =
    let j = c.index_mut.result.now in
    let k = c.next_chunk.new.self in
    let none = none-of (stage_columns j) (stage_to_come j) (stage_to_come k) c.in_ok-chunk.field-0 c.in_default.not-Some c.in_ok-chunk.ensures.chunk in
    let ys = c.next_of.new.stages.items in
    let xs = set c.loop-chunk.stages.items c.args.number c.next_chunk.new.self in
    let m = c.args.number - 1 in
    let K = columns_or_none (slice_get xs m) in
    let left = c.in-Some-2.left in
    let next = subst (IsNextOrNone K (come_of xs m) (come_of ys m)) c.in-Some-2.is c.in_ok-left.ensures.chunk in
    let i = c.index_mut-in-loop-chunk.result.now in
    record {
      same = again-same c.args.stages.now.items c.loop-chunk.stages.items c.args.number c.index_mut.result.now c.next_chunk.new.self c.requires.within c.loop-chunk.invariant.same c.index_mut.ensures.value c.next_chunk.ensures.same ys c.if-number-eq0.false c.in_ok-left.ensures.above left K next i c.restart.new.self c.next_of.ensures.same c.index_mut-in-loop-chunk.ensures.value c.restart.ensures.same;
      rows = again-rows c.args.stages.now.items c.loop-chunk.stages.items c.args.number c.index_mut.result.now c.next_chunk.new.self c.requires.within c.loop-chunk.invariant.same c.index_mut.ensures.value c.next_chunk.ensures.same ys c.if-number-eq0.false c.in_ok-left.ensures.above left K next i c.restart.new.self c.next_of.ensures.same c.index_mut-in-loop-chunk.ensures.value c.restart.ensures.same c.loop-chunk.invariant.rows none c.in_ok-restart.ensures.rows;
      above = again-above c.args.stages.now.items c.loop-chunk.stages.items c.args.number c.index_mut.result.now c.next_chunk.new.self c.requires.within c.loop-chunk.invariant.same c.index_mut.ensures.value c.next_chunk.ensures.same ys c.if-number-eq0.false c.in_ok-left.ensures.above left K next i c.restart.new.self c.next_of.ensures.same c.index_mut-in-loop-chunk.ensures.value c.restart.ensures.same c.loop-chunk.invariant.above;
    }
