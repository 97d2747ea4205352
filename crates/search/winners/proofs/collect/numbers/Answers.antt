use Rattle.std.proofs.Common.{◌≡◌, ◌∙◌, sym, ap, subst, ◌+◌, ℕ, take, slice_get, ◌++◌, ◌∷◌, [], Some}
use Rattle.std.proofs.lemmas.List.{take_more}
use Rattle.algebra.specs.Columns.{columns_at}
use Rattle.labels.specs.declared.goal.Goal.{Goal}
use Rattle.winners.specs.Numbers.{AreNumbers}
use Rattle.winners.proofs.Collecting.{numbers_kept}
use Rattle.winners.proofs.Lists.{zip_push}
use Rattle.winners.proofs.collect.numbers.Goals as goal

pub loop-goal-preserved : goal.loop-goal-preserved
loop-goal-preserved c =
    let wanted = c.args.wanted.now in
    let i = c.loop-goal.goal-index in
    let g = c.goal-item.result in
    let log = c.args.derived.log.now in
    let old = c.loop-goal.goals.list.items in
    let new = c.number.new.self.list.items in
    let before = c.loop-goal.invariant in
    let own = c.in_ok-number.ensures in
    let n : ℕ = c.in_ok-number.field-0 in
    let kept = numbers_kept log.instances log.log (columns_at c.args.derived.columns.now) old new c.loop-goal.numbers (take i wanted) own.kept before.are in
    let more = zip_push (λ k (h : Goal). slice_get new k ≡ Some h) c.loop-goal.numbers (take i wanted) n g kept own.number in
    let taken : take (i + 1) wanted ≡ take i wanted ++ g ∷ [] = take_more wanted i g c.loop-goal-test.true ∙ ap (λ (h : Goal). take i wanted ++ h ∷ []) (sym c.goal-item.is) in
    record {
      indexed = own.indexed;
      kept = λ k h at. own.kept k h (before.kept k h at);
      are = subst (λ ns. AreNumbers new ns (take (i + 1) wanted)) (sym c.in_ok-push.ensures.ok) (subst (AreNumbers new (c.loop-goal.numbers ++ n ∷ [])) (sym taken) more);
    }
