use Rattle.std.proofs.Common.{◌≡◌, ◌+◌, ◌∙◌, ap, Some, bytes_eq, arith, rules}
use Rattle.std.specs.HashMap as hash
use Rattle.binder.specs.Lent.{one_more}
use Rattle.binder.proofs.Indexes.{column-push}
use Rattle.binder.proofs.scope.add_columns.Goals as goal
use Rattle.binder.proofs.scope.add_columns.Goals.{in-None, in-Some}

pub loop-column-preserved : goal.loop-column-preserved
loop-column-preserved c =
    let l = c.loop-column in
    let x = c.column-item.result in
    let meaning : Some c.match-get.meaning ≡ one_more (hash.get_by (λ k. bytes_eq x.name k.now) l.by_name) (l.place, x.kind) =
    elim c.match-get.branch [
      | in-None w ↦ ap Some w.meaning-is ∙ ap (λ o. one_more o (l.place, x.kind)) (rw (w.in-None.is, c.as_str-name.ensures) at c.get.ensures.value)
      | in-Some w ↦ ap Some w.meaning-is ∙ ap (λ o. one_more o (l.place, x.kind)) (rw (w.in-Some.is, c.as_str-name.ensures) at c.get.ensures.value)
    ] in
    let next : c.in_ok-place.place ≡ l.place + 1 = search rules in
    let up = rw c.as_str-name.ensures at c.in_ok-insert.ensures.updates in
    record {
      place = let before = l.invariant.place in omega arith;
      names = λ q. rw next (column-push l.by_name c.insert.new.self c.args.columns.now l.column-index x l.place c.match-get.meaning (omega arith) c.column-item.is up meaning q ∙ l.invariant.names q);
    }
