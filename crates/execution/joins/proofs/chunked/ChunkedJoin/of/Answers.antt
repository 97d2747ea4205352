use Rattle.std.proofs.Common.{◌≡◌, ap, ◌∙◌, ◌∷◌, [], ◌++◌}
use Rattle.joins.proofs.JoinChains.{one-columns, one-come}
use Rattle.joins.proofs.chunked.ChunkedJoin.of.Goals as goal

pub returns : goal.returns
returns c =
    let stages = c.push.new.self.items in
    let s = c.args.stage in
    let is : stages ≡ s ∷ [] = c.in_ok-push.ensures.items ∙ ap (λ l. l ++ s ∷ []) c.in_ok-stages.ensures.items in
    record { columns_are = one-columns stages s is; rows_are = one-come stages s is }
