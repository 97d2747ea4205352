use Rattle.std.proofs.Common.{◌≡◌, ap, ◌∙◌, List, length, map, ◌≤◌, arith}
use Rattle.std.specs.Set.{is_member}
use Rattle.std.proofs.lemmas.List.{length-map, take_all}
use Rattle.std.proofs.lemmas.Map.Made.{length-from_keys}
use Rattle.schema.specs.Databases.{Row, values_at}
use Rattle.store.specs.Keys.{key_eq, key_equiv}
use Rattle.statistics.proofs.DifferentKeys.{keys-more}
use Rattle.statistics.proofs.counting.keys_by_set.Goals as goal

pub loop-row-preserved : goal.loop-row-preserved
loop-row-preserved c = (
  λ q. keys-more c.args.places.now c.args.rows.now c.loop-row.row c.new.result q _ _ (omega (arith, c.len-row-end.ensures)) c.new.ensures (c.loop-row.invariant.0 q) (c.in_ok-insert.ensures.updates.0 q),
  c.in_ok-insert.ensures.unique,
)

pub returns : goal.returns
returns c =
    let ks : List Row = map (values_at c.args.places.now) c.args.rows.now in
    let done : length c.args.rows.now ≡ c.loop-row.row = omega (arith, c.len-row-end.ensures) in
    let all : length ks ≤ c.loop-row.row = rw (length-map c.args.rows.now (values_at c.args.places.now), done) omega arith in
    c.len.ensures.len ∙ length-from_keys key_equiv c.loop-row.keys.keys ks c.loop-row.invariant.1 (λ q. c.loop-row.invariant.0 q ∙ ap (λ l. is_member key_eq l q) (take_all c.loop-row.row ks all))
