use Rattle.std.proofs.Common.{Option, subst, rules}
use Rattle.schema.specs.Databases.{Row}
use Rattle.store.proofs.Rising.{Rises, rises_first, rises_next}
use Rattle.store.proofs.unique.rises.Goals as goal
use Rattle.store.proofs.unique.rises.Goals.{in-Some-last+else-not-is_below, in_default-last}

pub loop-row-preserved : goal.loop-row-preserved
loop-row-preserved c =
    let key = rw c.in-Some.is at c.key_of.ensures in
    elim c.match-last.branch [
      | in-Some-last+else-not-is_below w ↦ rises_next c.args.rows.now c.args.places.now c.loop-row.row w.in-Some-last.before c.in-Some.key (subst (λ (o : Option Row). Rises c.args.rows.now c.args.places.now c.loop-row.row o) w.in-Some-last.is c.loop-row.invariant) key.0 (w.is_below.ensures (search rules))
      | in_default-last w ↦ rises_first c.args.rows.now c.args.places.now c.loop-row.row c.in-Some.key (subst (λ (o : Option Row). Rises c.args.rows.now c.args.places.now c.loop-row.row o) w.in_default-last.is c.loop-row.invariant) key.0
    ]
