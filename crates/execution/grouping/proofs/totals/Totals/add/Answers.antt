use Rattle.std.proofs.Common.{refl, sym, subst, List, ◌++◌, get_or, arith}
use Rattle.std.proofs.lemmas.List.{get_or_default, length-append}
use Rattle.query.specs.declared.aggregates.Running.{Running}
use Rattle.algebra.specs.declared.expr.Aggregation.{Aggregation}
use Rattle.algebra.specs.Bags.{Env}
use Rattle.relations.specs.Relations.{env_of, numbered_env, rows_of}
use Rattle.std.proofs.lemmas.List.FromFn.{length-map-range_with_len}
use Rattle.grouping.specs.Totals.{IsHeld}
use Rattle.grouping.proofs.AllRows.{none}
use Rattle.grouping.proofs.Readable.{aggregate-readable}
use Rattle.grouping.proofs.Zips.{zip-begun, zip-done, zip-next, zip-set-next, zip-to-length}
use Rattle.grouping.proofs.totals.Totals.add.Goals as goal

module _ (seen : List Env) where
  abbrev held : Aggregation → Running → Type 0
  held a r = IsHeld a.aggregate seen r

pub returns : goal.returns
returns g c =
    let rows = rows_of c.args.chunk.now (env_of c.args.env.now) in
    record {
      count_is = omega (arith, c.loop-number.invariant.count, c.requires.1.1.count_is, length-append g.seen rows, length-map-range_with_len (numbered_env c.args.chunk.now (env_of c.args.env.now)) 0 c.args.chunk.now.rows.count);
      held = zip-done (held (g.seen ++ rows)) (held g.seen) c.loop-number.number c.args.added.now c.loop-number.self.running.items (omega arith) c.loop-number.invariant.held;
    }

pub loop-number-init : goal.loop-number-init
loop-number-init g c =
    let rows = rows_of c.args.chunk.now (env_of c.args.env.now) in
    record { held = zip-begun (held (g.seen ++ rows)) (held g.seen) c.args.added.now c.args.self.now.running.items c.requires.1.1.held; count = refl }

pub loop-number-preserved : goal.loop-number-preserved
loop-number-preserved g c =
    let rows = rows_of c.args.chunk.now (env_of c.args.env.now) in
    record {
      held = zip-set-next (held (g.seen ++ rows)) (held g.seen) c.loop-number.number c.args.added.now c.loop-number.self.running.items none c.with_rows.result c.loop-number-test.true c.with_rows.ensures c.loop-number.invariant.held;
      count = c.loop-number.invariant.count;
    }

pub with_rows-requires : goal.with_rows-requires
with_rows-requires g c =
    let rows = rows_of c.args.chunk.now (env_of c.args.env.now) in
    let A = c.args.added.now in
    let i = c.loop-number.number in
    let running = c.loop-number.self.running.items in (
      c.requires.0,
      (
        aggregate-readable A i (get_or A i none) c.loop-number-test.true (get_or_default A i none (get_or A i none) c.loop-number-test.true) rows c.requires.1.0,
        subst (held g.seen (get_or A i none)) (sym c.index.ensures) (zip-next (held (g.seen ++ rows)) (held g.seen) i A running none c.index.result.now c.loop-number-test.true c.loop-number.invariant.held),
      ),
    )

pub index-requires : goal.index-requires
index-requires g c =
    let long = zip-to-length (held (g.seen ++ rows_of c.args.chunk.now (env_of c.args.env.now))) (held g.seen) c.loop-number.number c.args.added.now c.loop-number.self.running.items c.loop-number.invariant.held in
    omega (arith, long, c.loop-number-test.true)

pub index_mut-requires : goal.index_mut-requires
index_mut-requires g c =
    let long = zip-to-length (held (g.seen ++ rows_of c.args.chunk.now (env_of c.args.env.now))) (held g.seen) c.loop-number.number c.args.added.now c.loop-number.self.running.items c.loop-number.invariant.held in
    omega (arith, long, c.loop-number-test.true)
