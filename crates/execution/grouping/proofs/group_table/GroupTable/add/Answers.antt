use Rattle.std.proofs.Common.{◌≡◌, refl, ap, sym, subst, ◌∙◌, ◌+◌, ℕ, List, Vec, Global, get_or, length, map, arith}
use Rattle.std.specs.List.{AllZip}
use Rattle.std.proofs.lemmas.List.{get_or_default, length-map}
use Rattle.query.specs.declared.aggregates.Running.{Running}
use Rattle.query.specs.Aggregates.{column_of}
use Rattle.algebra.specs.declared.expr.Aggregation.{Aggregation}
use Rattle.algebra.specs.Bags.{Env, nulls}
use Rattle.relations.specs.declared.row_columns.RowColumn.{RowColumn}
use Rattle.relations.specs.RowColumns.{column_value}
use Rattle.relations.specs.Relations.{numbered_env, rows_of}
use Rattle.grouping.specs.Groups.{AreAfter}
use Rattle.grouping.specs.GroupTables.{AreNumberedFrom, HasRowsFrom, groups_seen, keys_seen, row_key}
use Rattle.grouping.specs.KeyTables.{HasKeys}
use Rattle.grouping.proofs.AllRows.{none}
use Rattle.grouping.proofs.Readable.{aggregate-readable}
use Rattle.grouping.proofs.Zips.{zip-begun, zip-done, zip-next, zip-set-next, zip-to-length}
use Rattle.grouping.proofs.group_table.GroupTable.add.Goals as goal

module _ (of : List ℕ × (ℕ → Env)) (count : ℕ) where
  abbrev held : Aggregation → Vec Running Global → Type 0
  held a r = AreAfter a.aggregate (λ n. of.1 n (column_of a.aggregate)) (groups_seen (row_key of.1 of.0) count) r.items

-- as many columns as keys
key-width : (columns : List RowColumn) (keys : List ℕ) (row : Env) (K : List ℕ) (slice : List RowColumn) → slice ≡ columns → map (λ column. column_value column 0) columns ≡ map row keys → keys ≡ K → length slice ≡ length K
key-width columns keys row K slice is shown same = ap length is ∙ sym (length-map columns (λ column. column_value column 0)) ∙ ap length shown ∙ length-map keys row ∙ ap length same

pub returns-clause-groups : goal.returns-clause-groups
returns-clause-groups g c =
    let first = c.args.self.now.count in
    let last = first + c.args.chunk.now.rows.count in
    let is : last ≡ c.loop-place.self.count + c.args.chunk.now.rows.count = omega (arith, c.loop-place.invariant.count) in
    record {
      keys_are = subst (λ n. HasKeys (length g.of.0) (keys_seen (row_key g.of.1 g.of.0) n) c.loop-place.self.keys) is c.loop-place.invariant.keys;
      held = subst (λ n. AllZip (held g.of n) c.args.added.now c.loop-place.self.running.items) is (zip-done (held g.of last) (held g.of first) c.loop-place.place c.args.added.now c.loop-place.self.running.items (omega arith) c.loop-place.invariant.held);
    }

pub loop-place-init : goal.loop-place-init
loop-place-init g c =
    let first = c.args.self.now.count in
    let last = first + c.args.chunk.now.rows.count in
    record {
      held = zip-begun (held g.of last) (held g.of first) c.args.added.now c.args.self.now.running.items c.requires.1.1.1.1.held;
      keys = subst (λ width. HasKeys width (keys_seen (row_key g.of.1 g.of.0) last) c.group_numbers.new.keys)
          (key-width c.in_ok-columns.columns.items _ (numbered_env c.args.chunk.now nulls 0) g.of.0 c.as_slice-2.result.now c.as_slice-2.ensures.value (c.in_ok-columns.ensures 0) (c.as_slice.ensures.columns ∙ c.requires.0))
          c.in_ok-numbers.ensures.seen;
      count = refl;
    }

pub index_mut-running-requires : goal.index_mut-running-requires
index_mut-running-requires g c =
    let first = c.args.self.now.count in
    let long = zip-to-length (held g.of (first + c.args.chunk.now.rows.count)) (held g.of first) c.loop-place.place c.args.added.now c.loop-place.self.running.items c.loop-place.invariant.held in
    omega (arith, long, c.loop-place-test.true, c.loop-place.self.running.ok)

pub group_numbers-requires : goal.group_numbers-requires
group_numbers-requires g c =
    let chunk = c.args.chunk.now in (
      refl,
      (
        λ i below.
            ap (map (λ (column : RowColumn). column_value column i)) c.as_slice-2.ensures.value ∙ c.in_ok-columns.ensures i
            ∙ ap (map (numbered_env chunk nulls i)) (c.as_slice.ensures.columns ∙ c.requires.0)
            ∙ ap (λ (e : Env). map e g.of.0) (c.requires.1.1.0 i below),
        subst (λ width. HasKeys width (keys_seen (row_key g.of.1 g.of.0) c.args.self.now.count) c.args.self.now.keys) (sym (key-width c.in_ok-columns.columns.items _ (numbered_env chunk nulls 0) g.of.0 c.as_slice-2.result.now c.as_slice-2.ensures.value (c.in_ok-columns.ensures 0) (c.as_slice.ensures.columns ∙ c.requires.0))) c.requires.1.1.1.1.keys_are,
      ),
    )

pub add_rows-requires : goal.add_rows-requires
add_rows-requires g c =
    let chunk = c.args.chunk.now in
    let A = c.args.added.now in
    let i = c.loop-place.place in
    let first = c.args.self.now.count in
    let key = row_key g.of.1 g.of.0 in
    let is : first ≡ c.loop-place.self.count = sym c.loop-place.invariant.count in
    let numbers = c.as_slice-in-loop-place.ensures.value in
    let one = get_or A i none in
    let next = zip-next (held g.of (first + chunk.rows.count)) (held g.of first) i A c.loop-place.self.running.items none c.index_mut-running.result.now c.loop-place-test.true c.loop-place.invariant.held in (
      omega (arith, is, c.requires.1.0),
      (
        subst (λ n. HasRowsFrom g.of.1 n chunk) is c.requires.1.1.0,
        (
          aggregate-readable A i one c.loop-place-test.true (get_or_default A i none one c.loop-place-test.true) (rows_of chunk nulls) c.requires.1.1.1.0,
          (
            subst (λ n. AreNumberedFrom key n c.as_slice-in-loop-place.result.now) is (subst (AreNumberedFrom key first) (sym numbers) c.in_ok-numbers.ensures.numbered),
            (
              ap length numbers ∙ c.in_ok-numbers.ensures.each,
              subst (λ n. held g.of n one c.index_mut-running.result.now) is (subst (held g.of first one) (sym c.index_mut-running.ensures.value) next),
            ),
          ),
        ),
      ),
    )

pub loop-place-preserved : goal.loop-place-preserved
loop-place-preserved g c =
    let chunk = c.args.chunk.now in
    let A = c.args.added.now in
    let i = c.loop-place.place in
    let first = c.args.self.now.count in
    let last = first + chunk.rows.count in
    let is : c.loop-place.self.count + chunk.rows.count ≡ last = omega (arith, c.loop-place.invariant.count) in
    let one = get_or A i none in
    let after : held g.of last one c.add_rows.new.running = subst (λ n. held g.of n one c.add_rows.new.running) is c.in_ok-add_rows.ensures in
    record {
      held = zip-set-next (held g.of last) (held g.of first) i A c.loop-place.self.running.items none c.add_rows.new.running c.loop-place-test.true after c.loop-place.invariant.held;
      keys = c.loop-place.invariant.keys;
      count = c.loop-place.invariant.count;
    }
