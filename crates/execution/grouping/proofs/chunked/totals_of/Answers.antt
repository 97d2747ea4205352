use Rattle.std.proofs.Common.{◌≡◌, ap, sym, subst, ◌∙◌, ◌+◌, ◌++◌, length, take, drop, arith}
use Rattle.std.specs.List.{AllByRecursion}
use Rattle.std.proofs.lemmas.List.{length-append, take_all}
use Rattle.std.proofs.lemmas.List.FromFn.{length-map-range_with_len}
use Rattle.query.specs.Aggregates.{MayRead}
use Rattle.algebra.specs.Bags.{Env, nulls}
use Rattle.selections.specs.RowChunks.{IsNextSelected, IsSelectedChunk, chunks_to_come}
use Rattle.relations.specs.Relations.{numbered_env, rows_of}
use Rattle.grouping.specs.Totals.{AreTotals}
use Rattle.grouping.proofs.Chunks.{all-came, chunk-all, chunk-fits, chunk-none, drop-more, take-more}
use Rattle.grouping.proofs.chunked.totals_of.Goals as goal

pub loop-totals-init : goal.loop-totals-init
loop-totals-init g c =
    let none : 0 ≡ c.in_ok-totals.totals.count = sym c.in_ok-totals.ensures.count_is in
    record {
      totals = subst (λ n. AreTotals c.args.added.now (take n g.all) c.in_ok-totals.totals) none c.in_ok-totals.ensures;
      rest = c.requires.0 ∙ ap (λ n. drop n g.all) none;
      few = omega (arith, none);
      within = omega (arith, none);
    }

pub loop-totals-preserved : goal.loop-totals-preserved
loop-totals-preserved g c =
    let n = c.loop-totals.totals.count in
    let chunk = c.in-Some.chunk in
    let xs = rows_of chunk nulls in
    let ys = chunks_to_come c.next_chunk.new.self in
    let inv = c.loop-totals.invariant in
    let next : IsNextSelected c.loop-totals.chunks c.next_chunk.new.self chunk = subst (IsSelectedChunk c.loop-totals.chunks c.next_chunk.new.self) c.in-Some.is c.in_ok-chunk.ensures in
    let is : drop n g.all ≡ xs ++ ys = sym inv.rest ∙ next.rows_are in
    let long : length xs ≡ chunk.rows.count = length-map-range_with_len (numbered_env chunk nulls) 0 chunk.rows.count in
    let many : c.add.new.self.count ≡ n + length xs = omega (arith, c.add.ensures.count_is, length-append (take n g.all) xs, inv.totals.count_is) in
    record {
      totals = subst (λ rows. AreTotals c.args.added.now rows c.add.new.self) (sym (take-more n g.all xs ys is) ∙ ap (λ k. take k g.all) (sym many)) c.add.ensures;
      rest = sym (drop-more n g.all xs ys is) ∙ ap (λ k. drop k g.all) (sym many);
      few = omega (arith, many, long, c.count.ensures, c.if-chunk-count.false, inv.few);
      within = omega (arith, many, chunk-fits n g.all xs ys is inv.within);
    }

pub add-requires : goal.add-requires
add-requires g c =
    let n = c.loop-totals.totals.count in
    let chunk = c.in-Some.chunk in
    let inv = c.loop-totals.invariant in
    let next : IsNextSelected c.loop-totals.chunks c.next_chunk.new.self chunk = subst (IsSelectedChunk c.loop-totals.chunks c.next_chunk.new.self) c.in-Some.is c.in_ok-chunk.ensures in (
      λ fits. omega (arith, inv.totals.count_is, inv.few, c.count.ensures, c.if-chunk-count.false),
      (
        chunk-all (λ (r : Env). AllByRecursion (λ a. MayRead a.aggregate r) c.args.added.now) n g.all (rows_of chunk nulls) (chunks_to_come c.next_chunk.new.self) (sym inv.rest ∙ next.rows_are) c.requires.1,
        inv.totals,
      ),
    )

pub returns-then-chunk-count : goal.returns-then-chunk-count
returns-then-chunk-count g c =
    let n = c.loop-totals.totals.count in
    let chunk = c.in-Some.chunk in
    let xs = rows_of chunk nulls in
    let ys = chunks_to_come c.next_chunk.new.self in
    let inv = c.loop-totals.invariant in
    let next : IsNextSelected c.loop-totals.chunks c.next_chunk.new.self chunk = subst (IsSelectedChunk c.loop-totals.chunks c.next_chunk.new.self) c.in-Some.is c.in_ok-chunk.ensures in
    let long : length xs ≡ chunk.rows.count = length-map-range_with_len (numbered_env chunk nulls) 0 chunk.rows.count in
    omega (arith, long, c.count.ensures, c.if-chunk-count.true, inv.few, chunk-fits n g.all xs ys (sym inv.rest ∙ next.rows_are) inv.within)

pub returns : goal.returns
returns g c =
    let inv = c.loop-totals.invariant in
    let none = sym inv.rest ∙ chunk-none c.loop-totals.chunks c.next_chunk.new.self c.in_ok-chunk.field-0 c.in_default.not-Some c.in_ok-chunk.ensures in
    subst (λ rows. AreTotals c.args.added.now rows c.loop-totals.totals) (take_all c.loop-totals.totals.count g.all (omega (arith, all-came c.loop-totals.totals.count g.all none inv.within))) inv.totals
