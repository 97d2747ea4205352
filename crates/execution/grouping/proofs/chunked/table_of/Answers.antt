use Rattle.std.proofs.Common.{◌≡◌, refl, ap, sym, subst, ◌∙◌, ◌+◌, ◌++◌, get_or, length, drop, arith}
use Rattle.std.specs.List.{AllByRecursion}
use Rattle.std.proofs.lemmas.List.FromFn.{get_or-map-range_with_len, length-map-range_with_len}
use Rattle.query.specs.Aggregates.{MayRead}
use Rattle.algebra.specs.Bags.{Env, nulls}
use Rattle.selections.specs.RowChunks.{IsNextSelected, IsSelectedChunk, chunks_to_come}
use Rattle.relations.specs.Relations.{numbered_env, rows_of}
use Rattle.grouping.proofs.Chunks.{all-came, chunk-all, chunk-fits, chunk-none, drop-more, get-more}
use Rattle.grouping.proofs.chunked.table_of.Goals as goal

pub loop-table-init : goal.loop-table-init
loop-table-init g c =
    let none : 0 ≡ c.in_ok-table.table.count = sym c.in_ok-table.ensures.empty in
    record {
      groups = c.in_ok-table.ensures.groups (λ n. get_or g.all n nulls);
      rest = c.requires.0 ∙ ap (λ n. drop n g.all) none;
      few = omega (arith, none);
      within = omega (arith, none);
    }

pub loop-table-preserved : goal.loop-table-preserved
loop-table-preserved g c =
    let n = c.loop-table.table.count in
    let chunk = c.in-Some.chunk in
    let xs = rows_of chunk nulls in
    let ys = chunks_to_come c.next_chunk.new.self in
    let inv = c.loop-table.invariant in
    let next : IsNextSelected c.loop-table.chunks c.next_chunk.new.self chunk = subst (IsSelectedChunk c.loop-table.chunks c.next_chunk.new.self) c.in-Some.is c.in_ok-chunk.ensures in
    let is : drop n g.all ≡ xs ++ ys = sym inv.rest ∙ next.rows_are in
    let long : length xs ≡ chunk.rows.count = length-map-range_with_len (numbered_env chunk nulls) 0 chunk.rows.count in
    let many : c.add.new.self.count ≡ n + length xs = c.in_ok-add.ensures.count ∙ ap (λ k. n + k) (sym long) in
    record {
      groups = c.in_ok-add.ensures.groups;
      rest = sym (drop-more n g.all xs ys is) ∙ ap (λ k. drop k g.all) (sym many);
      few = omega (arith, many, long, c.count.ensures, c.if-chunk-count.false, inv.few);
      within = omega (arith, many, chunk-fits n g.all xs ys is inv.within);
    }

pub add-requires : goal.add-requires
add-requires g c =
    let n = c.loop-table.table.count in
    let chunk = c.in-Some.chunk in
    let xs = rows_of chunk nulls in
    let ys = chunks_to_come c.next_chunk.new.self in
    let inv = c.loop-table.invariant in
    let next : IsNextSelected c.loop-table.chunks c.next_chunk.new.self chunk = subst (IsSelectedChunk c.loop-table.chunks c.next_chunk.new.self) c.in-Some.is c.in_ok-chunk.ensures in
    let is : drop n g.all ≡ xs ++ ys = sym inv.rest ∙ next.rows_are in
    let long : length xs ≡ chunk.rows.count = length-map-range_with_len (numbered_env chunk nulls) 0 chunk.rows.count in (
      refl,
      (
        omega (arith, inv.few, c.count.ensures, c.if-chunk-count.false),
        (
          λ i below. sym (get_or-map-range_with_len (numbered_env chunk nulls) 0 chunk.rows.count i i nulls below (omega arith)) ∙ get-more n g.all xs ys is i nulls (omega (arith, long, below)),
          (
            chunk-all (λ (r : Env). AllByRecursion (λ a. MayRead a.aggregate r) c.args.added.now) n g.all xs ys is c.requires.1,
            inv.groups,
          ),
        ),
      ),
    )

pub returns-then-chunk-count : goal.returns-then-chunk-count
returns-then-chunk-count g c =
    let n = c.loop-table.table.count in
    let chunk = c.in-Some.chunk in
    let xs = rows_of chunk nulls in
    let ys = chunks_to_come c.next_chunk.new.self in
    let inv = c.loop-table.invariant in
    let next : IsNextSelected c.loop-table.chunks c.next_chunk.new.self chunk = subst (IsSelectedChunk c.loop-table.chunks c.next_chunk.new.self) c.in-Some.is c.in_ok-chunk.ensures in
    let long : length xs ≡ chunk.rows.count = length-map-range_with_len (numbered_env chunk nulls) 0 chunk.rows.count in
    omega (arith, long, c.count.ensures, c.if-chunk-count.true, inv.few, chunk-fits n g.all xs ys (sym inv.rest ∙ next.rows_are) inv.within)

pub returns : goal.returns
returns g c =
    let inv = c.loop-table.invariant in
    let none = sym inv.rest ∙ chunk-none c.loop-table.chunks c.next_chunk.new.self c.in_ok-chunk.field-0 c.in_default.not-Some c.in_ok-chunk.ensures in
    (inv.groups, all-came c.loop-table.table.count g.all none inv.within)
