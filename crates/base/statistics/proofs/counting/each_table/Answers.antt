use Rattle.std.proofs.Common.{rules, ◌≡◌, ap, sym, ◌∙◌, ℕ, ◌+◌, List, [], ◌∷◌, ◌++◌, length, length-append, map, take}
use Rattle.std.specs.Iterator.Adapters.{zip_first, zip_second}
use Rattle.std.specs.List.{range_with_len, zip}
use Rattle.std.specs.Slice.Iter.{iter_rest}
use Rattle.std.proofs.lemmas.Slice.Zip.{zip_turn, zip_end}
use Rattle.schema.specs.declared.schema.Table.{Table}
use Rattle.schema.specs.Databases.{Row}
use Rattle.statistics.specs.Counting.{table_counts}
use Rattle.statistics.specs.declared.counts.TableStatistics.{TableStatistics}
use Rattle.statistics.proofs.PairedLists.{numbered-more, numbered-all}
use Rattle.statistics.proofs.UniqueRows.{table_at}
use Rattle.statistics.proofs.counting.each_table.Goals as goal

pub table_counts-requires : goal.table_counts-requires
table_counts-requires c =
    let entries = c.args.entries.now in
    let tables = c.args.tables.now in
    let start = c.into_iter-entry-iterator.result in
    let first : iter_rest (zip_first start) ≡ entries = search rules in
    let second : iter_rest (zip_second start) ≡ tables = search rules in
    let seen = c.loop-entry.yielded in
    let turn = zip_turn entries tables seen start c.loop-entry.entry-iterator c.next.new.self c.next.result first second c.loop-entry.yielded_by _ c.in-Some.is c.next.ensures.steps in
    table_at entries tables (length seen) c.in-Some.entry.now c.in-Some.rows.now c.requires turn.0 turn.1 (turn.2 c.in-Some.entry.now) (turn.3 c.in-Some.rows.now)

pub loop-entry-preserved : goal.loop-entry-preserved
loop-entry-preserved c =
    let entries = c.args.entries.now in
    let tables = c.args.tables.now in
    let start = c.into_iter-entry-iterator.result in
    let first : iter_rest (zip_first start) ≡ entries = search rules in
    let second : iter_rest (zip_second start) ≡ tables = search rules in
    let seen = c.loop-entry.yielded in
    let turn = zip_turn entries tables seen start c.loop-entry.entry-iterator c.next.new.self c.next.result first second c.loop-entry.yielded_by _ c.in-Some.is c.next.ensures.steps in
    let counts : ℕ × (Table × List Row) → TableStatistics = λ t. table_counts c.args.counted.now t.0 t.1.1 t.1.0 in
    let all = zip (range_with_len 0 (length entries)) (zip entries tables) in
    let before : List TableStatistics = map counts (take (length seen) all) in
    let more = numbered-more counts entries tables (length seen) c.in-Some.entry.now c.in-Some.rows.now turn.0 turn.1 (turn.2 c.in-Some.entry.now) (turn.3 c.in-Some.rows.now) in
    let number = c.len-number.ensures ∙ c.loop-entry.invariant.1 in
    let longer = length-append seen ((c.in-Some.entry, c.in-Some.rows) ∷ []) in (
      c.in_ok-push.ensures.ok ∙ ap (λ (l : List TableStatistics). l ++ c.in_ok-table_counts.field-0 ∷ []) c.loop-entry.invariant.0 ∙ ap (λ t. before ++ t ∷ []) c.in_ok-table_counts.ensures
          ∙ ap (λ n. before ++ counts (n, (c.in-Some.entry.now, c.in-Some.rows.now)) ∷ []) number ∙ sym more ∙ ap (λ n. map counts (take n all)) (sym longer),
      ap length c.in_ok-push.ensures.ok ∙ length-append c.loop-entry.read (c.in_ok-table_counts.field-0 ∷ []) ∙ ap (λ n. n + 1) c.loop-entry.invariant.1 ∙ sym longer,
    )

pub returns : goal.returns
returns c =
    let entries = c.args.entries.now in
    let tables = c.args.tables.now in
    let start = c.into_iter-entry-iterator.result in
    let first : iter_rest (zip_first start) ≡ entries = search rules in
    let second : iter_rest (zip_second start) ≡ tables = search rules in
    let seen = c.loop-entry.yielded in
    let counts : ℕ × (Table × List Row) → TableStatistics = λ t. table_counts c.args.counted.now t.0 t.1.1 t.1.0 in
    let done = zip_end entries tables seen start c.loop-entry.entry-iterator c.next.new.self c.next.result first second c.loop-entry.yielded_by c.in-None.is c.next.ensures.steps in
    c.loop-entry.invariant.0 ∙ ap (map counts) (numbered-all entries tables (length seen) done)
