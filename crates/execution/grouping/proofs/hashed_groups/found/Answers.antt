use Rattle.std.proofs.Common.{◌≡◌, ap, sym, ◌∙◌, ◌-◌, true, false, [], length, get_or, map, arith}
use Rattle.std.proofs.lemmas.List.{get_or-map, length-map}
use Rattle.store.specs.Keys.{key_decides}
use Rattle.grouping.specs.KeyBuckets.{column_key}
use Rattle.grouping.specs.RowNumbers.{numbers_in}
use Rattle.grouping.proofs.FoundGroups.{hash-count, key-search, key-search-on}
use Rattle.grouping.proofs.hashed_groups.found.Goals as goal

pub loop-from-init : goal.loop-from-init
loop-from-init c =
    let keys = map (column_key c.args.columns.now) (numbers_in c.args.firsts.now) in
    key-search keys c.args.hashes.now c.requires.hashed (column_key c.args.columns.now c.args.row) c.args.hash c.last-from.result c.requires.hash c.last-from.ensures

pub returns-then-are_same : goal.returns-then-are_same
returns-then-are_same c =
    let key = column_key c.args.columns.now in
    let firsts = numbers_in c.args.firsts.now in
    let within = c.loop-from.invariant.within in
    let long = length-map firsts key in
    record {
      within = omega (arith, within);
      same = λ below. (key_decides (key c.args.row) (key c.number.result)).0 (sym c.are_same.ensures ∙ c.if-are_same.true) ∙ ap key c.number.ensures ∙ sym (get_or-map key firsts (c.loop-from.from - 1) 0 [] (omega (arith, below, long)));
      new = λ last. absurd (omega (arith, within, last, c.loop-from-test.true));
    }

pub loop-from-preserved : goal.loop-from-preserved
loop-from-preserved c =
    let key = column_key c.args.columns.now in
    let firsts = numbers_in c.args.firsts.now in
    let keys = map key firsts in
    let within = c.loop-from.invariant.within in
    let group = c.loop-from.from - 1 in
    let long = length-map firsts key in
    key-search-on keys c.args.hashes.now c.requires.hashed (key c.args.row) c.loop-from.from group c.before-from.result (omega (arith, c.loop-from-test.true)) (omega (arith, within, c.loop-from-test.true)) c.loop-from.invariant
    (λ e. let both : true ≡ false = sym ((key_decides (key c.args.row) (key c.number.result)).1 (e ∙ get_or-map key firsts group 0 [] (omega (arith, long, within, c.loop-from-test.true)) ∙ sym (ap key c.number.ensures))) ∙ sym c.are_same.ensures ∙ c.if-are_same.false in cc both)
    c.before-from.ensures

pub returns : goal.returns
returns c =
    let key = column_key c.args.columns.now in
    let firsts = numbers_in c.args.firsts.now in
    let long = length-map firsts key in
    record {
      within = omega (arith, long, c.len.ensures);
      same = λ below. absurd (omega (arith, below, long, c.len.ensures));
      new = λ last j below. c.loop-from.invariant.apart j (omega (arith, c.loop-from-test.false)) below;
    }
