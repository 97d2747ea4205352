use Rattle.std.proofs.Common.{◌≡◌, ap, sym, ◌∙◌, ◌-◌, true, false, [], length, get_or, arith}
use Rattle.store.specs.Keys.{key_decides}
use Rattle.grouping.specs.KeyBuckets.{column_key}
use Rattle.grouping.proofs.FoundGroups.{hash-count, key-search, key-search-on}
use Rattle.grouping.proofs.key_table.KeyTable.found.Goals as goal

pub loop-from-init : goal.loop-from-init
loop-from-init g c = key-search g.keys c.args.self.now.hashes c.requires.0.hashed (column_key c.args.columns.now c.args.row) c.args.hash c.last-from.result c.requires.1 c.last-from.ensures

pub returns-then-has_key : goal.returns-then-has_key
returns-then-has_key g c =
    let wanted = column_key c.args.columns.now c.args.row in
    let within = c.loop-from.invariant.within in
    record {
      within = omega (arith, within);
      same = λ below. (key_decides wanted (get_or g.keys (c.loop-from.from - 1) [])).0 (sym c.has_key.ensures ∙ c.if-has_key.true);
      new = λ last. absurd (omega (arith, within, last, c.loop-from-test.true));
    }

pub loop-from-preserved : goal.loop-from-preserved
loop-from-preserved g c =
    let wanted = column_key c.args.columns.now c.args.row in
    let within = c.loop-from.invariant.within in
    let group = c.loop-from.from - 1 in
    key-search-on g.keys c.args.self.now.hashes c.requires.0.hashed wanted c.loop-from.from group c.before-from.result (omega (arith, c.loop-from-test.true)) (omega (arith, within, c.loop-from-test.true)) c.loop-from.invariant
    (λ e. let both : true ≡ false = sym ((key_decides wanted (get_or g.keys group [])).1 e) ∙ sym c.has_key.ensures ∙ c.if-has_key.false in cc both)
    c.before-from.ensures

pub returns : goal.returns
returns g c =
    let many = hash-count g.keys c.args.self.now.hashes c.requires.0.hashed in
    record {
      within = omega (arith, many, c.len.ensures);
      same = λ below. absurd (omega (arith, below, many, c.len.ensures));
      new = λ last j below. c.loop-from.invariant.apart j (omega (arith, c.loop-from-test.false)) below;
    }
