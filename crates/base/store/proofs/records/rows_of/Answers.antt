use Rattle.std.proofs.Common.{◌≡◌, ◌<◌, ◌∷◌, [], length, arith, rules, length-append}
use Rattle.schema.specs.Databases.{most_rows}
use Rattle.store.specs.declared.fault.TableCause.TheVariants.{TooMany}
use Rattle.store.specs.Reading.{Remains}
use Rattle.store.proofs.ReadRecords.{ends_there, stops_there, goes_on, row_fails}
use Rattle.store.proofs.records.rows_of.Goals as goal

pub returns-then-not-branch : goal.returns-then-not-branch
returns-then-not-branch g c = record {
  fits = c.loop-reader.invariant.fits;
  read = λ records rest w0 h.
      let (more, held, w) = c.loop-reader.invariant.written records rest w0 h in
      ends_there c.args.columns.now records c.loop-reader.rows.rows more c.in_ok-next_of.field-0 _ (λ m. Remains g.R.Read.remaining c.next_of.new.reader m) (c.in_ok-next_of.ensures more held) (search rules) c.loop-reader.invariant.fits.few w;
}

pub loop-reader-preserved : goal.loop-reader-preserved
loop-reader-preserved g c =
    let few : length c.loop-reader.rows.rows < most_rows = omega arith in
    let (row, stands, is) = c.in-Ok.ensures.read in
    rw is (record {
      fits = record { kinds = c.loop-reader.invariant.fits.kinds; few = omega (arith, length-append c.loop-reader.rows.rows (row ∷ [])) };
      written = λ records rest w0 h.
          let (more, held, w) = c.loop-reader.invariant.written records rest w0 h in
          goes_on c.args.columns.now records c.loop-reader.rows.rows more c.in_ok-next_of.field-0 _ (λ m. Remains g.R.Read.remaining c.next_of.new.reader m) row (c.in_ok-next_of.ensures more held) (search rules) w stands;
    })

pub returns-in-Err-Refused : goal.returns-in-Err-Refused
returns-in-Err-Refused g c =
    let few : length c.loop-reader.rows.rows < most_rows = omega arith in
    let bad = rw c.in-Err-Refused.field-0-is at c.in-Err-Refused.ensures.read in
    rw (c.refusal.ensures, c.len-in-Err-Refused.ensures, c.in-Err-Refused.ensures.err) (record {
      fits = c.loop-reader.invariant.fits;
      read = λ records rest w0 h.
          let (more, held, w) = c.loop-reader.invariant.written records rest w0 h in
          stops_there c.args.columns.now records c.loop-reader.rows.rows more c.in_ok-next_of.field-0 _ (λ m. Remains g.R.Read.remaining c.next_of.new.reader m) c.in-Err-Refused.cause (c.in_ok-next_of.ensures more held) (search rules) c.loop-reader.invariant.fits.few w
          (row_fails c.args.columns.now (length c.loop-reader.rows.rows) _ c.in-Err-Refused.cause few bad);
    })

pub returns-then-not-branch-2 : goal.returns-then-not-branch-2
returns-then-not-branch-2 g c = record {
  fits = c.loop-reader.invariant.fits;
  read = λ records rest w0 h.
      let (more, held, w) = c.loop-reader.invariant.written records rest w0 h in
      ends_there c.args.columns.now records c.loop-reader.rows.rows more c.in_ok-next_of-2.field-0 _ (λ m. Remains g.R.Read.remaining c.next_of-2.new.reader m) (c.in_ok-next_of-2.ensures more held) (search rules) c.loop-reader.invariant.fits.few w;
}

pub returns : goal.returns
returns g c =
    let few = c.loop-reader.invariant.fits.few in
    let full : length c.loop-reader.rows.rows ≡ most_rows = omega (arith, few) in
    rw (c.refusal-2.ensures, c.len-2.ensures) (record {
      fits = c.loop-reader.invariant.fits;
      read = λ records rest w0 h.
          let (more, held, w) = c.loop-reader.invariant.written records rest w0 h in
          stops_there c.args.columns.now records c.loop-reader.rows.rows more c.in_ok-next_of-2.field-0 _ (λ m. Remains g.R.Read.remaining c.next_of-2.new.reader m) TooMany (c.in_ok-next_of-2.ensures more held) (search rules) few w full;
    })
