use Rattle.std.proofs.Common.{◌≡◌, Bool, true, false, rules}
use Rattle.csv.specs.Records.{fields_of}
use Rattle.store.specs.Reading.{Remains}
use Rattle.store.specs.Tables.{names_of}
use Rattle.store.proofs.FrontRecords.{on_both, front_of, no_record, other_first, first_names}
use Rattle.store.proofs.records.Parsing.take_first.Goals as goal

not_both : (b : Bool) → b ≡ true → b ≡ false → ⊥
not_both b t f = cc (t, f)

pub returns-then-not-branch : goal.returns-then-not-branch
returns-then-not-branch g c = record {
  fits = c.requires.fits;
  read = λ rest none h.
      rw (c.requires.open, c.requires.none)
      (no_record c.args.columns.now rest c.args.self.now.rows.rows c.in_ok-next_of.field-0 _ (λ m. Remains g.R.Read.remaining c.next_of.new.reader m) none (c.in_ok-next_of.ensures rest h) c.if-not-branch.true);
}

pub returns-then-not-is_header : goal.returns-then-not-is_header
returns-then-not-is_header g c = record {
  fits = c.requires.fits;
  read = λ rest none h.
      rw c.other_header.ensures
      (other_first c.args.columns.now rest c.args.self.now.rows.rows c.in_ok-next_of.field-0 _ (λ m. Remains g.R.Read.remaining c.next_of.new.reader m) none (c.in_ok-next_of.ensures rest h) c.if-not-branch.false
      (λ e. not_both c.is_header.result (c.is_header.ensures.1 e) c.if-not-is_header.true));
}

pub returns : goal.returns
returns g c =
    let same : fields_of c.next_of.new.fields ≡ names_of c.args.columns.now = c.is_header.ensures.0 (search rules) in
    record {
      fits = c.take_rows.ensures.fits;
      read = λ rest none h.
          let (seen, is, held, w) =
          first_names c.args.columns.now rest c.args.self.now.rows.rows c.in_ok-next_of.field-0 _ (λ m. Remains g.R.Read.remaining c.next_of.new.reader m) none (c.in_ok-next_of.ensures rest h) c.if-not-branch.false same in
          on_both c.take_rows.result _ _ _ (λ named p. rw named (front_of c.args.columns.now rest seen c.take_rows.new.self.rows.rows c.take_rows.new.self.fault is p)) c.take_rows.ensures.named (c.take_rows.ensures.read seen seen w held);
    }
