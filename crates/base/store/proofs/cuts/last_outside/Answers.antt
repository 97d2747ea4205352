use Rattle.store.proofs.CutRecords.{before_end, quotes_next, cuts_next}
use Rattle.store.proofs.cuts.last_outside.Goals as goal
use Rattle.store.proofs.cuts.last_outside.Goals.{in-Some, in_default}

pub returns-then-end-text : goal.returns-then-end-text
returns-then-end-text c = elim c.match-last_line_end.branch [
  | in-Some w ↦ rw w.cut-is (cuts_next c.args.text.now c.loop-begin.begin c.until_quote.result w.in-Some.at c.loop-begin.quotes c.loop-begin.invariant.quotes c.until_quote.ensures.plain w.in-Some.ensures)
  | in_default w ↦ rw w.cut-is c.loop-begin.invariant.cut
]

pub loop-begin-preserved : goal.loop-begin-preserved
loop-begin-preserved c =
    let within = c.until_quote.ensures.within in
    let long = before_end c.args.text.now c.loop-begin.begin c.until_quote.result within c.loop-begin-test.true c.if-end-text.false in
    record {
      quotes = rw (c.behind-quotes.ensures, c.behind_plain.ensures) (quotes_next c.args.text.now c.loop-begin.begin c.until_quote.result c.loop-begin.quotes long (c.until_quote.ensures.quote long) c.loop-begin.invariant.quotes);
      cut = elim c.match-last_line_end.branch [
        | in-Some w ↦ rw w.cut-is (cuts_next c.args.text.now c.loop-begin.begin c.until_quote.result w.in-Some.at c.loop-begin.quotes c.loop-begin.invariant.quotes c.until_quote.ensures.plain w.in-Some.ensures)
        | in_default w ↦ rw w.cut-is c.loop-begin.invariant.cut
      ];
    }
