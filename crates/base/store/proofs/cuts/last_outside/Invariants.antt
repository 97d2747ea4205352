use Rattle.std.proofs.Common.{IfSome, take, length, ◌-◌}
use Rattle.csv.specs.declared.parser.State.TheVariants as st
use Rattle.store.specs.Cuts.{state_after, QuotesIn, CutsText}
use Rattle.store.proofs.cuts.last_outside.Given as goal

abbrev pub invariant-loop-begin : goal.invariant-loop-begin
invariant-loop-begin l = record {
  quotes : QuotesIn l.quotes (state_after st.StartRecord (take l.begin l.text));
  cut : IfSome l.cut (CutsText l.text);
}

abbrev pub decreases-loop-begin : goal.decreases-loop-begin
decreases-loop-begin l = length l.text - l.begin
