use Rattle.std.proofs.Common.{◌≡◌, ℕ, List}
use Rattle.std.specs.Io.KnownBytes.{Consumes}
use Rattle.store.specs.Fronts.{FitsEntry, ReadsFront}
use Rattle.store.proofs.reading.parse_input.Given as goal

abbrev pub invariant-loop : goal.invariant-loop
invariant-loop g l = record {
  quiet : g.R.TableInput.failures l.input ≡ g.R.TableInput.failures l.fn.input;
  fits : FitsEntry l.columns l.reading.parsing.rows;
  read : (bytes : List ℕ) × Consumes (g.R.TableInput.remaining l.fn.input) (g.R.TableInput.remaining l.input) bytes
      × ReadsFront l.columns bytes l.reading.rest.items l.reading.parsing.named l.reading.parsing.rows.rows l.reading.parsing.fault;
}
