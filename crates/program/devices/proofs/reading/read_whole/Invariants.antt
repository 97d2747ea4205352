use Rattle.std.proofs.Common.{◌≡◌, length}
use Rattle.std.specs.Io.KnownBytes.{Consumes}
use Rattle.devices.specs.Inputs.{counted}
use Rattle.devices.proofs.reading.read_whole.Given as goal

abbrev pub invariant-loop : goal.invariant-loop
invariant-loop g l = record {
  bytes : Consumes (g.R.Read.remaining l.fn.reader) (g.R.Read.remaining l.reader.reader) l.bytes.items;
  bounds : l.reader.bounds ≡ l.initial.reader.bounds;
  size : l.reader.bytes ≡ counted (length l.bytes.items);
}
