use Rattle.std.proofs.Common.{◌∙◌, length, ◌+◌, arith, refl, inr}
use Rattle.csv.specs.Reading.{records, default_config, strip_bom}
use Rattle.store.proofs.records.Parsing.take.Goals as goal

pub returns-clause-read : goal.returns-clause-read
returns-clause-read c =
    let fr = c.from_reader-reader.ensures in
    let e = c.has_headers.ensures in
    let f = c.flexible.ensures in
    let bytes = strip_bom c.args.bytes.now in
    λ before b. c.take_records.ensures.read before (records default_config bytes) b (record {
      bytes = bytes;
      turns = length bytes + 1;
      trim = rw (f, e) at fr.trim ∙ c.new.ensures.trim;
      ready = inr (inr (rw (f, e) at fr.has_headers, fr.headers));
      config = rw (f, e) at fr.config ∙ c.new.ensures.config;
      flexible = rw f at fr.flexible;
      source = fr.source;
      between = rw fr.state refl;
      enough = omega arith;
      rest_is = rw fr.state refl;
    })
