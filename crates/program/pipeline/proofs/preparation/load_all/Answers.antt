use Rattle.std.proofs.Common.{◌≡◌, ◌<◌, ◌∙◌, length, arith}
use Rattle.std.proofs.Math.ListN.{set}
use Rattle.std.proofs.lemmas.List.{map-set, length-set, length-map}
use Rattle.pipeline.proofs.Loaded.{loaded_more, said_there, still_counted, load_fails, load_device, device_rose, device_quiet}
use Rattle.pipeline.proofs.preparation.load_all.Goals as goal

pub returns-in-Err-clause-fails : goal.returns-in-Err-clause-fails
returns-in-Err-clause-fails g c =
    load_fails c.args.database.now.schema _ _ _ _ c.loop-number.database c.load.new.self c.loop-number.number c.in-Err.fault c.of_table.result
    (omega (arith, c.loop-number.invariant.count, c.loop-number-test.true, c.requires.schema)) c.loop-number.invariant.schema
    (said_there g.R.TableInput.remaining c.loop-number.tables c.index-tables-number.result c.loop-number.number _ (omega (arith, c.loop-number.invariant.count, c.loop-number-test.true)) c.in-Err.ensures.exact)
    c.loop-number.invariant.loaded c.of_table.ensures

pub returns-in-Err-clause-device : goal.returns-in-Err-clause-device
returns-in-Err-clause-device g c =
    let within : c.loop-number.number < length c.loop-number.tables = omega (arith, c.loop-number.invariant.count, c.loop-number-test.true) in
    load_device c.loop-number.number c.in-Err.fault c.of_table.result _ _ 0
    (λ is. device_rose g.R.TableInput.failures _ _ _ _ c.loop-number.tables c.index-tables-number.result c.load.new.input c.loop-number.number _ within c.loop-number.invariant.loaded (c.in-Err.ensures.device is))
    (λ is. device_quiet g.R.TableInput.failures _ _ _ _ c.loop-number.tables c.index-tables-number.result c.load.new.input c.loop-number.number _ within c.loop-number.invariant.loaded (c.in-Err.ensures.refused is)) c.of_table.ensures

pub loop-number-preserved : goal.loop-number-preserved
loop-number-preserved g c =
    let same : length (set c.loop-number.tables c.loop-number.number c.load.new.input) ≡ length c.loop-number.tables = length-set c.loop-number.tables c.loop-number.number c.load.new.input in
    record {
      count = same ∙ c.loop-number.invariant.count;
      few = omega (arith, same, c.loop-number.invariant.few, c.load.ensures.size);
      schema = c.load.ensures.schema ∙ c.loop-number.invariant.schema;
      loaded = rw (map-set g.R.TableInput.remaining c.loop-number.tables c.loop-number.number c.load.new.input, map-set g.R.TableInput.failures c.loop-number.tables c.loop-number.number c.load.new.input)
          (loaded_more c.args.database.now.schema _ _ _ _ c.loop-number.database c.load.new.self c.loop-number.number _ _
          (omega (arith, c.loop-number.invariant.count, c.loop-number.invariant.few, c.loop-number-test.true))
          (rw length-map (omega (arith, c.loop-number.invariant.count, c.loop-number-test.true)))
          (still_counted g.R.TableInput.failures c.loop-number.tables c.index-tables-number.result c.load.new.input c.loop-number.number (omega (arith, c.loop-number.invariant.count, c.loop-number-test.true)) c.in_default.ensures.quiet)
          c.loop-number.invariant.schema c.in_default.ensures.replaced
          (said_there g.R.TableInput.remaining c.loop-number.tables c.index-tables-number.result c.loop-number.number _ (omega (arith, c.loop-number.invariant.count, c.loop-number-test.true)) c.in_default.ensures.exact)
          c.loop-number.invariant.loaded);
    }

pub returns-clause-reported : goal.returns-clause-reported
returns-clause-reported g c n below t bytes at input = c.loop-number.invariant.loaded.reported n (omega (arith, below, c.loop-number-test.false)) t bytes at input

pub returns-clause-quiet : goal.returns-clause-quiet
returns-clause-quiet g c k = c.loop-number.invariant.loaded.quiet k
