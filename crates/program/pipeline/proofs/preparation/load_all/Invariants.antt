use Rattle.std.proofs.Common.{◌≡◌, ◌≤◌, length, map}
use Rattle.pipeline.proofs.Loaded.{IsLoaded}
use Rattle.pipeline.proofs.preparation.load_all.Given as goal

abbrev pub invariant-loop-number : goal.invariant-loop-number
invariant-loop-number g l = record {
  count : length l.tables ≡ length l.fn.tables;
  few : length l.tables ≤ length l.database.tables;
  schema : l.database.schema ≡ l.fn.database.schema;
  loaded : IsLoaded l.fn.database.schema (map g.R.TableInput.remaining l.fn.tables) (map g.R.TableInput.remaining l.tables) (map g.R.TableInput.failures l.fn.tables) (map g.R.TableInput.failures l.tables) l.number l.database.tables;
}
