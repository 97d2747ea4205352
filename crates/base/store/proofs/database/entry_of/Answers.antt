use Rattle.std.proofs.Common.{length, refl}
use Rattle.std.proofs.lemmas.Option.{slice_get_read}
use Rattle.store.proofs.database.entry_of.Goals as goal

pub returns : goal.returns
returns c = slice_get_read c.args.schema.now.tables (length c.args.schema.now.tables) c.args.number c.index-as_slice-number.result refl c.requires (rw c.as_slice.ensures at c.index-as_slice-number.is)
