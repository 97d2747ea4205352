use Rattle.std.proofs.Common.{refl, append-nil}
use Rattle.algebra.specs.Bags.{nulls}
use Rattle.relations.specs.Relations.{rows_of}
use Rattle.joins.proofs.left_rows.LeftRows.all.Goals as goal

pub returns : goal.returns
returns c = record { columns_are = refl; rows_are = append-nil (rows_of c.args.first nulls) }
