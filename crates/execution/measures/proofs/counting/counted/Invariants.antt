use Rattle.std.proofs.Common.{◌≡◌, ◌+◌, None, length}
use Rattle.schema.specs.declared.schema.Schema.{Schema}
use Rattle.query.specs.Rows.{tables_of}
use Rattle.algebra.specs.Bags.{nulls}
use Rattle.physical.specs.Outputs.{output_rows}
use Rattle.measures.proofs.counting.counted.Given as goal

-- the rows that were handed over and those to come are all
abbrev pub invariant-loop-cursor : goal.invariant-loop-cursor
invariant-loop-cursor l = record {
  all : (S : Schema) → length (output_rows l.fn.sources.instances.now (tables_of S l.fn.sources.tables.now) l.fn.plan nulls) ≡ l.rows + length l.cursor.to_come;
  handed : l.cursor.handed ≡ l.rows;
  fault : l.cursor.fault ≡ None;
}

abbrev pub decreases-loop-cursor : goal.decreases-loop-cursor
decreases-loop-cursor l = length l.cursor.to_come
