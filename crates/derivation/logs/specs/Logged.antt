-- A log of lines that stand, as contracts see it.
use Rattle.std.specs.Prelude.{List, ◌∷◌}
use Rattle.query.specs.declared.query.TableInstance.{TableInstance}
use Rattle.algebra.specs.declared.expr.Aggregation.{Aggregation}
use Rattle.derivation.specs.declared.line.Line.{Line}
use Rattle.derivation.specs.Logs.{Log}

-- the table instances and the aggregates of a query, and lines over them, the last of them first
pub record Logged : Type 0 where
  pub instances : List TableInstance
  pub own : List Aggregation
  pub log : Log

abbrev pub with_line : Logged → Line → Logged
with_line l line = record { instances = l.instances; own = l.own; log = line ∷ l.log }
