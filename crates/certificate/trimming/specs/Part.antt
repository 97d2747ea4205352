-- Parts of a log's lines, and certificates that have one.
use Rattle.std.specs.Prelude.{◌≡◌, ℕ, List, length, flat_map}
use Rattle.derivation.specs.declared.line.Line.{Line}
use Rattle.derivation.specs.Logs.{Log}
use Rattle.physical.specs.declared.plan.Plan.{Plan}
use Rattle.certificate.specs.declared.certificate.Certificate.{Certificate}
use Rattle.trimming.specs.Kept.{IsKept}
use Rattle.trimming.specs.Renumbered.{renumbered_at, renumbered_plan}

-- lines are some of a log's, in their order; what they name by the number of a line that is kept, they name by its new number: its place among
-- those that are kept
pub record ArePart (E : Log) (lines : List Line) : Type 0 where
  pub kept : List ℕ
  pub number : ℕ → ℕ
  pub in_order : IsKept (length E) kept number
  pub part : lines ≡ flat_map (renumbered_at number E) kept

-- the certificate's lines are such a part of the log, and its plan is this one, with their new numbers
pub record IsPart (E : Log) (plan : Plan) (c : Certificate) : Type 0 where
  pub lines : ArePart E c.lines
  pub same_plan : c.plan ≡ renumbered_plan lines.number plan
