-- Whether two values are the same. The prover gives each type of plain data a code, a tree of numbers that distinguishes its
-- values: two values are the same where their codes are. Here of conditions, specs/Equality has the others.
use Rattle.std.specs.Prelude.{Bool, true, false, ◌&&◌, ◌==◌, List}
use Rattle.std.specs.Coded.{Coded, coded_list}
use base.Stored.{Gv, gnil, gnum, gcons}
use Rattle.algebra.specs.declared.condition.Condition.{Condition}
use Rattle.algebra.specs.contracts.condition.Condition as condition

abbrev pub same_code : Gv → Gv → Bool
same_code gnil gnil = true
same_code gnil b = false
same_code (gnum m) (gnum n) = m == n
same_code (gnum m) b = false
same_code (gcons a b) (gcons c d) = same_code a c && same_code b d
same_code (gcons a b) c = false

-- whether two values of the type with this code are the same
abbrev pub same_by : {A : Type 0} → Coded A → A → A → Bool
same_by coded x y = same_code (coded.code x) (coded.code y)

unfoldable pub same_condition : Condition → Condition → Bool
same_condition = same_by condition.the_row.coded

unfoldable pub same_conditions : List Condition → List Condition → Bool
same_conditions = same_by (coded_list condition.the_row.coded)
