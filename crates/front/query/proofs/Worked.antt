-- The worked rows, computed.
use Rattle.std.proofs.Common.{◌≡◌, List, [], ◌∷◌, refl, ap, ◌∙◌, sym, arith}
use Rattle.values.specs.declared.value.Value.TheVariants.{Null}
use Rattle.schema.specs.Databases.{Row}
use Rattle.query.specs.Rows.{count}
use Rattle.query.specs.Examples.{WorkedRows, answers, pay_of_depts, int, two}
use Rattle.query.proofs.Company.{company_satisfies}
use Rattle.query.proofs.Equations.{truth-Compare, truth-IsNull, truth-Not, truth-Exists, truth-In, source-Table, source-Join, source-LeftJoin, source-Comma, rows-Block}

groups-of_pay : answers pay_of_depts ≡ two (int 1) (int 500) ∷ two (int 3) (int 400) ∷ two Null (int 500) ∷ []
groups-of_pay = simp (rows-Block, source-Table) refl

exchanged : (r a b : Row) (L : List Row) → count r (b ∷ a ∷ L) ≡ count r (a ∷ b ∷ L)
exchanged r a b L = omega arith

pub worked : WorkedRows
worked = record {
  satisfying = company_satisfies;
  comparison_with_null = simp (rows-Block, source-Table, truth-Compare) refl;
  not_of_unknown = simp (rows-Block, source-Table, truth-Not, truth-Compare) refl;
  not_in_with_null = simp (rows-Block, source-Table, truth-Not, truth-In) refl;
  not_in_without_null = simp (rows-Block, source-Table, truth-Not, truth-In, truth-IsNull) refl;
  not_exists = simp (rows-Block, source-Table, truth-Not, truth-Exists, truth-Compare) refl;
  null_not_in_nothing = simp (rows-Block, source-Table, truth-Not, truth-In, truth-Compare) refl;
  left_join = simp (rows-Block, source-LeftJoin, source-Table, truth-Compare) refl;
  left_join_filtered = simp (rows-Block, source-LeftJoin, source-Table, truth-Compare) refl;
  left_join_with_null = simp (rows-Block, source-LeftJoin, source-Table, truth-Compare, truth-IsNull) refl;
  comma = simp (rows-Block, source-Comma, source-Table, truth-Compare) refl;
  comma_before_a_join = simp (rows-Block, source-Comma, source-Join, source-Table, truth-Compare) refl;
  distinct_nulls = simp (rows-Block, source-Table) refl;
  aggregates = simp (rows-Block, source-Table) refl;
  aggregates_of_no_rows = simp (rows-Block, source-Table, truth-Compare) refl;
  null_group = groups-of_pay;
  having = simp (rows-Block, source-Table, truth-Compare) refl;
  having_of_all = simp (rows-Block, source-Table, truth-Compare) refl;
  having_of_none = simp (rows-Block, source-Table, truth-Compare) refl;
  null_last = record {
    spread = λ r. exchanged r (two (int 1) (int 500)) (two (int 3) (int 400)) (two Null (int 500) ∷ []) ∙ ap (count r) (sym groups-of_pay);
    ordered = (refl, (refl, tt));
  };
  long_sum = simp (rows-Block, source-Table) refl;
}
