-- The operators that implement expressions.
use Rattle.std.proofs.Common.{◌≡◌, refl, ap, sym, ◌∙◌, ℕ, true, false, List}
use Rattle.algebra.specs.declared.condition.Condition.{Condition}
use Rattle.algebra.specs.declared.expr.Aggregation.{Aggregation}
use Rattle.algebra.specs.declared.expr.Expr.{Expr}
use Rattle.algebra.specs.declared.expr.Expr.TheVariants.{Select, Join, LeftJoin, Keep, Group}
use Rattle.algebra.specs.ConditionEquality.{same_conditions}
use Rattle.algebra.specs.Equality.{same_columns, same_aggregations}
use Rattle.algebra.specs.Expressions.{is_plain}
use Rattle.algebra.proofs.Same.{tested_conditions, tested_columns, tested_aggregations}
use Rattle.physical.specs.declared.plan.Matching.TheVariants.{Inner, Left}
use Rattle.physical.specs.declared.plan.JoinMethod.TheVariants.{NestedLoop}
use Rattle.physical.specs.declared.plan.GroupMethod.TheVariants.{Hash}
use Rattle.physical.specs.declared.plan.Operator.TheVariants.{Filter, FilterSubqueries, Projection, JoinRows, GroupRows}
use Rattle.certificate.specs.Replay.{implements}
use Rattle.planner.specs.Canonical.{IsBasicOf}

same-conditions : (C D : List Condition) → C ≡ D → same_conditions C D ≡ true
same-conditions C D e = sym (tested_conditions true C D (λ _. e, λ _. refl))

same-columns : (K L : List ℕ) → K ≡ L → same_columns K L ≡ true
same-columns K L e = sym (tested_columns true K L (λ _. e, λ _. refl))

same-aggregations : (G H : List Aggregation) → G ≡ H → same_aggregations G H ≡ true
same-aggregations G H e = sym (tested_aggregations true G H (λ _. e, λ _. refl))

module _ (x : Expr) where
  pub filter_of : (C D : List Condition) (g : ℕ) → x ≡ Select D g → C ≡ D → is_plain D ≡ true → IsBasicOf x (Filter C)
  filter_of C D g is e plain = record { basic = refl; implemented = λ cols. ap (implements cols (Filter C)) is ∙ rw (plain, same-conditions C D e) refl }

  pub subqueries_of : (C D : List Condition) (g : ℕ) → x ≡ Select D g → C ≡ D → is_plain D ≡ false → IsBasicOf x (FilterSubqueries C)
  subqueries_of C D g is e plain = record { basic = refl; implemented = λ cols. ap (implements cols (FilterSubqueries C)) is ∙ rw (plain, same-conditions C D e) refl }

  pub join_of : (C D : List Condition) (a b : ℕ) → x ≡ Join D a b → C ≡ D → IsBasicOf x (JoinRows NestedLoop (Inner C))
  join_of C D a b is e = record { basic = refl; implemented = λ cols. ap (implements cols (JoinRows NestedLoop (Inner C))) is ∙ rw (same-conditions C D e) refl }

  pub left_join_of : (C D : List Condition) (a b : ℕ) → x ≡ LeftJoin D a b → C ≡ D → IsBasicOf x (JoinRows NestedLoop (Left C))
  left_join_of C D a b is e = record { basic = refl; implemented = λ cols. ap (implements cols (JoinRows NestedLoop (Left C))) is ∙ rw (same-conditions C D e) refl }

  pub projection_of : (K L : List ℕ) (g : ℕ) → x ≡ Keep L g → K ≡ L → IsBasicOf x (Projection K)
  projection_of K L g is e = record { basic = refl; implemented = λ cols. ap (implements cols (Projection K)) is ∙ same-columns K L e }

  pub group_of : (K L : List ℕ) (G H : List Aggregation) (g : ℕ) → x ≡ Group L H g → K ≡ L → G ≡ H → IsBasicOf x (GroupRows Hash K G)
  group_of K L G H g is e f = record { basic = refl; implemented = λ cols. ap (implements cols (GroupRows Hash K G)) is ∙ rw (same-columns K L e, same-aggregations G H f) refl }
