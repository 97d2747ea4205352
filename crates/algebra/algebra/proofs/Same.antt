-- The tests of equality are right.
use Rattle.std.proofs.Common.{◌≡◌, ◌↔◌, IsTrue, refl, ap, sym, ◌∙◌, ℕ, Bool, true, List}
use Rattle.std.specs.Cmp.{both_ways}
use Rattle.std.specs.Coded.{Coded, coded_list, coded_ℕ}
use base.Stored.{Gv, gnil, gnum, gcons}
use Rattle.std.proofs.lemmas.Bool.{and_parts, eqb-true, eq-eqb}
use Rattle.algebra.specs.declared.condition.Condition.{Condition}
use Rattle.algebra.specs.declared.expr.Aggregation.{Aggregation}
use Rattle.algebra.specs.declared.expr.Expr.{Expr}
use Rattle.algebra.specs.contracts.condition.Condition as condition
use Rattle.algebra.specs.contracts.expr.Aggregation as aggregation
use Rattle.algebra.specs.contracts.expr.Expr as expr
use Rattle.algebra.specs.ConditionEquality.{same_code, same_by, same_condition, same_conditions}
use Rattle.algebra.specs.Equality.{same_columns, same_expr, same_aggregation, same_aggregations}

two : (a b : Gv) {c d : Gv} → a ≡ c → b ≡ d → gcons a b ≡ gcons c d
two a b e f = rw (e, f) refl

code-equal : (a b : Gv) → same_code a b ≡ true → a ≡ b
code-equal gnil gnil e = refl
code-equal gnil (gnum n) e = cc
code-equal gnil (gcons c d) e = cc
code-equal (gnum m) gnil e = cc
code-equal (gnum m) (gnum n) e = ap gnum (eqb-true m n e)
code-equal (gnum m) (gcons c d) e = cc
code-equal (gcons a b) gnil e = cc
code-equal (gcons a b) (gnum n) e = cc
code-equal (gcons a b) (gcons c d) e =
    let parts : (same_code a c ≡ true) × (same_code b d ≡ true) = and_parts (same_code a c) (same_code b d) e in
    two a b (code-equal a c parts.0) (code-equal b d parts.1)

code-refl : (a : Gv) → same_code a a ≡ true
code-refl gnil = refl
code-refl (gnum n) = eq-eqb n n refl
code-refl (gcons a b) = rw (code-refl a, code-refl b) refl

pub same_by-equal : {A : Type 0} (coded : Coded A) (x y : A) → same_by coded x y ≡ true → x ≡ y
same_by-equal coded x y e = coded.inj x y (code-equal (coded.code x) (coded.code y) e)

same_by-refl : {A : Type 0} (coded : Coded A) (x y : A) → x ≡ y → same_by coded x y ≡ true
same_by-refl coded x y e = ap (λ z. same_by coded x z) (sym e) ∙ code-refl (coded.code x)

-- what is true just where two values are equal is the test
pub tested : {A : Type 0} (coded : Coded A) (b : Bool) (x y : A) → IsTrue b ↔ (x ≡ y) → b ≡ same_by coded x y
tested coded b x y is = both_ways b (same_by coded x y) (λ e. same_by-refl coded x y (is.0 e)) (λ e. is.1 (same_by-equal coded x y e))

pub tested_condition : (b : Bool) (x y : Condition) → IsTrue b ↔ (x ≡ y) → b ≡ same_condition x y
unfolding same_condition
tested_condition = tested condition.the_row.coded

pub tested_conditions : (b : Bool) (x y : List Condition) → IsTrue b ↔ (x ≡ y) → b ≡ same_conditions x y
unfolding same_conditions
tested_conditions = tested (coded_list condition.the_row.coded)

pub tested_columns : (b : Bool) (x y : List ℕ) → IsTrue b ↔ (x ≡ y) → b ≡ same_columns x y
unfolding same_columns
tested_columns = tested (coded_list coded_ℕ)

pub tested_expr : (b : Bool) (x y : Expr) → IsTrue b ↔ (x ≡ y) → b ≡ same_expr x y
unfolding same_expr
tested_expr = tested expr.the_row.coded

pub same-expr : (x : Expr) → same_expr x x ≡ true
same-expr x = sym (tested_expr true x x (λ e. refl, λ e. refl))

pub tested_aggregation : (b : Bool) (x y : Aggregation) → IsTrue b ↔ (x ≡ y) → b ≡ same_aggregation x y
unfolding same_aggregation
tested_aggregation = tested aggregation.the_row.coded

pub tested_aggregations : (b : Bool) (x y : List Aggregation) → IsTrue b ↔ (x ≡ y) → b ≡ same_aggregations x y
unfolding same_aggregations
tested_aggregations = tested (coded_list aggregation.the_row.coded)

pub equal_condition : (x y : Condition) → same_condition x y ≡ true → x ≡ y
unfolding same_condition
equal_condition = same_by-equal condition.the_row.coded

pub equal_conditions : (x y : List Condition) → same_conditions x y ≡ true → x ≡ y
unfolding same_conditions
equal_conditions = same_by-equal (coded_list condition.the_row.coded)

pub equal_columns : (x y : List ℕ) → same_columns x y ≡ true → x ≡ y
unfolding same_columns
equal_columns = same_by-equal (coded_list coded_ℕ)

pub equal_expr : (x y : Expr) → same_expr x y ≡ true → x ≡ y
unfolding same_expr
equal_expr = same_by-equal expr.the_row.coded

pub equal_aggregations : (x y : List Aggregation) → same_aggregations x y ≡ true → x ≡ y
unfolding same_aggregations
equal_aggregations = same_by-equal (coded_list aggregation.the_row.coded)

pub equal_aggregation : (x y : Aggregation) → same_aggregation x y ≡ true → x ≡ y
unfolding same_aggregation
equal_aggregation = same_by-equal aggregation.the_row.coded

pub same_aggregation-refl : (x : Aggregation) → same_aggregation x x ≡ true
unfolding same_aggregation
same_aggregation-refl x = same_by-refl aggregation.the_row.coded x x refl

pub same_columns-refl : (x : List ℕ) → same_columns x x ≡ true
unfolding same_columns
same_columns-refl x = same_by-refl (coded_list coded_ℕ) x x refl
