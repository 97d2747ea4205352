-- The worked logs with subqueries, semijoins and antijoins, computed.
use Rattle.std.proofs.Common.{◌≡◌, refl, ap, sym, ◌∙◌, false, [], ◌∷◌, reverse}
use Rattle.values.specs.declared.truth.Comparison.TheVariants as by
use Rattle.algebra.specs.declared.condition.Condition.TheVariants.{Compare, IsNull, Exists}
use Rattle.algebra.specs.declared.condition.Term.TheVariants.{Column}
use Rattle.algebra.specs.declared.expr.Expr.TheVariants as expr
use Rattle.algebra.specs.ConditionEquality.{same_condition}
use Rattle.algebra.specs.ConjunctParts.{union}
use Rattle.algebra.proofs.ConditionNames.{columns-Compare, columns-IsNull, columns-Exists, columns-In, classes-Compare, classes-IsNull, classes-Exists, classes-In}
use Rattle.algebra.proofs.MentionedColumns.{mentions-Compare, mentions-Exists}
use Rattle.algebra.proofs.NamedClasses.{named-IsNull, named-Exists, named-In}
use Rattle.algebra.proofs.Same.{same_columns-refl, tested_condition, same-expr}
use Rattle.props.proofs.SingleMatches.{pins-Compare}
use Rattle.rules.specs.declared.shape.Shape.TheVariants.{Class, Semi}
use Rattle.rules.proofs.Subqueries.{subquery-Not, subquery-Exists, subquery-In}
use Rattle.semijoin_rules.proofs.FilledConditions.{compares-Compare}
use Rattle.subquery_rules.specs.Unnesting.{equated}
use Rattle.book.specs.declared.names.RuleName.TheVariants as rule
use Rattle.derivation.specs.SmallLogs.{emps, by_rule, without_right_dept}
use Rattle.derivation.specs.UnnestedExamples.{UnnestedRules, UnnestedConditions, UnnestedForms, selected_by, dept_among, equal_dept_without}
use Rattle.derivation.proofs.WorkedEquations.{same-condition, out-Not, out-Exists, out-In, parts-Compare, parts-IsNull, parts-Exists, parts-In, asks-Exists, asks-In, rooted-Exists, rooted-In, text-Compare, text-IsNull, by-texts, union-of-turned, conjuncts-of-one, adds-stands, spelling-Class, spelling-Select, spelling-Join, spelling-Semi, spelling-Anti, spelling-Keep}

-- ---- conditions that differ

equal-exists : same_condition (Compare by.Equal (Column 0) (Column 1)) (Exists 1) ≡ false
equal-exists = sym (tested_condition false _ _ (λ e. cc, λ e. cc))

-- ---- an equality of what is picked, and the conditions of the subquery

equal-null : same_condition (Compare by.Equal (Column 1) (Column 2)) (IsNull (Column 3)) ≡ false
equal-null = sym (tested_condition false _ _ (λ e. cc, λ e. cc))

joined-by : union without_right_dept (equated (Column 1, 2)) ≡ equal_dept_without
joined-by =
    ap (union without_right_dept) (conjuncts-of-one _ (parts-Compare by.Equal (Column 1) (Column 2)))
    ∙ union-of-turned _ _ (parts-Compare by.Equal (Column 1) (Column 2)) (parts-IsNull (Column 3)) equal-null
    (by-texts _ _ _ _ (text-Compare by.Equal (Column 1) (Column 2)) (text-IsNull (Column 3)) refl)

pub unnested_rules : UnnestedRules
unnested_rules = record {
  exists_is_semi = simp (mentions-Exists, subquery-Exists, out-Exists, same-condition, same_columns-refl, spelling-Semi, spelling-Class, same-expr) refl;
  second_exists_is_semi = simp (columns-Compare, classes-Compare, mentions-Exists, subquery-Exists, out-Exists, equal-exists, same-condition, parts-Compare, same_columns-refl, spelling-Select, spelling-Semi, spelling-Class, same-expr) refl;
  not_exists_is_anti = simp (mentions-Exists, subquery-Exists, subquery-Not, out-Not, out-Exists, same-condition, same_columns-refl, spelling-Anti, spelling-Class, same-expr) refl;
  in_is_semi = simp (columns-Compare, classes-Compare, mentions-Exists, subquery-In, out-In, same-condition, parts-Compare, same_columns-refl, spelling-Semi, spelling-Class, same-expr) refl;
  not_in_is_anti = simp (columns-Compare, classes-Compare, mentions-Exists, subquery-Not, subquery-In, out-Not, out-In, same-condition, parts-Compare, same_columns-refl, spelling-Anti, spelling-Class, same-expr) refl;
  antijoin_of_filled = simp (columns-Compare, classes-Compare, compares-Compare, parts-Compare, same_columns-refl, spelling-Anti, spelling-Class, same-expr) refl;
  antijoin_of_some_filled = simp (columns-Compare, classes-Compare, compares-Compare, parts-Compare, same_columns-refl, spelling-Anti, spelling-Class, same-expr) refl;
  subquery_of_input = simp (columns-In, classes-In, named-In, asks-In, rooted-In, parts-In, same_columns-refl, spelling-Select, spelling-Class, same-expr) refl;
  subquery_of_distinct = simp (columns-Exists, classes-Exists, named-Exists, rooted-Exists, parts-Exists, same_columns-refl, spelling-Select, spelling-Class, same-expr) refl;
  exists_of_select_is_semi = simp (columns-Compare, classes-Compare, mentions-Exists, subquery-Exists, out-Exists, same-condition, same_columns-refl, spelling-Semi, spelling-Class, same-expr) refl;
  not_exists_of_select_is_anti = simp (columns-Compare, classes-Compare, mentions-Exists, subquery-Not, subquery-Exists, out-Not, out-Exists, same-condition, same_columns-refl, spelling-Anti, spelling-Class, same-expr) refl;
  in_select_is_semi = adds-stands emps [] (reverse (selected_by without_right_dept dept_among)) 3 (by_rule rule.InSelectIsSemi (3 ∷ 2 ∷ []) []) (expr.Semi equal_dept_without 0 1) (Semi equal_dept_without (Class 0) (Class 1))
      (simp (classes-Compare, classes-IsNull) refl)
      (simp (columns-Compare, columns-IsNull, classes-Compare, classes-IsNull, same_columns-refl) refl)
      (simp (classes-IsNull, mentions-Exists, subquery-In, out-In, same-condition, joined-by) refl)
      (simp (spelling-Semi, spelling-Class, same-expr) refl);
  not_in_select_is_anti = simp (columns-Compare, columns-IsNull, classes-Compare, classes-IsNull, mentions-Exists, subquery-Not, subquery-In, out-Not, out-In, same-condition, parts-Compare, same_columns-refl, spelling-Anti, spelling-Class, same-expr) refl;
  semijoin_below_join = simp (columns-Compare, classes-Compare, mentions-Compare, same_columns-refl, spelling-Join, spelling-Semi, spelling-Class, same-expr) refl;
  antijoin_below_join = simp (columns-Compare, classes-Compare, mentions-Compare, same_columns-refl, spelling-Join, spelling-Anti, spelling-Class, same-expr) refl;
  semijoin_is_join = simp (pins-Compare, same_columns-refl, spelling-Keep, spelling-Join, spelling-Class, same-expr) refl;
}

pub unnested_conditions : UnnestedConditions
unnested_conditions = record {
  exists_is_semi = simp (mentions-Compare, mentions-Exists, subquery-Exists, out-Exists, same_columns-refl) refl;
  not_exists_is_anti = simp (mentions-Compare, mentions-Exists, subquery-Not, subquery-Exists, out-Not, out-Exists, same_columns-refl) refl;
  in_is_semi = simp (columns-Compare, classes-Compare, mentions-Exists, subquery-In, out-In, same_columns-refl) refl;
  not_in_is_anti = simp (columns-Compare, classes-Compare, mentions-Exists, subquery-Not, subquery-In, out-Not, out-In, same_columns-refl) refl;
  subquery_of_input = simp (columns-In, classes-In, named-In, asks-In, same_columns-refl) refl;
  exists_of_select_is_semi = simp (classes-Exists, mentions-Exists, subquery-Exists, out-Exists, same_columns-refl) refl;
  not_exists_of_select_is_anti = simp (columns-IsNull, classes-IsNull, mentions-Compare, mentions-Exists, subquery-Not, subquery-Exists, out-Not, out-Exists, same_columns-refl) refl;
  in_select_is_semi = simp (columns-Compare, columns-IsNull, classes-Compare, classes-IsNull, mentions-Compare, mentions-Exists, subquery-In, out-In, same_columns-refl) refl;
  not_in_select_is_anti = simp (columns-Compare, columns-IsNull, classes-Compare, classes-IsNull, mentions-Compare, mentions-Exists, subquery-Not, subquery-In, out-Not, out-In, same_columns-refl) refl;
  exists_of_shared = simp (subquery-Exists, out-Exists, same_columns-refl) refl;
  join_above_semijoin = simp (columns-Compare, classes-Compare, mentions-Compare, same_columns-refl) refl;
  semijoin_below_join = simp (columns-Compare, classes-Compare, mentions-Compare, same_columns-refl) refl;
  semijoin_is_join = simp same_columns-refl refl;
}

pub unnested_forms : UnnestedForms
unnested_forms = record {
  exists_is_semi = simp (subquery-Not, subquery-Exists, out-Not, same_columns-refl) refl;
  not_exists_is_anti = simp (subquery-Exists, out-Exists, same_columns-refl) refl;
  in_is_semi = simp (columns-Compare, classes-Compare, subquery-Not, subquery-In, out-Not, same_columns-refl) refl;
  not_in_is_anti = simp (columns-Compare, classes-Compare, subquery-In, out-In, same_columns-refl) refl;
  missing_conjunct = simp same_columns-refl refl;
  antijoin_of_filled = simp (columns-Compare, classes-Compare, compares-Compare, same_columns-refl) refl;
  subquery_of_input = simp (columns-Exists, classes-Exists, named-Exists, same_columns-refl) refl;
  missing_class = simp (columns-IsNull, classes-IsNull, named-IsNull, same_columns-refl) refl;
  exists_of_select_is_semi = simp (columns-Compare, classes-Compare, subquery-Exists, same_columns-refl) refl;
}
