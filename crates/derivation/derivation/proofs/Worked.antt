-- The worked logs, computed.
use Rattle.std.proofs.Common.{◌≡◌, refl, sym, false, [], ◌∷◌, ◌++◌, reverse}
use Rattle.values.specs.declared.truth.Comparison.TheVariants as by
use Rattle.algebra.specs.declared.condition.Condition.TheVariants.{Compare, IsNull}
use Rattle.algebra.specs.declared.condition.Term.TheVariants.{Column}
use Rattle.algebra.specs.declared.expr.Expr.TheVariants as expr
use Rattle.algebra.specs.ConditionEquality.{same_condition}
use Rattle.algebra.specs.ConjunctParts.{union}
use Rattle.algebra.specs.Equality.{same_columns, same_expr}
use Rattle.algebra.proofs.Same.{same_columns-refl, tested_condition, tested_columns, tested_expr, same-expr}
use Rattle.algebra.proofs.MentionedColumns.{mentions-Compare, mentions-IsNull}
use Rattle.algebra.proofs.ConditionNames.{columns-Compare, columns-IsNull, classes-Compare, classes-IsNull}
use Rattle.outer_rules.proofs.NullConditions.{null_column-IsNull}
use Rattle.props.proofs.OutcomeForms.{outcomes-Compare, outcomes-IsNull}
use Rattle.props.proofs.SingleMatches.{pins-Compare}
use Rattle.rules.specs.declared.shape.Shape.TheVariants.{Class, Join, Anti, Keep}
use Rattle.book.specs.declared.names.RuleName.TheVariants as rule
use Rattle.derivation.specs.declared.line.Line.TheVariants.{Founds}
use Rattle.derivation.specs.Examples.{WorkedLines, WorkedRules, WorkedConditions, WorkedForms, WorkedRefusals, WorkedLogs}
use Rattle.derivation.specs.SmallLogs.{emps, joined, left_joined, twice_joined, by_rule, equal_ids, falling_ids, without_dept, without_right_id, both}
use Rattle.derivation.proofs.WorkedEquations.{parts-Compare, parts-IsNull, text-Compare, text-IsNull, by-texts, union-of-two, adds-stands, spelling-Class, spelling-Select, spelling-Join, spelling-LeftJoin, spelling-Semi, spelling-Anti, spelling-Keep, spelling-Distinct}
use Rattle.derivation.proofs.WorkedUnnesting.{unnested_rules, unnested_conditions, unnested_forms}

lines : WorkedLines
lines = record {
  founds = refl;
  alike = simp same-expr refl;
  alike_over_others = simp same-expr refl;
  not_null = refl;
  weak_key = refl;
  strong_key = simp same_columns-refl refl;
}

-- ---- conditions that differ

equal-null : same_condition (Compare by.Equal (Column 0) (Column 2)) (IsNull (Column 1)) ≡ false
equal-null = sym (tested_condition false _ _ (λ e. cc, λ e. cc))

equal-falling : same_condition (Compare by.Equal (Column 0) (Column 2)) (Compare by.Greater (Column 2) (Column 4)) ≡ false
equal-falling = sym (tested_condition false _ _ (λ e. cc, λ e. cc))

merged : union equal_ids without_dept ≡ both
merged = union-of-two _ _ (parts-Compare by.Equal (Column 0) (Column 2)) (parts-IsNull (Column 1)) equal-null
    (by-texts _ _ _ _ (text-Compare by.Equal (Column 0) (Column 2)) (text-IsNull (Column 1)) refl)

chained : union equal_ids falling_ids ≡ equal_ids ++ falling_ids
chained = union-of-two _ _ (parts-Compare by.Equal (Column 0) (Column 2)) (parts-Compare by.Greater (Column 2) (Column 4)) equal-falling
    (by-texts _ _ _ _ (text-Compare by.Equal (Column 0) (Column 2)) (text-Compare by.Greater (Column 2) (Column 4)) refl)

rules : WorkedRules
rules = record {
  join_commutes = simp (columns-Compare, classes-Compare, same_columns-refl, spelling-Join, spelling-Class, same-expr) refl;
  join_commutes_united = simp (same_columns-refl, spelling-Join, spelling-Class, same-expr) refl;
  join_associates = adds-stands emps [] (reverse (twice_joined ++ Founds (expr.Join falling_ids 1 2) ∷ [])) 4 (by_rule rule.JoinAssociates (4 ∷ 3 ∷ []) (5 ∷ [])) (expr.Join equal_ids 0 5) (Join equal_ids (Class 0) (Join falling_ids (Class 1) (Class 2)))
      (simp classes-Compare refl)
      (simp (columns-Compare, classes-Compare, same_columns-refl) refl)
      (simp (chained, mentions-Compare) refl)
      (simp (spelling-Join, spelling-Class, same-expr) refl);
  selects_merge = simp (columns-Compare, columns-IsNull, classes-Compare, classes-IsNull, same_columns-refl, merged, spelling-Select, spelling-Class, same-expr) refl;
  select_below_join = simp (columns-Compare, classes-Compare, same_columns-refl, mentions-IsNull, spelling-Join, spelling-Select, spelling-Class, same-expr) refl;
  select_into_join = simp (columns-Compare, columns-IsNull, classes-Compare, classes-IsNull, same_columns-refl, merged, spelling-Join, spelling-Class, same-expr) refl;
  condition_below_join = simp (columns-Compare, classes-Compare, same_columns-refl, mentions-Compare, mentions-IsNull, spelling-Join, spelling-Select, spelling-Class, same-expr) refl;
  select_below_semi = simp (columns-Compare, classes-Compare, same_columns-refl, spelling-Semi, spelling-Select, spelling-Class, same-expr) refl;
  select_below_anti = simp (columns-Compare, classes-Compare, same_columns-refl, spelling-Anti, spelling-Select, spelling-Class, same-expr) refl;
  keeps_merge = simp (same_columns-refl, spelling-Keep, spelling-Class, same-expr) refl;
  keep_of_all = simp (same_columns-refl, spelling-Class) refl;
  keep_below_join = adds-stands emps [] (reverse (joined ++ Founds (expr.Keep (2 ∷ []) 2) ∷ Founds (expr.Keep (0 ∷ []) 0) ∷ Founds (expr.Join equal_ids 4 1) ∷ [])) 3 (by_rule rule.KeepBelowJoin (3 ∷ 2 ∷ []) (5 ∷ 4 ∷ []))
      (expr.Keep (2 ∷ []) 5) (Keep (2 ∷ []) (Join equal_ids (Keep (0 ∷ []) (Class 0)) (Class 1)))
      refl
      (simp same_columns-refl refl)
      (simp mentions-Compare refl)
      (simp (spelling-Keep, spelling-Join, spelling-Class, same-expr) refl);
  distinct_of_keyed = simp (same_columns-refl, spelling-Class) refl;
  group_is_distinct = simp (same_columns-refl, spelling-Distinct, spelling-Keep, spelling-Class, same-expr) refl;
  outer_join_is_inner = simp (columns-Compare, classes-Compare, same_columns-refl, outcomes-Compare, spelling-Select, spelling-Join, spelling-Class, same-expr) refl;
  select_below_left_join = simp (columns-Compare, classes-Compare, same_columns-refl, mentions-IsNull, spelling-LeftJoin, spelling-Select, spelling-Class, same-expr) refl;
  condition_below_left_join = simp (columns-Compare, classes-Compare, same_columns-refl, mentions-Compare, mentions-IsNull, spelling-LeftJoin, spelling-Select, spelling-Class, same-expr) refl;
  left_join_below_join = simp (columns-Compare, classes-Compare, same_columns-refl, mentions-Compare, spelling-Join, spelling-LeftJoin, spelling-Class, same-expr) refl;
  left_join_above_join = simp (columns-Compare, classes-Compare, same_columns-refl, mentions-Compare, spelling-LeftJoin, spelling-Join, spelling-Class, same-expr) refl;
  keep_of_left_side = simp (same_columns-refl, pins-Compare, spelling-Keep, spelling-Class, same-expr) refl;
  outer_join_is_anti = adds-stands emps [] (reverse (left_joined ++ Founds (expr.Select without_right_id 2) ∷ Founds (expr.Keep (0 ∷ []) 3) ∷ Founds (expr.Anti equal_ids [] 0 1) ∷ [])) 4 (by_rule rule.OuterJoinIsAnti (4 ∷ 3 ∷ 2 ∷ []) (5 ∷ []))
      (expr.Keep (0 ∷ []) 5) (Keep (0 ∷ []) (Anti equal_ids [] (Class 0) (Class 1)))
      refl
      (simp same_columns-refl refl)
      (simp (mentions-IsNull, null_column-IsNull, outcomes-Compare) refl)
      (simp (spelling-Keep, spelling-Anti, spelling-Class, same-expr) refl);
}

conditions : WorkedConditions
conditions = record {
  join_associates = simp (columns-Compare, classes-Compare, same_columns-refl, mentions-Compare) refl;
  keep_of_all = simp same_columns-refl refl;
  keep_below_join = simp same_columns-refl refl;
  distinct_of_keyed = simp same_columns-refl refl;
  group_is_distinct = simp same_columns-refl refl;
  outer_join_is_inner = simp (columns-IsNull, classes-IsNull, same_columns-refl, outcomes-IsNull) refl;
  left_join_below_join = simp (columns-Compare, classes-Compare, same_columns-refl, mentions-Compare) refl;
  left_join_above_join = simp (columns-Compare, classes-Compare, same_columns-refl, mentions-Compare) refl;
  keep_of_left_side = simp same_columns-refl refl;
  outer_join_is_anti = simp (same_columns-refl, mentions-IsNull, null_column-IsNull, outcomes-Compare) refl;
}

forms : WorkedForms
forms = record {
  select_below_left_join = simp (columns-Compare, classes-Compare, same_columns-refl, mentions-IsNull) refl;
  condition_below_left_join = simp (columns-Compare, classes-Compare, same_columns-refl, mentions-Compare, mentions-IsNull) refl;
}

-- ---- expressions that differ

joins-differ : same_expr (expr.Join equal_ids 1 0) (expr.Join equal_ids 0 1) ≡ false
joins-differ = sym (tested_expr false _ _ (λ e. cc, λ e. cc))

keeps-differ : same_expr (expr.Keep (0 ∷ []) 0) (expr.Keep (1 ∷ []) 0) ≡ false
keeps-differ = sym (tested_expr false _ _ (λ e. cc, λ e. cc))

columns-differ : same_columns (0 ∷ 1 ∷ 2 ∷ 3 ∷ []) (0 ∷ 1 ∷ []) ≡ false
columns-differ = sym (tested_columns false _ _ (λ e. cc, λ e. cc))

refusals : WorkedRefusals
refusals = record {
  unknown_line = refl;
  unknown_class = refl;
  ill_formed = refl;
  other_columns = simp columns-differ refl;
  other_form = simp same_columns-refl refl;
  unlike = simp keeps-differ refl;
  failed_fact = refl;
  other_line = simp (columns-Compare, classes-Compare, same_columns-refl, spelling-Join, spelling-Class, joins-differ) refl;
}

pub worked : WorkedLogs
worked = record { lines = lines; rules = rules; conditions = conditions; forms = forms; unnested_rules = unnested_rules; unnested_conditions = unnested_conditions; unnested_forms = unnested_forms; refusals = refusals }
