-- Whatever implements a line is among the operators that are tried for it.
use Rattle.std.proofs.Common.{◌≡◌, refl, ap, sym, ◌∙◌, subst, ℕ, Bool, true, false, not, ◌&&◌, ◌||◌, ◌==◌, if◌then◌else◌, List, [], ◌∷◌, map, slice_get, Option, Some, None}
use Rattle.std.specs.List.{list_all, list_any}
use Rattle.std.proofs.lemmas.Bool.{and_parts, eqb-true}
use Rattle.query.specs.declared.query.TableInstance.{TableInstance}
use Rattle.algebra.specs.declared.condition.Condition.{Condition}
use Rattle.algebra.specs.declared.expr.Aggregation.{Aggregation}
use Rattle.algebra.specs.declared.expr.Expr.{Expr}
use Rattle.algebra.specs.declared.expr.Expr.TheVariants as expr
use Rattle.algebra.specs.Columns.{has, is_subset}
use Rattle.algebra.specs.ConditionEquality.{same_conditions}
use Rattle.algebra.specs.Equality.{same_columns, same_aggregations}
use Rattle.algebra.specs.Equated.{equated, equates, is_across}
use Rattle.algebra.specs.Expressions.{children, is_plain}
use Rattle.algebra.proofs.Lists.{two}
use Rattle.algebra.proofs.Same.{equal_aggregations, equal_columns, equal_conditions}
use Rattle.rules.specs.Matches as matches
use Rattle.derivation.specs.Logs.{Log, member}
use Rattle.physical.specs.declared.plan.IndexAccess.{IndexAccess}
use Rattle.physical.specs.declared.plan.JoinMethod.{JoinMethod}
use Rattle.physical.specs.declared.plan.JoinMethod.TheVariants as join
use Rattle.physical.specs.declared.plan.GroupMethod.{GroupMethod}
use Rattle.physical.specs.declared.plan.GroupMethod.TheVariants as group
use Rattle.physical.specs.declared.plan.Matching.{Matching}
use Rattle.physical.specs.declared.plan.Matching.TheVariants as matching
use Rattle.physical.specs.declared.plan.Operator.{Operator}
use Rattle.physical.specs.declared.plan.Operator.TheVariants.{Scan, IndexScan, Filter, FilterSubqueries, Projection, JoinRows, IndexJoin, GroupRows, DistinctRows}
use Rattle.physical.specs.Indexes.{accessed_columns, are_probed, sure_conditions, has_index, index_columns, finds_by_index, numbers_index}
use Rattle.physical.specs.Outputs.{first_columns, second_columns}
use Rattle.certificate.specs.Replay.{accesses, accesses_second, finds, gets, implements, index_fits, is_get_of, is_join, is_member}
use Rattle.labels.specs.Candidates.{AreAccesses, gets_instance, is_access, joins_hold, line_holds, merges_hold, scans_hold}

-- ---- truths

or-then : (b c : Bool) → (not b || c) ≡ true → b ≡ true → c ≡ true
or-then true c h e = h
or-then false c h e = absurd (cc)

if-so : (b p q : Bool) → (if b then p else q) ≡ true → b ≡ true → p ≡ true
if-so true p q h e = h
if-so false p q h e = absurd (cc)

if-not : (b p q : Bool) → (if b then p else q) ≡ true → not b ≡ true → q ≡ true
if-not true p q h e = absurd (cc)
if-not false p q h e = h

-- ---- accesses

module _ (instances : List TableInstance) (E : Log) where
  has-number : (a : IndexAccess) → has_index instances a ≡ true → numbers_index (slice_get instances a.instance) a.index ≡ true
  has-number a h = (and_parts (numbers_index (slice_get instances a.instance) a.index) (is_subset (index_columns instances a) (accessed_columns instances a)) h).0

  gets-it : (found : Option matches.Line) (g o : ℕ) → gets E found g o ≡ true → gets_instance found o ≡ true
  gets-it None g o h = absurd (cc)
  gets-it (Some l) g o h = (and_parts (is_member E l g) (is_get_of l.expr o) h).1

  both-so : (b c : Bool) → b ≡ true → c ≡ true → (b && c) ≡ true
  both-so true true h k = refl
  both-so true false h k = k
  both-so false c h k = h

  accessed : (a : IndexAccess) (x : ℕ) → accesses E a x ≡ true → has_index instances a ≡ true → is_access instances E a ≡ true
  accessed a x h k = both-so (gets_instance (member E a.line) a.instance) (numbers_index (slice_get instances a.instance) a.index) (gets-it (member E a.line) x a.instance h) (has-number a k)

-- ---- operators

module _ (instances : List TableInstance) (E : Log) (cols : ℕ → List ℕ) (list : List IndexAccess) (whole : AreAccesses instances E list) (p : Operator → Bool) (line : ℕ) where
  abbrev Fits : Operator → Expr → Type 0
  Fits o x = (implements cols o x && index_fits instances E line o x) ≡ true

  abbrev Holds : Expr → Type 0
  Holds x = line_holds p E list line x ≡ true

  parts : (o : Operator) (x : Expr) → Fits o x → (implements cols o x ≡ true) × (index_fits instances E line o x ≡ true)
  parts o x h = and_parts (implements cols o x) (index_fits instances E line o x) h

  -- ---- merges

  has-one : (a c : ℕ) → has (a ∷ []) c ≡ true → a ≡ c
  has-one a c h = by (a == c) refl h
    where
      by : (t : Bool) → (a == c) ≡ t → (t || false) ≡ true → a ≡ c
      by true is k = eqb-true a c is
      by false is k = absurd (cc)

  merge-by : (j : Matching) (a b : ℕ) (pair : Option (ℕ × ℕ)) → merges_hold p j pair ≡ true → is_across (has (a ∷ [])) (has (b ∷ [])) pair ≡ true → p (JoinRows (join.Merge a b) j) ≡ true
  merge-by j a b None h e = absurd (cc)
  merge-by j a b (Some pair) h e = by (has (a ∷ []) pair.0 && has (b ∷ []) pair.1) refl e
    where
      own : (p (JoinRows (join.Merge pair.0 pair.1) j) ≡ true) × (p (JoinRows (join.Merge pair.1 pair.0) j) ≡ true)
      own = and_parts (p (JoinRows (join.Merge pair.0 pair.1) j)) (p (JoinRows (join.Merge pair.1 pair.0) j)) h

      by : (t : Bool) → (has (a ∷ []) pair.0 && has (b ∷ []) pair.1) ≡ t → (t || has (a ∷ []) pair.1 && has (b ∷ []) pair.0) ≡ true → p (JoinRows (join.Merge a b) j) ≡ true
      by true is k =
          let same = and_parts (has (a ∷ []) pair.0) (has (b ∷ []) pair.1) is in
          ap p (two (λ c d. JoinRows (join.Merge c d) j) (has-one a pair.0 same.0) (has-one b pair.1 same.1)) ∙ own.0
      by false is k =
          let same = and_parts (has (a ∷ []) pair.1) (has (b ∷ []) pair.0) k in
          ap p (two (λ c d. JoinRows (join.Merge c d) j) (has-one a pair.1 same.0) (has-one b pair.0 same.1)) ∙ own.1

  merge-among : (j : Matching) (a b : ℕ) (C : List Condition) → list_all (λ c. merges_hold p j (equated c)) C ≡ true → list_any (equates (has (a ∷ [])) (has (b ∷ []))) C ≡ true
      → p (JoinRows (join.Merge a b) j) ≡ true
  merge-among j a b [] h e = absurd (cc)
  merge-among j a b (c ∷ C) h e = by (merge-among j a b C both.1) (equates (has (a ∷ [])) (has (b ∷ [])) c) refl e
    where
      both : (merges_hold p j (equated c) ≡ true) × (list_all (λ c. merges_hold p j (equated c)) C ≡ true)
      both = and_parts (merges_hold p j (equated c)) (list_all (λ c. merges_hold p j (equated c)) C) h

      by : (list_any (equates (has (a ∷ [])) (has (b ∷ []))) C ≡ true → p (JoinRows (join.Merge a b) j) ≡ true) → (t : Bool) → equates (has (a ∷ [])) (has (b ∷ [])) c ≡ t
          → (t || list_any (equates (has (a ∷ [])) (has (b ∷ []))) C) ≡ true → p (JoinRows (join.Merge a b) j) ≡ true
      by later true is k = merge-by j a b (equated c) both.0 is
      by later false is k = later k

  -- ---- scans

  of-scan : (o : ℕ) (x : Expr) → Holds x → Fits (Scan o) x → p (Scan o) ≡ true
  of-scan o (expr.Get q) h f =
      let same : o ≡ q = eqb-true o q (parts (Scan o) (expr.Get q) f).0 in
      ap (λ k. p (Scan k)) same ∙ (and_parts (p (Scan q)) (list_all (λ a. not (a.line == line) || p (IndexScan a [])) list) h).0
  of-scan o (expr.Select D x) h f = absurd (cc)
  of-scan o (expr.Join D a b) h f = absurd (cc)
  of-scan o (expr.LeftJoin D a b) h f = absurd (cc)
  of-scan o (expr.Semi D a b) h f = absurd (cc)
  of-scan o (expr.Anti D M a b) h f = absurd (cc)
  of-scan o (expr.Keep L x) h f = absurd (cc)
  of-scan o (expr.Distinct x) h f = absurd (cc)
  of-scan o (expr.Group L H x) h f = absurd (cc)

  by-access : (b : IndexAccess → Bool) (o : IndexAccess → Operator) → list_all (λ a. not (b a) || p (o a)) list ≡ true → (a : IndexAccess) → is_access instances E a ≡ true → b a ≡ true → p (o a) ≡ true
  by-access b o h a there e = or-then (b a) (p (o a)) (whole (λ a. not (b a) || p (o a)) h a there) e

  of-index-scan : (a : IndexAccess) (C : List Condition) (l : matches.Line) (x : Expr) → member E line ≡ Some l → l.expr ≡ x → Holds x → Fits (IndexScan a C) x → p (IndexScan a C) ≡ true
  of-index-scan a C l (expr.Get q) m is h f =
      let both = parts (IndexScan a C) (expr.Get q) f in
      let none : C ≡ [] = equal_conditions C [] both.0 in
      let fit = and_parts ((a.line == line) && (a.instance == q)) (has_index instances a) both.1 in
      let own = and_parts (a.line == line) (a.instance == q) fit.0 in
      let got : gets_instance (member E line) a.instance ≡ true
      = ap (λ k. gets_instance k a.instance) m ∙ ap (λ y. is_get_of y a.instance) is ∙ own.1 in
      let there : is_access instances E a ≡ true
      = both-so instances E (gets_instance (member E a.line) a.instance) (numbers_index (slice_get instances a.instance) a.index)
      (ap (λ n. gets_instance (member E n) a.instance) (eqb-true a.line line own.0) ∙ got) (has-number instances E a fit.1) in
      let scans = (and_parts (p (Scan q)) (list_all (λ a. not (a.line == line) || p (IndexScan a [])) list) h).1 in
      ap (λ c. p (IndexScan a c)) none ∙ by-access (λ a. a.line == line) (λ a. IndexScan a []) scans a there own.0
  of-index-scan a C l (expr.Select D x) m is h f =
      let both = parts (IndexScan a C) (expr.Select D x) f in
      let plain = and_parts (is_plain D) (same_conditions C D) both.0 in
      let fit = and_parts (accesses E a x) (has_index instances a) both.1 in
      let held = and_parts (p (Filter D)) (scans_hold p E list D x) (if-so (is_plain D) (p (Filter D) && scans_hold p E list D x) (p (FilterSubqueries D)) h plain.0) in
      ap (λ c. p (IndexScan a c)) (equal_conditions C D plain.1) ∙ by-access (λ a. accesses E a x) (λ a. IndexScan a D) held.1 a (accessed instances E a x fit.0 fit.1) fit.0
  of-index-scan a C l (expr.Join D y z) m is h f = absurd (cc)
  of-index-scan a C l (expr.LeftJoin D y z) m is h f = absurd (cc)
  of-index-scan a C l (expr.Semi D y z) m is h f = absurd (cc)
  of-index-scan a C l (expr.Anti D M y z) m is h f = absurd (cc)
  of-index-scan a C l (expr.Keep L x) m is h f = absurd (cc)
  of-index-scan a C l (expr.Distinct x) m is h f = absurd (cc)
  of-index-scan a C l (expr.Group L H x) m is h f = absurd (cc)

  -- ---- operators of one input

  of-filter : (C : List Condition) (x : Expr) → Holds x → Fits (Filter C) x → p (Filter C) ≡ true
  of-filter C (expr.Get q) h f = absurd (cc)
  of-filter C (expr.Select D x) h f =
      let plain = and_parts (is_plain D) (same_conditions C D) (parts (Filter C) (expr.Select D x) f).0 in
      let held = and_parts (p (Filter D)) (scans_hold p E list D x) (if-so (is_plain D) (p (Filter D) && scans_hold p E list D x) (p (FilterSubqueries D)) h plain.0) in
      ap (λ c. p (Filter c)) (equal_conditions C D plain.1) ∙ held.0
  of-filter C (expr.Join D a b) h f = absurd (cc)
  of-filter C (expr.LeftJoin D a b) h f = absurd (cc)
  of-filter C (expr.Semi D a b) h f = absurd (cc)
  of-filter C (expr.Anti D M a b) h f = absurd (cc)
  of-filter C (expr.Keep L x) h f = absurd (cc)
  of-filter C (expr.Distinct x) h f = absurd (cc)
  of-filter C (expr.Group L H x) h f = absurd (cc)

  of-filter-subqueries : (C : List Condition) (x : Expr) → Holds x → Fits (FilterSubqueries C) x → p (FilterSubqueries C) ≡ true
  of-filter-subqueries C (expr.Get q) h f = absurd (cc)
  of-filter-subqueries C (expr.Select D x) h f =
      let both = and_parts (not (is_plain D)) (same_conditions C D) (parts (FilterSubqueries C) (expr.Select D x) f).0 in
      ap (λ c. p (FilterSubqueries c)) (equal_conditions C D both.1) ∙ if-not (is_plain D) (p (Filter D) && scans_hold p E list D x) (p (FilterSubqueries D)) h both.0
  of-filter-subqueries C (expr.Join D a b) h f = absurd (cc)
  of-filter-subqueries C (expr.LeftJoin D a b) h f = absurd (cc)
  of-filter-subqueries C (expr.Semi D a b) h f = absurd (cc)
  of-filter-subqueries C (expr.Anti D M a b) h f = absurd (cc)
  of-filter-subqueries C (expr.Keep L x) h f = absurd (cc)
  of-filter-subqueries C (expr.Distinct x) h f = absurd (cc)
  of-filter-subqueries C (expr.Group L H x) h f = absurd (cc)

  of-projection : (K : List ℕ) (x : Expr) → Holds x → Fits (Projection K) x → p (Projection K) ≡ true
  of-projection K (expr.Get q) h f = absurd (cc)
  of-projection K (expr.Select D x) h f = absurd (cc)
  of-projection K (expr.Join D a b) h f = absurd (cc)
  of-projection K (expr.LeftJoin D a b) h f = absurd (cc)
  of-projection K (expr.Semi D a b) h f = absurd (cc)
  of-projection K (expr.Anti D M a b) h f = absurd (cc)
  of-projection K (expr.Keep L x) h f = ap (λ c. p (Projection c)) (equal_columns K L (parts (Projection K) (expr.Keep L x) f).0) ∙ h
  of-projection K (expr.Distinct x) h f = absurd (cc)
  of-projection K (expr.Group L H x) h f = absurd (cc)

  of-distinct : (method : GroupMethod) (x : Expr) → Holds x → Fits (DistinctRows method) x → p (DistinctRows method) ≡ true
  of-distinct method (expr.Get q) h f = absurd (cc)
  of-distinct method (expr.Select D x) h f = absurd (cc)
  of-distinct method (expr.Join D a b) h f = absurd (cc)
  of-distinct method (expr.LeftJoin D a b) h f = absurd (cc)
  of-distinct method (expr.Semi D a b) h f = absurd (cc)
  of-distinct method (expr.Anti D M a b) h f = absurd (cc)
  of-distinct method (expr.Keep L x) h f = absurd (cc)
  of-distinct group.Hash (expr.Distinct x) h f = (and_parts (p (DistinctRows group.Hash)) (p (DistinctRows group.Sorted)) h).0
  of-distinct group.Sorted (expr.Distinct x) h f = (and_parts (p (DistinctRows group.Hash)) (p (DistinctRows group.Sorted)) h).1
  of-distinct method (expr.Group L H x) h f = absurd (cc)

  of-method : (method : GroupMethod) (L : List ℕ) (H : List Aggregation) → (p (GroupRows group.Hash L H) && p (GroupRows group.Sorted L H)) ≡ true → p (GroupRows method L H) ≡ true
  of-method group.Hash L H h = (and_parts (p (GroupRows group.Hash L H)) (p (GroupRows group.Sorted L H)) h).0
  of-method group.Sorted L H h = (and_parts (p (GroupRows group.Hash L H)) (p (GroupRows group.Sorted L H)) h).1

  of-group : (method : GroupMethod) (K : List ℕ) (G : List Aggregation) (x : Expr) → Holds x → Fits (GroupRows method K G) x → p (GroupRows method K G) ≡ true
  of-group method K G (expr.Get q) h f = absurd (cc)
  of-group method K G (expr.Select D x) h f = absurd (cc)
  of-group method K G (expr.Join D a b) h f = absurd (cc)
  of-group method K G (expr.LeftJoin D a b) h f = absurd (cc)
  of-group method K G (expr.Semi D a b) h f = absurd (cc)
  of-group method K G (expr.Anti D M a b) h f = absurd (cc)
  of-group method K G (expr.Keep L x) h f = absurd (cc)
  of-group method K G (expr.Distinct x) h f = absurd (cc)
  of-group method K G (expr.Group L H x) h f =
      let same = and_parts (same_columns K L) (same_aggregations G H) (parts (GroupRows method K G) (expr.Group L H x) f).0 in
      ap p (two (λ c d. GroupRows method c d) (equal_columns K L same.0) (equal_aggregations G H same.1)) ∙ of-method method L H h

  -- ---- joins

  record IsOf (j : Matching) (x : Expr) : Type 0 where
    left : ℕ
    right : ℕ
    sides : children x ≡ left ∷ right ∷ []
    held : joins_hold p E list j right ≡ true
    merges : (a b : ℕ) → finds (join.Merge a b) j (first_columns (map cols (children x))) (second_columns (map cols (children x))) ≡ true → p (JoinRows (join.Merge a b) j) ≡ true

  of-inner : (C D : List Condition) (a b : ℕ) → C ≡ D → Holds (expr.Join D a b) → IsOf (matching.Inner C) (expr.Join D a b)
  of-inner C D a b is h = subst (λ c. IsOf (matching.Inner c) (expr.Join D a b)) (sym is) (
      let both = and_parts (joins_hold p E list (matching.Inner D) b) (list_all (λ c. merges_hold p (matching.Inner D) (equated c)) D) h in
      record {
        left = a;
        right = b;
        sides = refl;
        held = both.0;
        merges = λ c d found. merge-among (matching.Inner D) c d D both.1 (and_parts (has (cols a) c && has (cols b) d) (list_any (equates (has (c ∷ [])) (has (d ∷ []))) D) found).1;
      })

  is-of : (j : Matching) (x : Expr) → is_join j x ≡ true → Holds x → IsOf j x
  is-of (matching.Inner C) (expr.Join D a b) e h = of-inner C D a b (equal_conditions C D e) h
  is-of (matching.Left C) (expr.LeftJoin D a b) e h = subst (λ c. IsOf (matching.Left c) (expr.LeftJoin D a b)) (sym (equal_conditions C D e)) (record { left = a; right = b; sides = refl; held = h; merges = λ c d found. absurd (cc) })
  is-of (matching.Semi C) (expr.Semi D a b) e h = subst (λ c. IsOf (matching.Semi c) (expr.Semi D a b)) (sym (equal_conditions C D e)) (record { left = a; right = b; sides = refl; held = h; merges = λ c d found. absurd (cc) })
  is-of (matching.Anti S M) (expr.Anti T N a b) e h =
      let same = and_parts (same_conditions S T) (same_conditions M N) e in
      subst (λ m. IsOf (matching.Anti S m) (expr.Anti T N a b)) (sym (equal_conditions M N same.1)) (
      subst (λ s. IsOf (matching.Anti s N) (expr.Anti T N a b)) (sym (equal_conditions S T same.0)) (
      record { left = a; right = b; sides = refl; held = h; merges = λ c d found. absurd (cc) }))
  is-of (matching.Inner C) (expr.Get q) e h = absurd (cc)
  is-of (matching.Inner C) (expr.Select D x) e h = absurd (cc)
  is-of (matching.Inner C) (expr.LeftJoin D a b) e h = absurd (cc)
  is-of (matching.Inner C) (expr.Semi D a b) e h = absurd (cc)
  is-of (matching.Inner C) (expr.Anti T N a b) e h = absurd (cc)
  is-of (matching.Inner C) (expr.Keep L x) e h = absurd (cc)
  is-of (matching.Inner C) (expr.Distinct x) e h = absurd (cc)
  is-of (matching.Inner C) (expr.Group L H x) e h = absurd (cc)
  is-of (matching.Left C) (expr.Get q) e h = absurd (cc)
  is-of (matching.Left C) (expr.Select D x) e h = absurd (cc)
  is-of (matching.Left C) (expr.Join D a b) e h = absurd (cc)
  is-of (matching.Left C) (expr.Semi D a b) e h = absurd (cc)
  is-of (matching.Left C) (expr.Anti T N a b) e h = absurd (cc)
  is-of (matching.Left C) (expr.Keep L x) e h = absurd (cc)
  is-of (matching.Left C) (expr.Distinct x) e h = absurd (cc)
  is-of (matching.Left C) (expr.Group L H x) e h = absurd (cc)
  is-of (matching.Semi C) (expr.Get q) e h = absurd (cc)
  is-of (matching.Semi C) (expr.Select D x) e h = absurd (cc)
  is-of (matching.Semi C) (expr.Join D a b) e h = absurd (cc)
  is-of (matching.Semi C) (expr.LeftJoin D a b) e h = absurd (cc)
  is-of (matching.Semi C) (expr.Anti T N a b) e h = absurd (cc)
  is-of (matching.Semi C) (expr.Keep L x) e h = absurd (cc)
  is-of (matching.Semi C) (expr.Distinct x) e h = absurd (cc)
  is-of (matching.Semi C) (expr.Group L H x) e h = absurd (cc)
  is-of (matching.Anti S M) (expr.Get q) e h = absurd (cc)
  is-of (matching.Anti S M) (expr.Select D x) e h = absurd (cc)
  is-of (matching.Anti S M) (expr.Join D a b) e h = absurd (cc)
  is-of (matching.Anti S M) (expr.LeftJoin D a b) e h = absurd (cc)
  is-of (matching.Anti S M) (expr.Semi D a b) e h = absurd (cc)
  is-of (matching.Anti S M) (expr.Keep L x) e h = absurd (cc)
  is-of (matching.Anti S M) (expr.Distinct x) e h = absurd (cc)
  is-of (matching.Anti S M) (expr.Group L H x) e h = absurd (cc)

  of-join : (method : JoinMethod) (j : Matching) (x : Expr) → Holds x → Fits (JoinRows method j) x → p (JoinRows method j) ≡ true
  of-join method j x h f =
      let both = and_parts (is_join j x) (finds method j (first_columns (map cols (children x))) (second_columns (map cols (children x)))) (parts (JoinRows method j) x f).0 in
      by method (is-of j x both.0 h) both.1
    where
      by : (method : JoinMethod) → IsOf j x → finds method j (first_columns (map cols (children x))) (second_columns (map cols (children x))) ≡ true → p (JoinRows method j) ≡ true
      by join.NestedLoop of found = (and_parts (p (JoinRows join.NestedLoop j)) (p (JoinRows join.Hash j) && list_all (λ a. not (accesses E a of.right) || p (IndexJoin a j)) list) of.held).0
      by join.Hash of found =
          (and_parts (p (JoinRows join.Hash j)) (list_all (λ a. not (accesses E a of.right) || p (IndexJoin a j)) list)
          (and_parts (p (JoinRows join.NestedLoop j)) (p (JoinRows join.Hash j) && list_all (λ a. not (accesses E a of.right) || p (IndexJoin a j)) list) of.held).1).0
      by (join.Merge a b) of found = of.merges a b found

  found-has : (a : IndexAccess) (j : Matching) → finds_by_index instances a j ≡ true → has_index instances a ≡ true
  found-has a j h = (and_parts (has_index instances a) (are_probed (has (accessed_columns instances a)) (sure_conditions j) (index_columns instances a)) h).0

  of-index-join : (a : IndexAccess) (j : Matching) (x : Expr) → Holds x → Fits (IndexJoin a j) x → p (IndexJoin a j) ≡ true
  of-index-join a j x h f =
      let both = parts (IndexJoin a j) x f in
      let of = is-of j x both.0 h in
      let fit = and_parts (accesses_second E a (children x)) (finds_by_index instances a j) both.1 in
      let second : accesses E a of.right ≡ true = sym (ap (accesses_second E a) of.sides) ∙ fit.0 in
      let joins = (and_parts (p (JoinRows join.Hash j)) (list_all (λ a. not (accesses E a of.right) || p (IndexJoin a j)) list)
      (and_parts (p (JoinRows join.NestedLoop j)) (p (JoinRows join.Hash j) && list_all (λ a. not (accesses E a of.right) || p (IndexJoin a j)) list) of.held).1).1 in
      by-access (λ a. accesses E a of.right) (λ a. IndexJoin a j) joins a (accessed instances E a of.right second (found-has a j fit.1)) second

  -- ---- whatever fits is tried

  pub complete : (l : matches.Line) → member E line ≡ Some l → Holds l.expr → (o : Operator) → Fits o l.expr → p o ≡ true
  complete l m h (Scan o) f = of-scan o l.expr h f
  complete l m h (IndexScan a C) f = of-index-scan a C l l.expr m refl h f
  complete l m h (Filter C) f = of-filter C l.expr h f
  complete l m h (FilterSubqueries C) f = of-filter-subqueries C l.expr h f
  complete l m h (Projection K) f = of-projection K l.expr h f
  complete l m h (JoinRows method j) f = of-join method j l.expr h f
  complete l m h (IndexJoin a j) f = of-index-join a j l.expr h f
  complete l m h (GroupRows method K G) f = of-group method K G l.expr h f
  complete l m h (DistinctRows method) f = of-distinct method l.expr h f
