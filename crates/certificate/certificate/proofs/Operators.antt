-- An operator over inputs that have the bags of its classes has the bag of the expression that it implements.
use Rattle.std.proofs.Common.{◌≡◌, refl, ap, sym, ◌∙◌, subst, ℕ, Bool, true, false, not, ◌&&◌, ◌||◌, ◌==◌, if◌then◌else◌, List, [], ◌∷◌, ◌++◌, map, filter, take}
use Rattle.std.specs.List.{slice_get, list_all, AllByRecursion}
use Rattle.std.proofs.lemmas.Bool.{and_parts, and_from, eqb-true}
use Rattle.query.specs.declared.query.TableInstance.{TableInstance}
use Rattle.query.specs.Rows.{Tables}
use Rattle.values.proofs.Lists.{filter_all}
use Rattle.algebra.specs.declared.condition.Condition.{Condition}
use Rattle.algebra.specs.declared.expr.Aggregation.{Aggregation}
use Rattle.algebra.specs.declared.expr.Expr.{Expr}
use Rattle.algebra.specs.declared.expr.Expr.TheVariants as expr
use Rattle.algebra.specs.declared.expr.Expr.TheVariants.{Get, Select, Join, LeftJoin, Keep, Distinct, Group}
use Rattle.algebra.specs.Columns.{has, rising, is_subset, are_disjoint}
use Rattle.algebra.specs.Equality.{same_columns}
use Rattle.algebra.specs.Bags.{Env, Bag, SameBag, Test, select, join, left_join, semi, anti, distinct}
use Rattle.algebra.specs.Conditions.{holds, allows, classes_in}
use Rattle.algebra.specs.ConditionEquality.{same_conditions}
use Rattle.algebra.specs.Expressions.{Classes, means, columns_of, children, conditions, is_formed, is_plain, input_classes, get_columns, get_rows, aggregate_columns, aggregation_formed, are_different}
use Rattle.algebra.proofs.Plain.{plain_holds, plain_allows, plain_parts}
use Rattle.algebra.proofs.Lists.{two}
use Rattle.algebra.proofs.Same.{equal_conditions, equal_columns, equal_aggregations}
use Rattle.algebra.proofs.SameBags.{same_bag-equal, same_bag-trans, select-same, join-same, left_join-same, semi-same, anti-same, keep-same, distinct-same}
use Rattle.algebra.proofs.SameConditions.{holds-same}
use Rattle.algebra.proofs.SameGroups.{aggregated-same}
use Rattle.derivation.specs.Logs.{Log}
use Rattle.physical.specs.declared.plan.JoinMethod.{JoinMethod}
use Rattle.physical.specs.declared.plan.GroupMethod.{GroupMethod}
use Rattle.physical.specs.declared.plan.Matching.{Matching}
use Rattle.physical.specs.declared.plan.Matching.TheVariants.{Inner, Left, Semi, Anti}
use Rattle.physical.specs.declared.plan.IndexAccess.{IndexAccess}
use Rattle.physical.specs.declared.plan.Operator.{Operator}
use Rattle.physical.specs.declared.plan.Operator.TheVariants.{Scan, IndexScan, Filter, FilterSubqueries, Projection, JoinRows, IndexJoin, GroupRows, DistinctRows}
use Rattle.physical.specs.Indexes.{accessed_columns, accessed_rows, index_columns, rising_keys, index_order, has_index}
use Rattle.physical.specs.Outputs.{Output, operator_columns, operator_rows, no_classes, subquery_rows, is_match, first, rest, first_columns, second_columns, join_columns, join_rows}
use Rattle.physical.specs.Orders.{are_columns, join_stands, operator_stands}
use Rattle.physical.specs.Sorts.{sorted, keys_order}
use Rattle.physical.proofs.SortedRows.{same_bag-sorted}
use Rattle.certificate.specs.Replay.{is_join, implements, accesses, accesses_second, index_fits, needed_classes}

-- an output has the columns and the bag of the class
pub record Is (W : Classes) (x : Output) (g : ℕ) : Type 0 where
  pub columns : x.columns ≡ W.columns g
  pub rows : SameBag x.rows (W.rows g)

-- one input for each class
abbrev pub AllAre : Classes → List Output → List ℕ → Type 0
AllAre W [] [] = Unit {0}
AllAre W [] (g ∷ classes) = ⊥
AllAre W (x ∷ inputs) [] = ⊥
AllAre W (x ∷ inputs) (g ∷ classes) = Is W x g × AllAre W inputs classes

-- what is accessed by an index, as an output
abbrev pub accessed : List TableInstance → Tables → IndexAccess → Output
accessed instances D a = record { columns = accessed_columns instances a; rows = accessed_rows instances D a }

module _ (instances : List TableInstance) (own : List Aggregation) (D : Tables) (W : Classes) where
  -- the operator over the inputs has the columns and the bag of the expression over the classes
  pub record Gives (operator : Operator) (inputs : List Output) (x : Expr) : Type 0 where
    pub columns : operator_columns instances operator (map (λ p. p.columns) inputs) ≡ columns_of instances W.columns x
    pub rows : SameBag (operator_rows instances D operator inputs) (means instances D W x)

  abbrev Implementing : Operator → Expr → Type 0
  Implementing operator x = (cols : ℕ → List ℕ) (inputs : List Output) → implements cols operator x ≡ true → is_formed instances own W.columns x ≡ true → AllAre W inputs (input_classes x) → Gives operator inputs x

  scan-gives : (o : ℕ) (x : Expr) → Implementing (Scan o) x
  scan-gives o (Get p) cols inputs h formed all =
      let is : o ≡ p = eqb-true o p h in
      record { columns = ap (λ o. get_columns (slice_get instances o)) is; rows = same_bag-equal _ _ (λ e. ap (λ o. get_rows (slice_get instances o) D e) is) }
  scan-gives o x cols inputs h formed all = cc

  filter-gives : (C : List Condition) (x : Expr) → Implementing (Filter C) x
  filter-gives C (Select E g) cols [] h formed all = absurd all
  filter-gives C (Select E g) cols (a ∷ inputs) h formed all =
      let parts : (is_plain E ≡ true) × (same_conditions C E ≡ true) = and_parts _ _ h in
      let is : C ≡ E = equal_conditions C E parts.1 in
      record {
        columns = all.0.columns;
        rows = select-same (holds no_classes C) (holds W.rows E) a.rows (W.rows g) (λ r. ap (λ C. holds no_classes C r) is ∙ plain_holds E parts.0 no_classes W.rows r) all.0.rows;
      }
  filter-gives C x cols inputs h formed all = cc

  -- the rows of a class that conditions name are those of its input
  subquery-is : (K : List ℕ) (inputs : List Output) → AllAre W inputs K → (g : ℕ) → has K g ≡ true → SameBag (subquery_rows K inputs g) (W.rows g)
  subquery-is [] inputs all g in_ = cc
  subquery-is (k ∷ K) [] all g in_ = absurd all
  subquery-is (k ∷ K) (a ∷ inputs) all g in_ = by (k == g) (λ is. eqb-true k g is) (subquery-is K inputs all.1 g) in_
    where
      by : (b : Bool) → (b ≡ true → k ≡ g) → (has K g ≡ true → SameBag (subquery_rows K inputs g) (W.rows g)) → (b || has K g) ≡ true → SameBag (if b then a.rows else subquery_rows K inputs g) (W.rows g)
      by true is later in_ = subst (λ g. SameBag a.rows (W.rows g)) (is refl) all.0.rows
      by false is later in_ = later in_

  subqueries-give : (C : List Condition) (x : Expr) → Implementing (FilterSubqueries C) x
  subqueries-give C (Select E g) cols [] h formed all = absurd all
  subqueries-give C (Select E g) cols (a ∷ inputs) h formed all =
      let is : C ≡ E = equal_conditions C E (and_parts _ _ h).1 in
      record {
        columns = all.0.columns;
        rows = select-same (holds (subquery_rows (classes_in C) inputs) C) (holds W.rows E) a.rows (W.rows g)
            (λ r. ap (λ C. holds (subquery_rows (classes_in C) inputs) C r) is ∙ holds-same E (subquery_rows (classes_in E) inputs) W.rows (subquery-is (classes_in E) inputs all.1) r) all.0.rows;
      }
  subqueries-give C x cols inputs h formed all = cc

  projection-gives : (K : List ℕ) (x : Expr) → Implementing (Projection K) x
  projection-gives K (Keep L g) cols [] h formed all = absurd all
  projection-gives K (Keep L g) cols (a ∷ inputs) h formed all =
      let is : K ≡ L = equal_columns K L h in
      subst (λ L. Gives (Projection K) (a ∷ inputs) (Keep L g)) is (record { columns = refl; rows = keep-same (has K) a.rows (W.rows g) all.0.rows })
  projection-gives K x cols inputs h formed all = cc

  -- conditions without subqueries, as an operator takes them and as the expression does
  test-same : (C E : List Condition) → same_conditions C E ≡ true → is_plain E ≡ true → (r : Env) → holds no_classes C r ≡ holds W.rows E r
  test-same C E h plain r = ap (λ C. holds no_classes C r) (equal_conditions C E h) ∙ plain_holds E plain no_classes W.rows r

  both-columns : {K L M N : List ℕ} → K ≡ L → M ≡ N → rising (K ++ M) ≡ rising (L ++ N)
  both-columns e f = rw (e, f) refl

  -- a class that an access is of has what it reads
  abbrev pub AreAccessed : Log → List ℕ → Type 0
  AreAccessed log classes = (a : IndexAccess) → AllByRecursion (λ g. accesses log a g ≡ true → Is W (accessed instances D a) g) classes

  sorted-gives : (a : IndexAccess) (C : List Condition) (b : Bag) → SameBag (select (holds no_classes C) (accessed_rows instances D a)) b
      → SameBag (λ e. sorted (keys_order (index_order instances a)) (select (holds no_classes C) (accessed_rows instances D a) e)) b
  sorted-gives a C b same = same_bag-trans (λ e. sorted (keys_order (index_order instances a)) (select (holds no_classes C) (accessed_rows instances D a) e)) (select (holds no_classes C) (accessed_rows instances D a)) b
      (same_bag-sorted (keys_order (index_order instances a)) (select (holds no_classes C) (accessed_rows instances D a))) same

  index_scan-gives : (E : Log) (line : ℕ) (a : IndexAccess) (C : List Condition) (x : Expr) → AreAccessed E (children x) → index_fits instances E line (IndexScan a C) x ≡ true → (cols : ℕ → List ℕ) (inputs : List Output)
      → implements cols (IndexScan a C) x ≡ true → Gives (IndexScan a C) inputs x
  index_scan-gives log line a C (Get p) reads indexed cols inputs h =
      let is : a.instance ≡ p = eqb-true _ _ (and_parts _ _ (and_parts _ _ indexed).0).1 in
      record {
        columns = ap (λ o. get_columns (slice_get instances o)) is;
        rows = sorted-gives a C (get_rows (slice_get instances p) D)
            (same_bag-equal _ _ (λ e. ap (λ C. filter (holds no_classes C) (accessed_rows instances D a e)) (equal_conditions C [] h) ∙ filter_all (accessed_rows instances D a e) ∙ ap (λ o. get_rows (slice_get instances o) D e) is));
      }
  index_scan-gives log line a C (Select E g) reads indexed cols inputs h =
      let parts : (is_plain E ≡ true) × (same_conditions C E ≡ true) = and_parts _ _ h in
      let is : Is W (accessed instances D a) g = (reads a).0 (and_parts _ _ indexed).0 in
      record {
        columns = is.columns;
        rows = sorted-gives a C (select (holds W.rows E) (W.rows g)) (select-same (holds no_classes C) (holds W.rows E) (accessed_rows instances D a) (W.rows g) (test-same C E parts.1 parts.0) is.rows);
      }
  index_scan-gives log line a C x reads indexed cols inputs h = cc

  -- ---- joins

  -- outputs of the two classes, if there are two
  abbrev AreSides : List ℕ → Output → Output → Type 0
  AreSides (g ∷ k ∷ classes) a b = Is W a g × Is W b k
  AreSides classes a b = Unit {0}

  abbrev first_output : List Output → Output
  first_output inputs = record { columns = first_columns (map (λ p. p.columns) inputs); rows = first inputs }

  abbrev second_output : List Output → Output
  second_output inputs = record { columns = second_columns (map (λ p. p.columns) inputs); rows = first (rest inputs) }

  inputs-sides : (K more : List ℕ) (inputs : List Output) → AllAre W inputs (K ++ more) → AreSides K (first_output inputs) (second_output inputs)
  inputs-sides [] more inputs all = tt
  inputs-sides (g ∷ []) more inputs all = tt
  inputs-sides (g ∷ k ∷ K) more [] all = absurd all
  inputs-sides (g ∷ k ∷ K) more (a ∷ []) all = absurd all.1
  inputs-sides (g ∷ k ∷ K) more (a ∷ b ∷ inputs) all = (record { columns = all.0.columns; rows = all.0.rows }, record { columns = all.1.0.columns; rows = all.1.0.rows })

  index-sides : (E : Log) (a : IndexAccess) (K : List ℕ) (inputs : List Output) → AreAccessed E K → accesses_second E a K ≡ true → AllAre W inputs (take 1 K) → AreSides K (first_output inputs) (accessed instances D a)
  index-sides log a [] inputs reads second all = tt
  index-sides log a (g ∷ []) inputs reads second all = tt
  index-sides log a (g ∷ k ∷ K) [] reads second all = absurd all
  index-sides log a (g ∷ k ∷ K) (b ∷ inputs) reads second all = (record { columns = all.0.columns; rows = all.0.rows }, (reads a).1.0 second)

  -- a join over outputs of its sides has the columns and the bag of the expression
  record JoinGives (j : Matching) (x : Expr) (a b : Output) : Type 0 where
    columns : join_columns j a.columns b.columns ≡ columns_of instances W.columns x
    rows : SameBag (join_rows j b.columns a.rows b.rows) (means instances D W x)

  join-gives : (j : Matching) (x : Expr) (a b : Output) → is_join j x ≡ true → is_formed instances own W.columns x ≡ true → AreSides (children x) a b → JoinGives j x a b
  join-gives (Inner C) (Join E g k) a b h formed sides = record {
    columns = both-columns sides.0.columns sides.1.columns;
    rows = subst (λ K. SameBag (join (holds no_classes C) (has K) a.rows b.rows) (join (holds W.rows E) (has (W.columns k)) (W.rows g) (W.rows k))) (sym sides.1.columns)
        (join-same (holds no_classes C) (holds W.rows E) (has (W.columns k)) a.rows (W.rows g) b.rows (W.rows k) (test-same C E h (and_parts _ _ (and_parts _ _ formed).1).0) sides.0.rows sides.1.rows);
  }
  join-gives (Left C) (LeftJoin E g k) a b h formed sides = record {
    columns = both-columns sides.0.columns sides.1.columns;
    rows = subst (λ K. SameBag (left_join (holds no_classes C) (has K) a.rows b.rows) (left_join (holds W.rows E) (has (W.columns k)) (W.rows g) (W.rows k))) (sym sides.1.columns)
        (left_join-same (holds no_classes C) (holds W.rows E) (has (W.columns k)) a.rows (W.rows g) b.rows (W.rows k) (test-same C E h (and_parts _ _ (and_parts _ _ formed).1).0) sides.0.rows sides.1.rows);
  }
  join-gives (Semi C) (expr.Semi E g k) a b h formed sides = record {
    columns = sides.0.columns;
    rows = subst (λ K. SameBag (semi (holds no_classes C) (has K) a.rows b.rows) (semi (holds W.rows E) (has (W.columns k)) (W.rows g) (W.rows k))) (sym sides.1.columns)
        (semi-same (holds no_classes C) (holds W.rows E) (has (W.columns k)) a.rows (W.rows g) b.rows (W.rows k) (test-same C E h (and_parts _ _ (and_parts _ _ formed).1).0) sides.0.rows sides.1.rows);
  }
  join-gives (Anti S M) (expr.Anti T N g k) a b h formed sides =
      let same = and_parts (same_conditions S T) _ h in
      let plain = plain_parts T N (and_parts _ _ (and_parts _ _ formed).1).0 in
      let own : Test = λ r. holds W.rows T r && allows W.rows N r in
      let tests : (r : Env) → is_match (Anti S M) r ≡ own r = λ r.
      two (λ p q. p && q) (test-same S T same.0 plain.0 r) (ap (λ C. allows no_classes C r) (equal_conditions M N same.1) ∙ plain_allows N plain.1 no_classes W.rows r) in
      record {
        columns = sides.0.columns;
        rows = subst (λ K. SameBag (anti (is_match (Anti S M)) (has K) a.rows b.rows) (anti own (has (W.columns k)) (W.rows g) (W.rows k))) (sym sides.1.columns)
            (anti-same (is_match (Anti S M)) own (has (W.columns k)) a.rows (W.rows g) b.rows (W.rows k) tests sides.0.rows sides.1.rows);
      }
  join-gives j x a b h formed sides = cc

  joined-gives : (method : JoinMethod) (j : Matching) (x : Expr) → Implementing (JoinRows method j) x
  joined-gives method j x cols inputs h formed all =
      let gives = join-gives j x (first_output inputs) (second_output inputs) (and_parts _ _ h).0 formed (inputs-sides (children x) (classes_in (conditions x)) inputs all) in
      record { columns = gives.columns; rows = gives.rows }

  index_join-gives : (E : Log) (line : ℕ) (a : IndexAccess) (j : Matching) (x : Expr) → AreAccessed E (children x) → index_fits instances E line (IndexJoin a j) x ≡ true → (cols : ℕ → List ℕ) (inputs : List Output)
      → implements cols (IndexJoin a j) x ≡ true → is_formed instances own W.columns x ≡ true → AllAre W inputs (take 1 (children x)) → Gives (IndexJoin a j) inputs x
  index_join-gives log line a j x reads indexed cols inputs h formed all =
      let gives = join-gives j x (first_output inputs) (accessed instances D a) h formed (index-sides log a (children x) inputs reads (and_parts _ _ indexed).0 all) in
      record { columns = gives.columns; rows = gives.rows }

  group-gives : (method : GroupMethod) (K : List ℕ) (G : List Aggregation) (x : Expr) → Implementing (GroupRows method K G) x
  group-gives method K G (Group L H g) cols [] h formed all = absurd all
  group-gives method K G (Group L H g) cols (a ∷ inputs) h formed all =
      let parts = and_parts _ _ h in
      subst (λ L. Gives (GroupRows method K G) (a ∷ inputs) (Group L H g)) (equal_columns K L parts.0)
      (subst (λ H. Gives (GroupRows method K G) (a ∷ inputs) (Group K H g)) (equal_aggregations G H parts.1) (record { columns = refl; rows = aggregated-same K G a.rows (W.rows g) all.0.rows }))
  group-gives method K G x cols inputs h formed all = cc

  distinct-gives : (method : GroupMethod) (x : Expr) → Implementing (DistinctRows method) x
  distinct-gives method (Distinct g) cols [] h formed all = absurd all
  distinct-gives method (Distinct g) cols (a ∷ inputs) h formed all = record {
    columns = all.0.columns;
    rows = subst (λ K. SameBag (distinct a.columns a.rows) (distinct K (W.rows g))) all.0.columns (distinct-same a.columns a.rows (W.rows g) all.0.rows);
  }
  distinct-gives method x cols inputs h formed all = cc

  -- an operator that implements an expression
  pub operator-gives : (E : Log) (line : ℕ) (operator : Operator) (x : Expr) → AreAccessed E (children x) → index_fits instances E line operator x ≡ true → (cols : ℕ → List ℕ) (inputs : List Output)
      → implements cols operator x ≡ true → is_formed instances own W.columns x ≡ true → AllAre W inputs (needed_classes operator x) → Gives operator inputs x
  operator-gives log line (Scan o) x reads indexed cols inputs h formed all = scan-gives o x cols inputs h formed all
  operator-gives log line (IndexScan a C) x reads indexed cols inputs h formed all = index_scan-gives log line a C x reads indexed cols inputs h
  operator-gives log line (Filter C) x reads indexed cols inputs h formed all = filter-gives C x cols inputs h formed all
  operator-gives log line (FilterSubqueries C) x reads indexed cols inputs h formed all = subqueries-give C x cols inputs h formed all
  operator-gives log line (Projection K) x reads indexed cols inputs h formed all = projection-gives K x cols inputs h formed all
  operator-gives log line (JoinRows method j) x reads indexed cols inputs h formed all = joined-gives method j x cols inputs h formed all
  operator-gives log line (IndexJoin a j) x reads indexed cols inputs h formed all = index_join-gives log line a j x reads indexed cols inputs h formed all
  operator-gives log line (GroupRows method K G) x reads indexed cols inputs h formed all = group-gives method K G x cols inputs h formed all
  operator-gives log line (DistinctRows method) x reads indexed cols inputs h formed all = distinct-gives method x cols inputs h formed all

  -- a column of aggregates of a well-formed group is none of its input
  new-columns : (K : List ℕ) (G : List Aggregation) → list_all (aggregation_formed own K) G ≡ true → (c : ℕ) → has K c ≡ true → not (has (aggregate_columns G) c) ≡ true
  new-columns K [] formed c in_ = refl
  new-columns K (a ∷ G) formed c in_ =
      let parts = and_parts (aggregation_formed own K a) _ formed in
      let off : not (has K a.column) ≡ true = (and_parts _ _ parts.0).1 in
      by (a.column == c) refl (new-columns K G parts.1 c in_) off
    where
      by : (b : Bool) → (a.column == c) ≡ b → not (has (aggregate_columns G) c) ≡ true → not (has K a.column) ≡ true → not (b || has (aggregate_columns G) c) ≡ true
      by true is later off = let same : a.column ≡ c = eqb-true a.column c is in let never : not true ≡ true = sym (ap not (ap (has K) same ∙ in_)) ∙ off in cc
      by false is later off = later

  keys-apart : (K L : List ℕ) (G : List Aggregation) → list_all (aggregation_formed own L) G ≡ true → is_subset K L ≡ true → are_disjoint K (aggregate_columns G) ≡ true
  keys-apart [] L G formed within_ = refl
  keys-apart (k ∷ K) L G formed within_ =
      let parts = and_parts (has L k) _ within_ in
      and_from _ _ (new-columns L G formed k parts.0) (keys-apart K L G formed parts.1)

  -- the keys of an index are by columns of which these are all
  keys-among : (columns K : List ℕ) → is_subset K columns ≡ true → are_columns columns (rising_keys K) ≡ true
  keys-among columns [] all = refl
  keys-among columns (k ∷ K) all = let parts = and_parts _ _ all in and_from _ _ parts.0 (keys-among columns K parts.1)

  index_scan-stands : (E : Log) (line : ℕ) (a : IndexAccess) (C : List Condition) (x : Expr) (cols : ℕ → List ℕ) → implements cols (IndexScan a C) x ≡ true → index_fits instances E line (IndexScan a C) x ≡ true → has_index instances a ≡ true
  index_scan-stands log line a C (Get p) cols h indexed = (and_parts _ _ indexed).1
  index_scan-stands log line a C (Select E g) cols h indexed = (and_parts _ _ indexed).1
  index_scan-stands log line a C x cols h indexed = cc

  join-stands : (j : Matching) (x : Expr) (a b : Output) → is_join j x ≡ true → is_formed instances own W.columns x ≡ true → AreSides (children x) a b → join_stands j a.columns b.columns ≡ true
  join-stands (Inner C) (Join E g k) a b h formed sides = rw (sides.0.columns, sides.1.columns) (and_parts _ _ (and_parts _ _ formed).1).1
  join-stands (Inner C) x a b h formed sides = cc
  join-stands (Left C) (LeftJoin E g k) a b h formed sides = rw (sides.0.columns, sides.1.columns) (and_parts _ _ (and_parts _ _ formed).1).1
  join-stands (Left C) x a b h formed sides = cc
  join-stands (Semi C) x a b h formed sides = refl
  join-stands (Anti S M) x a b h formed sides = refl

  -- a join of a well-formed expression hides no column of its left side, and no aggregate of a group a key; an index is by columns
  -- of its table instance
  pub operator-stands : (E : Log) (line : ℕ) (operator : Operator) (x : Expr) → AreAccessed E (children x) → index_fits instances E line operator x ≡ true → (cols : ℕ → List ℕ) (inputs : List Output)
      → implements cols operator x ≡ true → is_formed instances own W.columns x ≡ true → AllAre W inputs (needed_classes operator x) → operator_stands instances operator (map (λ p. p.columns) inputs) ≡ true
  operator-stands log line (Scan o) x reads indexed cols inputs h formed all = refl
  operator-stands log line (IndexScan a C) x reads indexed cols inputs h formed all = keys-among (accessed_columns instances a) (index_columns instances a) (and_parts _ _ (index_scan-stands log line a C x cols h indexed)).1
  operator-stands log line (Filter C) x reads indexed cols inputs h formed all = refl
  operator-stands log line (FilterSubqueries C) x reads indexed cols inputs h formed all = refl
  operator-stands log line (Projection K) x reads indexed cols inputs h formed all = refl
  operator-stands log line (JoinRows method j) x reads indexed cols inputs h formed all =
      join-stands j x (first_output inputs) (second_output inputs) (and_parts _ _ h).0 formed (inputs-sides (children x) (classes_in (conditions x)) inputs all)
  operator-stands log line (IndexJoin a j) x reads indexed cols inputs h formed all = join-stands j x (first_output inputs) (accessed instances D a) h formed (index-sides log a (children x) inputs reads (and_parts _ _ indexed).0 all)
  operator-stands log line (GroupRows method K G) (Group L H g) reads indexed cols inputs h formed all =
      let same = and_parts (same_columns K L) _ h in
      let is = and_parts (is_subset L (W.columns g) && are_different (aggregate_columns H)) _ formed in
      subst (λ L. are_disjoint L (aggregate_columns G) ≡ true) (sym (equal_columns K L same.0))
      (subst (λ H. are_disjoint L (aggregate_columns H) ≡ true) (sym (equal_aggregations G H same.1)) (keys-apart L (W.columns g) H is.1 (and_parts (is_subset L (W.columns g)) _ is.0).0))
  operator-stands log line (GroupRows method K G) x reads indexed cols inputs h formed all = cc
  operator-stands log line (DistinctRows method) x reads indexed cols inputs h formed all = refl
