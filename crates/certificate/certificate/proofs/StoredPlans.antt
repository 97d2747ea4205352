-- The groups of a plan whose certificate replays aggregate values of tables alone.
use Rattle.std.proofs.Common.{◌≡◌, refl, ap, sym, ◌∙◌, subst, inl, inr, ℕ, ◌+◌, Bool, true, ◌&&◌, ◌==◌, List, [], ◌∷◌, map, length, Result, Ok, arith}
use Rattle.std.specs.List.{list_all, list_any}
use Rattle.std.proofs.lemmas.Bool.{and_parts, and_from, or_cases, eqb-true, false≢true}
use Rattle.std.proofs.lemmas.List.{length-map}
use Rattle.values.specs.Faults.{◌>>=◌, wanted_if}
use Rattle.values.proofs.Results.{both_ok, wanted_if_ok}
use Rattle.query.specs.declared.query.TableInstance.{TableInstance}
use Rattle.query.specs.Rows.{Tables}
use Rattle.query.specs.Aggregates.{AreShortTables}
use Rattle.algebra.specs.declared.expr.Aggregation.{Aggregation}
use Rattle.algebra.specs.declared.expr.Expr.{Expr}
use Rattle.algebra.specs.declared.expr.Expr.TheVariants.{Keep, Group}
use Rattle.algebra.specs.Columns.{is_subset}
use Rattle.algebra.specs.Equality.{same_columns, same_aggregation}
use Rattle.algebra.specs.Expressions.{is_formed, aggregation_formed, are_different, aggregate_columns}
use Rattle.algebra.specs.TableColumns.{is_table_column, is_apart, are_apart}
use Rattle.algebra.proofs.Same.{equal_columns, equal_aggregation, equal_aggregations}
use Rattle.rules.specs.Soundness.{IsLine}
use Rattle.derivation.specs.Laws.{IsTrue, world}
use Rattle.derivation.specs.Logs.{Log, knowledge}
use Rattle.physical.specs.declared.plan.GroupMethod.{GroupMethod}
use Rattle.physical.specs.declared.plan.OrderKey.{OrderKey}
use Rattle.physical.specs.declared.plan.Operator.{Operator}
use Rattle.physical.specs.declared.plan.Operator.TheVariants.{Scan, IndexScan, Filter, FilterSubqueries, Projection, JoinRows, IndexJoin, GroupRows, DistinctRows}
use Rattle.physical.specs.declared.plan.Node.{Node}
use Rattle.physical.specs.declared.plan.Node.TheVariants.{Implements, Sort}
use Rattle.physical.specs.declared.plan.Plan.{Plan, roll-Plan, out-roll-Plan, fold-roll-Plan, ind-Plan, map-Plan}
use Rattle.physical.specs.declared.plan.Plan.TheOpen.{Plan-F}
use Rattle.physical.specs.Origins.{Origin, read_among, operator_reads, node_reads, all_read, origin_layer, plan_origin}
use Rattle.physical.specs.Orders.{are_columns, plan_order}
use Rattle.physical.proofs.StoredValues.{origin-is}
use Rattle.certificate.specs.declared.certificate.CheckRefusal.{CheckRefusal}
use Rattle.certificate.specs.declared.certificate.CheckReason.TheVariants.{IllFormed, OtherOperator}
use Rattle.certificate.specs.Replay.{Fits, refusal, implements, needed_classes, sort_fits, operator_fits, node_fits, inputs_fit, plan_fits}
use Rattle.certificate.proofs.ClassOutputs.{of_class}
use Rattle.certificate.proofs.Fits.{after_node, after-is, plan_fits_out, operator-is}

-- ---- an operator and its inputs

-- a plan's origin is that of a class: it has its columns, and its groups aggregate values of tables alone
pub record IsOriginOf (cols : ℕ → List ℕ) (o : Origin) (g : ℕ) : Type 0 where
  pub columns : o.columns ≡ cols g
  pub reads : o.reads ≡ true

-- one input for each class
abbrev AllAre : (ℕ → List ℕ) → List Origin → List ℕ → Type 0
AllAre cols [] [] = Unit {0}
AllAre cols [] (g ∷ classes) = ⊥
AllAre cols (x ∷ inputs) [] = ⊥
AllAre cols (x ∷ inputs) (g ∷ classes) = IsOriginOf cols x g × AllAre cols inputs classes

-- all inputs aggregate values of tables alone
inputs-read : (cols : ℕ → List ℕ) (inputs : List Origin) (classes : List ℕ) → AllAre cols inputs classes → all_read inputs ≡ true
inputs-read cols [] classes all = refl
inputs-read cols (x ∷ inputs) [] all = absurd all
inputs-read cols (x ∷ inputs) (g ∷ classes) all = and_from _ _ all.0.reads (inputs-read cols inputs classes all.1)

module _ (instances : List TableInstance) (own : List Aggregation) (apart : are_apart (is_table_column instances) own ≡ true) (cols : ℕ → List ℕ) where
  -- an aggregate that is one of the query's own is apart
  own-apart : (others : List Aggregation) (a : Aggregation) → are_apart (is_table_column instances) others ≡ true → list_any (same_aggregation a) others ≡ true → is_apart (is_table_column instances) a ≡ true
  own-apart [] a all is = absurd (false≢true is)
  own-apart (b ∷ others) a all is =
      let parts = and_parts (is_apart (is_table_column instances) b) _ all in
      elim (or_cases (same_aggregation a b) _ is) [
        | inl same ↦ ap (is_apart (is_table_column instances)) (equal_aggregation a b same) ∙ parts.0
        | inr later ↦ own-apart others a parts.1 later
      ]

  -- well-formed aggregates are apart, and read columns of the class
  formed-apart : (K : List ℕ) (G : List Aggregation) → list_all (aggregation_formed own K) G ≡ true → are_apart (is_table_column instances) G ≡ true
  formed-apart K [] formed = refl
  formed-apart K (a ∷ G) formed =
      let parts = and_parts (aggregation_formed own K a) _ formed in
      and_from _ _ (own-apart own a apart (and_parts _ _ (and_parts _ _ parts.0).0).0) (formed-apart K G parts.1)

  formed-among : (K : List ℕ) (G : List Aggregation) → list_all (aggregation_formed own K) G ≡ true → read_among K G ≡ true
  formed-among K [] formed = refl
  formed-among K (a ∷ G) formed =
      let parts = and_parts (aggregation_formed own K a) _ formed in
      and_from _ _ (and_parts _ _ (and_parts _ _ parts.0).0).1 (formed-among K G parts.1)

  -- an operator that implements a well-formed expression
  abbrev Implementing : Operator → Expr → Type 0
  Implementing operator x = (sides : ℕ → List ℕ) (inputs : List Origin) → implements sides operator x ≡ true → is_formed instances own cols x ≡ true → AllAre cols inputs (needed_classes operator x) → operator_reads instances operator inputs ≡ true

  projection-reads : (K : List ℕ) (x : Expr) → Implementing (Projection K) x
  projection-reads K (Keep L g) sides [] h formed all = absurd all
  projection-reads K (Keep L g) sides (x ∷ inputs) h formed all = ap (λ M. is_subset K M) all.0.columns ∙ ap (λ M. is_subset M (cols g)) (equal_columns K L h) ∙ formed
  projection-reads K x sides inputs h formed all = cc

  group-reads : (method : GroupMethod) (K : List ℕ) (G : List Aggregation) (x : Expr) → Implementing (GroupRows method K G) x
  group-reads method K G (Group L H g) sides [] h formed all = absurd all
  group-reads method K G (Group L H g) sides (x ∷ inputs) h formed all =
      let both = and_parts (same_columns K L) _ h in
      let same : G ≡ H = equal_aggregations G H both.1 in
      let keys : K ≡ L = equal_columns K L both.0 in
      let parts = and_parts (is_subset L (cols g) && are_different (aggregate_columns H)) _ formed in
      and_from _ _ (ap (λ M. is_subset K M) all.0.columns ∙ ap (λ M. is_subset M (cols g)) keys ∙ (and_parts (is_subset L (cols g)) _ parts.0).0)
      (and_from _ _ (ap (λ M. read_among M G) all.0.columns ∙ ap (read_among (cols g)) same ∙ formed-among (cols g) H parts.1) (ap (are_apart (is_table_column instances)) same ∙ formed-apart (cols g) H parts.1))
  group-reads method K G x sides inputs h formed all = cc

  reads : (operator : Operator) (x : Expr) → Implementing operator x
  reads (Scan o) x sides inputs h formed all = refl
  reads (IndexScan a C) x sides inputs h formed all = refl
  reads (Filter C) x sides inputs h formed all = refl
  reads (FilterSubqueries C) x sides inputs h formed all = refl
  reads (Projection K) x sides inputs h formed all = projection-reads K x sides inputs h formed all
  reads (JoinRows method j) x sides inputs h formed all = refl
  reads (IndexJoin a j) x sides inputs h formed all = refl
  reads (GroupRows method K G) x sides inputs h formed all = group-reads method K G x sides inputs h formed all
  reads (DistinctRows method) x sides inputs h formed all = refl

-- ---- a plan that fits

module _ (instances : List TableInstance) (own : List Aggregation) (apart : are_apart (is_table_column instances) own ≡ true) (D : Tables) (short : AreShortTables D) (E : Log) (is_true : IsTrue instances own D E) where
  abbrev cols : ℕ → List ℕ
  cols = (knowledge instances E).columns

  -- a plan that fits a class is of its origin
  abbrev P : Plan → Type 0
  P p = (ordered : Bool) (g n m : ℕ) → plan_fits instances E cols p ordered g n ≡ Ok m → IsOriginOf cols (plan_origin instances p) g

  abbrev Part : Type 0
  Part = (p : Plan) × P p

  abbrev fits_of : List Part → List Fits
  fits_of parts = map (plan_fits instances E cols) (map (λ p. p.0) parts)

  abbrev origins_of : List Part → List Origin
  origins_of parts = map (plan_origin instances) (map (λ p. p.0) parts)

  all-are : (parts : List Part) (needed : List ℕ) (n m : ℕ) → length (fits_of parts) ≡ length needed → inputs_fit (fits_of parts) needed n ≡ Ok m → AllAre cols (origins_of parts) needed
  all-are [] [] n m count fits = tt
  all-are [] (g ∷ needed) n m count fits = absurd (omega (arith, count))
  all-are (p ∷ parts) [] n m count fits = absurd (omega (arith, count))
  all-are (p ∷ parts) (g ∷ needed) n m count fits =
      let steps = both_ok (plan_fits instances E cols p.0 true g n) (λ m. inputs_fit (fits_of parts) needed m) m fits in
      (p.1 true g n steps.0 steps.1, all-are parts needed steps.0 m (omega (arith, count)) steps.2)

  abbrev orders_of : List Part → List (List OrderKey)
  orders_of parts = map (plan_order instances) (map (λ p. p.0) parts)

  abbrev inputs_after : Node → List Part → Bool → ℕ → List ℕ → Result ℕ CheckRefusal
  inputs_after node parts = after_node cols node (orders_of parts) (fits_of parts)

  inputs-are : (node : Node) (parts : List Part) (ordered : Bool) (n m : ℕ) (needed : List ℕ) → length (fits_of parts) ≡ length needed → inputs_after node parts ordered n needed ≡ Ok m → AllAre cols (origins_of parts) needed
  inputs-are node parts ordered n m needed count fits = all-are parts needed (n + 1) m count (after-is cols node (orders_of parts) (fits_of parts) ordered n m needed fits).inputs

  -- a node aggregates values of tables alone, and so do its inputs
  record IsNodeOf (node : Node) (parts : List Part) : Type 0 where
    reads : node_reads instances node (origins_of parts) ≡ true
    inputs : all_read (origins_of parts) ≡ true

  operator-is-of : (line : ℕ) (operator : Operator) (parts : List Part) (ordered : Bool) (g n m : ℕ) → (operator_fits instances E cols line operator (length (fits_of parts)) g n >>= inputs_after (Implements line operator) parts ordered n) ≡ Ok m → IsNodeOf (Implements line operator) parts
  operator-is-of line operator parts ordered g n m fits =
      let steps = both_ok (operator_fits instances E cols line operator (length (fits_of parts)) g n) (inputs_after (Implements line operator) parts ordered n) m fits in
      let found = operator-is instances E cols line operator (length (fits_of parts)) g n steps.0 steps.1 in
      let is : IsLine (knowledge instances E) (world instances own D E) found.member_of = is_true.members line found.member_of found.at in
      let all = inputs-are (Implements line operator) parts ordered n m steps.0 found.count steps.2 in
      record {
        reads = reads instances own apart cols operator found.member_of.expr cols (origins_of parts) found.implemented is.formed (subst (AllAre cols (origins_of parts)) (sym found.needs) all);
        inputs = inputs-read cols (origins_of parts) steps.0 all;
      }

  sort-is-of : (keys : List OrderKey) (parts : List Part) (ordered : Bool) (g n m : ℕ) → (sort_fits cols keys (length (fits_of parts)) g n >>= inputs_after (Sort keys) parts ordered n) ≡ Ok m → IsNodeOf (Sort keys) parts
  sort-is-of keys parts ordered g n m fits =
      let k : ℕ = length (fits_of parts) in
      let steps = both_ok (sort_fits cols keys k g n) (inputs_after (Sort keys) parts ordered n) m fits in
      let last : List ℕ → Result (List ℕ) CheckRefusal = λ needed. wanted_if (refusal n OtherOperator) (k == 1) needed in
      let first = both_ok (wanted_if (refusal n IllFormed) (are_columns (cols g) keys) (g ∷ [])) last steps.0 steps.1 in
      let one = wanted_if_ok (refusal n IllFormed) _ (g ∷ []) first.0 first.1 in
      let two = wanted_if_ok (refusal n OtherOperator) (k == 1) first.0 steps.0 first.2 in
      let count : k ≡ length (g ∷ []) = eqb-true _ _ two.0 in
      let all = inputs-are (Sort keys) parts ordered n m (g ∷ []) count (ap (inputs_after (Sort keys) parts ordered n) (one.1 ∙ two.1) ∙ steps.2) in
      record { reads = refl; inputs = inputs-read cols (origins_of parts) (g ∷ []) all }

  layer : (node : Node) (parts : List Part) (ordered : Bool) (g n m : ℕ) → (node_fits instances E cols node (length (fits_of parts)) g n >>= inputs_after node parts ordered n) ≡ Ok m → IsNodeOf node parts
  layer (Implements line operator) = operator-is-of line operator
  layer (Sort keys) = sort-is-of keys

  step : (y : Plan-F Part) → P (roll-Plan (map-Plan Part Plan (λ p. p.0) y))
  unfolding plan_origin
  step y ordered g n m fits =
      let z : Plan-F Plan = map-Plan Part Plan (λ p. p.0) y in
      let here : (node_fits instances E cols z.node (length z.inputs) g n >>= inputs_after z.node y.inputs ordered n) ≡ Ok m =
      subst (λ (w : Plan-F Plan). (node_fits instances E cols w.node (length w.inputs) g n >>= after_node cols w.node (map (plan_order instances) w.inputs) (map (plan_fits instances E cols) w.inputs) ordered n) ≡ Ok m)
      (out-roll-Plan z) (sym (plan_fits_out instances E cols (roll-Plan z) ordered g n) ∙ fits) in
      let node = layer y.node y.inputs ordered g n m (subst (λ k. (node_fits instances E cols z.node k g n >>= inputs_after z.node y.inputs ordered n) ≡ Ok m) (sym (length-map z.inputs (plan_fits instances E cols))) here) in
      let rolled = fold-roll-Plan Origin (origin_layer instances) z in
      record {
        columns = (origin-is instances D short (roll-Plan z)).columns ∙ (of_class instances own D E is_true (roll-Plan z) ordered g n m fits).output.columns;
        reads = ap (λ (x : Origin). x.reads) rolled ∙ and_from _ _ node.reads node.inputs;
      }

  of_origin : (p : Plan) → P p
  of_origin = ind-Plan P (λ x y is. subst (λ z. P (roll-Plan z)) is (step y))

  -- the groups of a plan that fits aggregate values of tables alone
  pub plan-reads : (p : Plan) (ordered : Bool) (g n m : ℕ) → plan_fits instances E cols p ordered g n ≡ Ok m → (plan_origin instances p).reads ≡ true
  plan-reads p ordered g n m fits = (of_origin p ordered g n m fits).reads
