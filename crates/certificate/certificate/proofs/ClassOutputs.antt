-- A plan that fits produces the bag of its class, and each of its nodes gets the orders that it requires.
use Rattle.std.proofs.Common.{◌≡◌, refl, ap, sym, ◌∙◌, subst, ℕ, ◌+◌, Bool, true, ◌==◌, List, [], ◌∷◌, map, length, slice_get, Option, Some, None, Result, Ok, arith}
use Rattle.std.specs.List.{list_all, AllByRecursion}
use Rattle.std.proofs.lemmas.Bool.{and_parts, and_from, eqb-true}
use Rattle.std.proofs.lemmas.List.{length-map}
use Rattle.values.specs.Faults.{◌>>=◌, wanted_if}
use Rattle.values.proofs.Results.{both_ok, wanted_if_ok}
use Rattle.query.specs.declared.query.TableInstance.{TableInstance}
use Rattle.query.specs.Rows.{Tables}
use Rattle.algebra.specs.declared.expr.Aggregation.{Aggregation}
use Rattle.algebra.specs.declared.expr.Expr.{Expr}
use Rattle.algebra.specs.declared.expr.Expr.TheVariants.{Get}
use Rattle.algebra.specs.Bags.{SameBag}
use Rattle.algebra.specs.Expressions.{Classes, means, columns_of, children, get_columns, get_rows}
use Rattle.algebra.specs.Classes.{class_rows}
use Rattle.algebra.proofs.Lists.{two}
use Rattle.algebra.proofs.SameBags.{same_bag-equal, same_bag-trans}
use Rattle.props.specs.Knowledge.{with_rows}
use Rattle.rules.specs.Matches as matches
use Rattle.rules.specs.Soundness.{IsLine}
use Rattle.derivation.specs.Laws.{IsTrue, world}
use Rattle.derivation.specs.Logs.{Log, entries, member, are_same, knowledge}
use Rattle.derivation.proofs.Invariants.{same_bag-turned}
use Rattle.physical.specs.declared.plan.OrderKey.{OrderKey}
use Rattle.physical.specs.declared.plan.IndexAccess.{IndexAccess}
use Rattle.physical.specs.declared.plan.Operator.{Operator}
use Rattle.physical.specs.declared.plan.Node.{Node}
use Rattle.physical.specs.declared.plan.Node.TheVariants.{Implements, Sort}
use Rattle.physical.specs.declared.plan.Plan.{Plan, roll-Plan, out-roll-Plan, fold-roll-Plan, ind-Plan, map-Plan}
use Rattle.physical.specs.declared.plan.Plan.TheOpen.{Plan-F}
use Rattle.physical.specs.Outputs.{Output, node_columns, node_rows, output_layer, plan_output}
use Rattle.physical.specs.Orders.{are_columns, plan_order, node_stands}
use Rattle.physical.specs.RequiredOrders.{Supply, all_sorted, inputs_sorted, plan_supply, supply_layer}
use Rattle.physical.specs.Sorts.{keys_order}
use Rattle.physical.proofs.RequiredOrders.{supply-columns, supply-orders}
use Rattle.physical.proofs.SortedRows.{same_bag-sorted}
use Rattle.certificate.specs.declared.certificate.CheckRefusal.{CheckRefusal}
use Rattle.certificate.specs.declared.certificate.CheckReason.TheVariants.{IllFormed, OtherOperator}
use Rattle.certificate.specs.Replay.{Fits, refusal, is_get_of, gets, accesses, needed_classes, sort_fits, operator_fits, node_fits, inputs_fit, plan_fits}
use Rattle.certificate.proofs.Fits.{after_node, after-is, plan_fits_out, operator-is}
use Rattle.certificate.proofs.Operators.{Is, AllAre, accessed, operator-gives, operator-stands}

module _ (instances : List TableInstance) (own : List Aggregation) (D : Tables) (E : Log) (is_true : IsTrue instances own D E) where
  abbrev W : Classes
  W = with_rows (knowledge instances E) (class_rows instances D (entries E))

  abbrev cols : ℕ → List ℕ
  cols = W.columns

  -- the plan produces the bag of the class, over its columns, and its nodes get the orders that they require
  pub record IsOfClass (p : Plan) (g : ℕ) : Type 0 where
    pub output : Is W (plan_output instances D p) g
    pub sorted : (plan_supply instances p).sorted ≡ true

  -- so does one that fits the class
  abbrev P : Plan → Type 0
  P p = (ordered : Bool) (g n m : ℕ) → plan_fits instances E cols p ordered g n ≡ Ok m → IsOfClass p g

  abbrev Part : Type 0
  Part = (p : Plan) × P p

  abbrev fits_of : List Part → List Fits
  fits_of parts = map (plan_fits instances E cols) (map (λ p. p.0) parts)

  abbrev outputs_of : List Part → List Output
  outputs_of parts = map (plan_output instances D) (map (λ p. p.0) parts)

  abbrev supplies_of : List Part → List Supply
  supplies_of parts = map (plan_supply instances) (map (λ p. p.0) parts)

  -- the inputs are of their classes
  record AreOfClasses (parts : List Part) (needed : List ℕ) : Type 0 where
    outputs : AllAre W (outputs_of parts) needed
    sorted : all_sorted (supplies_of parts) ≡ true

  all-output : (parts : List Part) (needed : List ℕ) (n m : ℕ) → length (fits_of parts) ≡ length needed → inputs_fit (fits_of parts) needed n ≡ Ok m → AreOfClasses parts needed
  all-output [] [] n m count fits = record { outputs = tt; sorted = refl }
  all-output [] (g ∷ needed) n m count fits = absurd (omega (arith, count))
  all-output (p ∷ parts) [] n m count fits = absurd (omega (arith, count))
  all-output (p ∷ parts) (g ∷ needed) n m count fits =
      let steps = both_ok (plan_fits instances E cols p.0 true g n) (λ m. inputs_fit (fits_of parts) needed m) m fits in
      let first = p.1 true g n steps.0 steps.1 in
      let later = all-output parts needed steps.0 m (omega (arith, count)) steps.2 in
      record { outputs = (first.output, later.outputs); sorted = and_from _ _ first.sorted later.sorted }

  -- the inputs have the columns of their classes
  columns-are : (inputs : List Output) (needed : List ℕ) → AllAre W inputs needed → map (λ (x : Output). x.columns) inputs ≡ map cols needed
  columns-are [] [] all = refl
  columns-are [] (g ∷ needed) all = absurd all
  columns-are (x ∷ inputs) [] all = absurd all
  columns-are (x ∷ inputs) (g ∷ needed) all = two (λ K Ks. K ∷ Ks) all.0.columns (columns-are inputs needed all.1)

  abbrev at_node : Node → List Part → Output
  at_node node parts = record { columns = node_columns instances node (map (λ x. x.columns) (outputs_of parts)); rows = node_rows instances D node (outputs_of parts) }

  abbrev orders_of : List Part → List (List OrderKey)
  orders_of parts = map (plan_order instances) (map (λ p. p.0) parts)

  abbrev inputs_after : Node → List Part → Bool → ℕ → List ℕ → Result ℕ CheckRefusal
  inputs_after node parts = after_node cols node (orders_of parts) (fits_of parts)

  -- and they deliver the orders that the node requires
  record AreInputsOf (node : Node) (parts : List Part) (needed : List ℕ) : Type 0 where
    classes : AreOfClasses parts needed
    required : inputs_sorted node (map (λ (x : Output). x.columns) (outputs_of parts)) (orders_of parts) ≡ true

  -- the inputs of a node fit the classes that it needs
  inputs-output : (node : Node) (parts : List Part) (ordered : Bool) (n m : ℕ) (needed : List ℕ) → length (fits_of parts) ≡ length needed → inputs_after node parts ordered n needed ≡ Ok m → AreInputsOf node parts needed
  inputs-output node parts ordered n m needed count fits =
      let after = after-is cols node (orders_of parts) (fits_of parts) ordered n m needed fits in
      let are = all-output parts needed (n + 1) m count after.inputs in
      record { classes = are; required = subst (λ Ks. inputs_sorted node Ks (orders_of parts) ≡ true) (sym (columns-are (outputs_of parts) needed are.outputs)) after.sorted }

  -- what a node produces, that the order which it delivers stands, and that it gets the orders which it requires
  record IsNodeOf (node : Node) (parts : List Part) (g : ℕ) : Type 0 where
    output : Is W (at_node node parts) g
    stands : node_stands instances node (map (λ (x : Output). x.columns) (outputs_of parts)) ≡ true
    required : inputs_sorted node (map (λ (x : Output). x.columns) (outputs_of parts)) (orders_of parts) ≡ true
    inputs : all_sorted (supplies_of parts) ≡ true

  -- ---- members

  -- what has the columns and the bag of a member's expression has those of each class that is the same
  member-is : (line : ℕ) (l : matches.Line) (x : Output) (g : ℕ) → member E line ≡ Some l → are_same E l.class g ≡ true → x.columns ≡ columns_of instances cols l.expr → SameBag x.rows (means instances D W l.expr) → Is W x g
  member-is line l x g at same columns rows =
      let is : IsLine (knowledge instances E) (world instances own D E) l = is_true.members line l at in
      let both = is_true.classes.same l.class g same in
      record {
        columns = columns ∙ is.columns ∙ both.0;
        rows = same_bag-trans x.rows (means instances D W l.expr) (W.rows g) rows (same_bag-trans (means instances D W l.expr) (W.rows l.class) (W.rows g) (same_bag-turned (W.rows l.class) (means instances D W l.expr) is.rows) both.1);
      }

  -- a class that an access is of has what it reads
  accessed-one : (a : IndexAccess) (h : ℕ) → accesses E a h ≡ true → Is W (accessed instances D a) h
  accessed-one a h is = by (member E a.line) refl is
    where
      got : (l : matches.Line) (x : Expr) → l.expr ≡ x → member E a.line ≡ Some l → are_same E l.class h ≡ true → is_get_of x a.instance ≡ true → Is W (accessed instances D a) h
      got l (Get p) here at same is =
          let own_ : a.instance ≡ p = eqb-true _ _ is in
          member-is a.line l (accessed instances D a) h at same
          (ap (λ o. get_columns (slice_get instances o)) own_ ∙ ap (columns_of instances cols) (sym here))
          (same_bag-equal _ _ (λ e. ap (λ o. get_rows (slice_get instances o) D e) own_ ∙ ap (λ x. means instances D W x e) (sym here)))
      got l x here at same is = cc

      by : (o : Option matches.Line) → member E a.line ≡ o → gets E o h a.instance ≡ true → Is W (accessed instances D a) h
      by None at is = cc
      by (Some l) at is = let both = and_parts (are_same E l.class h) _ is in got l l.expr refl at both.0 both.1

  accessed-is : (a : IndexAccess) (K : List ℕ) → AllByRecursion (λ h. accesses E a h ≡ true → Is W (accessed instances D a) h) K
  accessed-is a [] = tt
  accessed-is a (h ∷ K) = (accessed-one a h, accessed-is a K)

  -- ---- nodes

  operator-output : (line : ℕ) (operator : Operator) (parts : List Part) (ordered : Bool) (g n m : ℕ) → (operator_fits instances E cols line operator (length (fits_of parts)) g n >>= inputs_after (Implements line operator) parts ordered n) ≡ Ok m → IsNodeOf (Implements line operator) parts g
  operator-output line operator parts ordered g n m fits =
      let steps = both_ok (operator_fits instances E cols line operator (length (fits_of parts)) g n) (inputs_after (Implements line operator) parts ordered n) m fits in
      let found = operator-is instances E cols line operator (length (fits_of parts)) g n steps.0 steps.1 in
      let l : matches.Line = found.member_of in
      let is : IsLine (knowledge instances E) (world instances own D E) l = is_true.members line l found.at in
      let given = inputs-output (Implements line operator) parts ordered n m steps.0 found.count steps.2 in
      let all : AllAre W (outputs_of parts) (needed_classes operator l.expr) = subst (AllAre W (outputs_of parts)) (sym found.needs) given.classes.outputs in
      let reads : (a : IndexAccess) → AllByRecursion (λ h. accesses E a h ≡ true → Is W (accessed instances D a) h) (children l.expr) = λ a. accessed-is a (children l.expr) in
      let gives = operator-gives instances own D W E line operator l.expr reads found.indexed cols (outputs_of parts) found.implemented is.formed all in
      record {
        output = member-is line l (at_node (Implements line operator) parts) g found.at found.same gives.columns gives.rows;
        stands = operator-stands instances own D W E line operator l.expr reads found.indexed cols (outputs_of parts) found.implemented is.formed all;
        required = given.required;
        inputs = given.classes.sorted;
      }

  sort-output : (keys : List OrderKey) (parts : List Part) (ordered : Bool) (g n m : ℕ) → (sort_fits cols keys (length (fits_of parts)) g n >>= inputs_after (Sort keys) parts ordered n) ≡ Ok m → IsNodeOf (Sort keys) parts g
  sort-output keys parts ordered g n m fits =
      let k : ℕ = length (fits_of parts) in
      let steps = both_ok (sort_fits cols keys k g n) (inputs_after (Sort keys) parts ordered n) m fits in
      let last : List ℕ → Result (List ℕ) CheckRefusal = λ needed. wanted_if (refusal n OtherOperator) (k == 1) needed in
      let first = both_ok (wanted_if (refusal n IllFormed) (are_columns (cols g) keys) (g ∷ [])) last steps.0 steps.1 in
      let one = wanted_if_ok (refusal n IllFormed) _ (g ∷ []) first.0 first.1 in
      let two = wanted_if_ok (refusal n OtherOperator) (k == 1) first.0 steps.0 first.2 in
      let needs : g ∷ [] ≡ steps.0 = one.1 ∙ two.1 in
      let count : k ≡ length (g ∷ []) = eqb-true _ _ two.0 in
      let given = inputs-output (Sort keys) parts ordered n m (g ∷ []) count (ap (inputs_after (Sort keys) parts ordered n) needs ∙ steps.2) in
      input parts one.0 given.classes.sorted given.classes.outputs
    where
      input : (parts : List Part) → are_columns (cols g) keys ≡ true → all_sorted (supplies_of parts) ≡ true → AllAre W (outputs_of parts) (g ∷ []) → IsNodeOf (Sort keys) parts g
      input [] among sorted all = absurd all
      input (p ∷ parts) among sorted all =
          let x : Output = plan_output instances D p.0 in
          record {
            output = record { columns = all.0.columns; rows = same_bag-trans (λ e. _) x.rows (W.rows g) (same_bag-sorted (keys_order keys) x.rows) all.0.rows };
            stands = ap (λ K. are_columns K keys) all.0.columns ∙ among;
            required = refl;
            inputs = sorted;
          }

  layer : (node : Node) (parts : List Part) (ordered : Bool) (g n m : ℕ) → (node_fits instances E cols node (length (fits_of parts)) g n >>= inputs_after node parts ordered n) ≡ Ok m → IsNodeOf node parts g
  layer (Implements line operator) = operator-output line operator
  layer (Sort keys) = sort-output keys

  step : (y : Plan-F Part) → P (roll-Plan (map-Plan Part Plan (λ p. p.0) y))
  unfolding plan_output plan_supply
  step y ordered g n m fits =
      let z : Plan-F Plan = map-Plan Part Plan (λ p. p.0) y in
      let here : (node_fits instances E cols z.node (length z.inputs) g n >>= inputs_after z.node y.inputs ordered n) ≡ Ok m =
      subst (λ (w : Plan-F Plan). (node_fits instances E cols w.node (length w.inputs) g n >>= after_node cols w.node (map (plan_order instances) w.inputs) (map (plan_fits instances E cols) w.inputs) ordered n) ≡ Ok m)
      (out-roll-Plan z) (sym (plan_fits_out instances E cols (roll-Plan z) ordered g n) ∙ fits) in
      let node = layer y.node y.inputs ordered g n m (subst (λ k. (node_fits instances E cols z.node k g n >>= inputs_after z.node y.inputs ordered n) ≡ Ok m) (sym (length-map z.inputs (plan_fits instances E cols))) here) in
      record {
        output = subst (λ x. Is W x g) (sym (fold-roll-Plan Output (output_layer instances D) z)) node.output;
        sorted =
            let plans = map (λ (p : Part). p.0) y.inputs in
            let columns = sym (supply-columns instances D plans) in
            let required = subst (λ ks. inputs_sorted y.node (map (λ (x : Output). x.columns) (outputs_of y.inputs)) ks ≡ true) (sym (supply-orders instances plans)) node.required in
            ap (λ (x : Supply). x.sorted) (fold-roll-Plan Supply (supply_layer instances) z)
            ∙ and_from _ _ (subst (λ Ks. node_stands instances y.node Ks ≡ true) columns node.stands)
            (and_from _ _ (subst (λ Ks. inputs_sorted y.node Ks (map (λ (x : Supply). x.order) (supplies_of y.inputs)) ≡ true) columns required) node.inputs);
      }

  pub of_class : (p : Plan) → P p
  of_class = ind-Plan P (λ x y is. subst (λ z. P (roll-Plan z)) is (step y))
