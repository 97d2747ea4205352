-- The plan of a class, of its operator and the plans of its inputs.
use Rattle.std.proofs.Common.{◌≡◌, refl, ap, sym, ◌∙◌, subst, ℕ, suc, ◌+◌, ◌<◌, nat_lt, Bool, true, List, [], ◌∷◌, ◌++◌, map, length, Some, Ok, arith}
use Rattle.std.specs.List.{slice_get, list_all}
use Rattle.std.proofs.lemmas.Bool.{eq-eqb, ltb-true, lt-ltb, and_from, and_parts}
use Rattle.std.proofs.lemmas.List.Folds.{list_all-append}
use Rattle.std.proofs.lemmas.Option.{slice_get_within}
use Rattle.values.specs.Faults.{◌>>=◌}
use Rattle.values.proofs.Lists.{passes_at}
use Rattle.query.specs.declared.query.TableInstance.{TableInstance}
use Rattle.algebra.specs.declared.expr.Expr.{Expr}
use Rattle.algebra.specs.declared.condition.Condition.{Condition}
use Rattle.algebra.specs.declared.expr.Expr.TheVariants as expr
use Rattle.algebra.specs.declared.expr.Expr.TheVariants.{Select, Join, LeftJoin}
use Rattle.algebra.specs.ConditionEquality.{same_conditions}
use Rattle.algebra.specs.Conditions.{all_classes, classes_in}
use Rattle.algebra.specs.Expressions.{conditions, input_classes, subqueries_pass}
use Rattle.algebra.proofs.NamedClasses.{classes-pass, inputs-pass}
use Rattle.algebra.proofs.Same.{equal_conditions}
use Rattle.physical.specs.declared.plan.Matching.{Matching}
use Rattle.physical.specs.declared.plan.Matching.TheVariants.{Inner, Left, Semi, Anti}
use Rattle.physical.specs.declared.plan.JoinMethod.TheVariants.{NestedLoop, Hash, Merge}
use Rattle.physical.specs.declared.plan.GroupMethod.TheVariants as by
use Rattle.physical.specs.declared.plan.OrderKey.{OrderKey}
use Rattle.physical.specs.Orders.{plan_order}
use Rattle.physical.specs.declared.plan.Operator.{Operator}
use Rattle.physical.specs.declared.plan.Operator.TheVariants.{Scan, IndexScan, Filter, FilterSubqueries, Projection, JoinRows, IndexJoin, GroupRows, DistinctRows}
use Rattle.physical.specs.declared.plan.Node.{Node}
use Rattle.physical.specs.declared.plan.Node.TheVariants.{Implements}
use Rattle.physical.specs.declared.plan.Plan.{Plan, roll-Plan, out-roll-Plan, fold-roll-Plan}
use Rattle.physical.specs.RequiredOrders.{are_sorted}
use Rattle.derivation.specs.Logs.{founds}
use Rattle.certificate.specs.Replay.{are_founded, implements, index_fits, is_join, matching_is_founded, names_lines, needed_classes, node_fits, inputs_fit, plan_fits}
use Rattle.certificate.proofs.Fits.{plan_fits_out}
use Rattle.planner.specs.Canonical.{is_basic, is_basic_node, basic_layer, is_basic_plan, log_of, IsBasicOf, NameEarlier, IsPlanOf}
use Rattle.planner.proofs.FrameLogs.{length-log, same-itself, member-log, founds-log}

-- a plan by its node and inputs
abbrev pub over : Node → List Plan → Plan
over node inputs = roll-Plan (record { node = node; inputs = inputs })

module _ (lines : List Expr) where
  -- a plan for each class
  abbrev pub ArePlansOf : List ℕ → List Plan → Type 0
  ArePlansOf [] [] = Unit {0}
  ArePlansOf [] (p ∷ plans) = ⊥
  ArePlansOf (g ∷ classes) [] = ⊥
  ArePlansOf (g ∷ classes) (p ∷ plans) = IsPlanOf lines g p × ArePlansOf classes plans

  pub one_more : (classes : List ℕ) (plans : List Plan) (g : ℕ) (p : Plan) → ArePlansOf classes plans → IsPlanOf lines g p → ArePlansOf (classes ++ g ∷ []) (plans ++ p ∷ [])
  one_more [] [] g p all is = (is, tt)
  one_more [] (x ∷ plans) g p all is = absurd all
  one_more (h ∷ classes) [] g p all is = absurd all
  one_more (h ∷ classes) (x ∷ plans) g p all is = (all.0, one_more classes plans g p all.1 is)

  as-many : (classes : List ℕ) (plans : List Plan) → ArePlansOf classes plans → length plans ≡ length classes
  as-many [] [] all = refl
  as-many [] (x ∷ plans) all = absurd all
  as-many (h ∷ classes) [] all = absurd all
  as-many (h ∷ classes) (x ∷ plans) all = ap suc (as-many classes plans all.1)

  all-basic : (classes : List ℕ) (plans : List Plan) → ArePlansOf classes plans → list_all (λ b. b) (map is_basic_plan plans) ≡ true
  all-basic [] [] all = refl
  all-basic [] (x ∷ plans) all = absurd all
  all-basic (h ∷ classes) [] all = absurd all
  all-basic (h ∷ classes) (x ∷ plans) all = and_from _ _ all.0.basic (all-basic classes plans all.1)

  all-fit : (instances : List TableInstance) (cols : ℕ → List ℕ) (classes : List ℕ) (plans : List Plan) → ArePlansOf classes plans → (n : ℕ) → (m : ℕ) × (inputs_fit (map (plan_fits instances (log_of lines) cols) plans) classes n ≡ Ok m)
  all-fit instances cols [] [] all n = (n, refl)
  all-fit instances cols [] (x ∷ plans) all n = absurd all
  all-fit instances cols (h ∷ classes) [] all n = absurd all
  all-fit instances cols (h ∷ classes) (x ∷ plans) all n =
      let first = all.0.fits instances cols n in
      let rest = all-fit instances cols classes plans all.1 first.0 in
      (rest.0, ap (λ r. r >>= (λ m. inputs_fit (map (plan_fits instances (log_of lines) cols) plans) classes m)) first.1 ∙ rest.1)

  -- the classes that the conditions of a line name are founded by earlier lines
  founded-earlier : (g : ℕ) (C D : List Condition) → g < length lines → same_conditions C D ≡ true → subqueries_pass (λ h. nat_lt h g) D ≡ true → are_founded (log_of lines) C ≡ true
  founded-earlier g C D lt same pass = rw (equal_conditions C D same) (later (classes_in D) (classes-pass (λ h. nat_lt h g) D pass))
    where
      later : (K : List ℕ) → list_all (λ h. nat_lt h g) K ≡ true → list_all (founds (log_of lines)) K ≡ true
      later [] all = refl
      later (h ∷ K) all =
          let parts = and_parts (nat_lt h g) _ all in
          let below = ltb-true h g parts.0 in
          and_from _ _ (founds-log lines h (omega (arith, below, lt))) (later K parts.1)

  join-founded : (g : ℕ) (j : Matching) (x : Expr) → g < length lines → is_join j x ≡ true → subqueries_pass (λ h. nat_lt h g) (conditions x) ≡ true → matching_is_founded (log_of lines) j ≡ true
  join-founded g (Inner C) (Join D a b) lt is pass = founded-earlier g C D lt is pass
  join-founded g (Left C) (LeftJoin D a b) lt is pass = founded-earlier g C D lt is pass
  join-founded g (Semi C) (expr.Semi D a b) lt is pass = founded-earlier g C D lt is pass
  join-founded g (Anti S M) (expr.Anti T N a b) lt is pass =
      let same = and_parts (same_conditions S T) (same_conditions M N) is in
      let both = and_parts _ _ (sym (list_all-append (λ d. all_classes d (λ h. nat_lt h g)) T N) ∙ pass) in
      and_from _ _ (founded-earlier g S T lt same.0 both.0) (founded-earlier g M N lt same.1 both.1)
  join-founded g j x lt is pass = cc

  -- a basic operator names earlier lines, as its expression does
  basic-names : (cols : ℕ → List ℕ) (g : ℕ) (operator : Operator) (x : Expr) → g < length lines → is_basic operator ≡ true → implements cols operator x ≡ true → subqueries_pass (λ h. nat_lt h g) (conditions x) ≡ true
      → names_lines (log_of lines) operator ≡ true
  basic-names cols g (Filter C) (Select D y) lt basic is pass = founded-earlier g C D lt (and_parts _ _ is).1 pass
  basic-names cols g (FilterSubqueries C) (Select D y) lt basic is pass = founded-earlier g C D lt (and_parts _ _ is).1 pass
  basic-names cols g (JoinRows NestedLoop j) x lt basic is pass = join-founded g j x lt (and_parts (is_join j x) _ is).0 pass
  basic-names cols g operator x lt basic is pass = cc

  -- a basic operator reads nothing by an index, and needs all classes that its expression names
  pub record IsBasicAt (instances : List TableInstance) (g : ℕ) (operator : Operator) (x : Expr) : Type 0 where
    pub indexed : index_fits instances (log_of lines) g operator x ≡ true
    pub needs : needed_classes operator x ≡ input_classes x

  pub basic-at : (instances : List TableInstance) (g : ℕ) (operator : Operator) (x : Expr) → is_basic operator ≡ true → IsBasicAt instances g operator x
  basic-at instances g (IndexScan a C) x is = cc
  basic-at instances g (IndexJoin a j) x is = cc
  basic-at instances g operator x is = record { indexed = refl; needs = refl }

  node-fits : (instances : List TableInstance) (cols : ℕ → List ℕ) (g : ℕ) (x : Expr) (operator : Operator) (n : ℕ) → NameEarlier lines → slice_get lines g ≡ Some x → is_basic operator ≡ true → implements cols operator x ≡ true
      → node_fits instances (log_of lines) cols (Implements g operator) (length (input_classes x)) g n ≡ Ok (input_classes x)
  node-fits instances cols g x operator n earlier at basic is =
      let plain = basic-at instances g operator x basic in
      let names = basic-names cols g operator x (slice_get_within lines g x at) basic is (and_parts _ _ (earlier g x at).0).1 in
      let there = lt-ltb g (length (log_of lines)) (subst (λ n. g < n) (sym (length-log lines)) (slice_get_within lines g x at)) in
      rw (there, names, member-log lines g x at, same-itself lines g, is, plain.indexed, plain.needs, eq-eqb (length (input_classes x)) (length (input_classes x)) refl) refl

  over-basic : (node : Node) (inputs : List Plan) → is_basic_node node ≡ true → list_all (λ b. b) (map is_basic_plan inputs) ≡ true → is_basic_plan (over node inputs) ≡ true
  unfolding is_basic_plan
  over-basic node inputs is all = fold-roll-Plan Bool basic_layer (record { node = node; inputs = inputs }) ∙ and_from _ _ is all

  -- a basic operator needs no order of its inputs
  basic-sorted : (operator : Operator) → is_basic operator ≡ true → (columns : List (List ℕ)) (orders : List (List OrderKey)) → are_sorted operator columns orders ≡ true
  basic-sorted (Scan o) is columns orders = refl
  basic-sorted (IndexScan a C) is columns orders = cc
  basic-sorted (Filter C) is columns orders = refl
  basic-sorted (FilterSubqueries C) is columns orders = refl
  basic-sorted (Projection K) is columns orders = refl
  basic-sorted (JoinRows NestedLoop j) is columns orders = refl
  basic-sorted (JoinRows Hash j) is columns orders = cc
  basic-sorted (JoinRows (Merge a b) j) is columns orders = cc
  basic-sorted (IndexJoin a j) is columns orders = cc
  basic-sorted (GroupRows by.Hash K G) is columns orders = refl
  basic-sorted (GroupRows by.Sorted K G) is columns orders = cc
  basic-sorted (DistinctRows by.Hash) is columns orders = refl
  basic-sorted (DistinctRows by.Sorted) is columns orders = cc

  -- a basic operator that computes the class's line, over plans of the classes that the line names
  pub plan_of_class : (g : ℕ) (x : Expr) (operator : Operator) (inputs : List Plan) → NameEarlier lines → slice_get lines g ≡ Some x → IsBasicOf x operator → ArePlansOf (input_classes x) inputs
      → IsPlanOf lines g (over (Implements g operator) inputs)
  plan_of_class g x operator inputs earlier at is all = record {
    basic = over-basic (Implements g operator) inputs is.basic (all-basic (input_classes x) inputs all);
    fits = λ instances cols n.
        let rest = all-fit instances cols (input_classes x) inputs all (n + 1) in (
          rest.0,
          plan_fits_out instances (log_of lines) cols (over (Implements g operator) inputs) true g n
              ∙ rw (out-roll-Plan (record { node = Implements g operator; inputs = inputs }), as-many (input_classes x) inputs all, node-fits instances cols g x operator n earlier at is.basic (is.implemented cols), basic-sorted operator is.basic (map cols (input_classes x)) (map (plan_order instances) inputs)) rest.1,
        );
  }

  -- the classes of a line's inputs are earlier ones
  pub earlier_input : (g : ℕ) (x : Expr) (i h : ℕ) → NameEarlier lines → slice_get lines g ≡ Some x → slice_get (input_classes x) i ≡ Some h → h < g
  earlier_input g x i h earlier at named = ltb-true h g (passes_at (λ h. nat_lt h g) (input_classes x) i h (inputs-pass (λ h. nat_lt h g) x (earlier g x at).0) named)
