-- The nodes of a plan, as far as they are read of any text.
use Rattle.std.proofs.Common.{◌≡◌, refl, sym, ap, subst, ◌∙◌, arith, ℕ, zero, suc, ◌+◌, ◌-◌, ◌<◌, ◌≤◌, ◌^◌, Bool, true, false, nat_le, nat_lt, inl, inr, List, [], ◌∷◌, ◌++◌, length, flat_map, sum, append-nil, append_assoc, length-append}
use Rattle.std.proofs.lemmas.Bool.{cases_lt, le-leb, leb-true, lt-ltb, ltb-true}
use Rattle.std.specs.List.{AllByRecursion}
use Rattle.values.proofs.Lists.{all_append}
use Rattle.values.specs.declared.fault.Fault.{Fault}
use Rattle.physical.specs.declared.plan.Node.{Node}
use Rattle.physical.specs.declared.plan.Node.TheVariants.{Implements, Sort}
use Rattle.physical.specs.declared.plan.Operator.{Operator}
use Rattle.physical.specs.declared.plan.Operator.TheVariants.{Scan, IndexScan, Filter, FilterSubqueries, Projection, JoinRows, IndexJoin, GroupRows, DistinctRows}
use Rattle.physical.specs.declared.plan.Plan.{Plan}
use Rattle.certificate.specs.NodeInputs.{nodes_of}
use Rattle.certificate_text.specs.declared.fault.TextReason.TheVariants.{OtherForm}
use Rattle.certificate_text.specs.declared.fault.TextRefusal.{TextRefusal}
use Rattle.certificate_text.specs.CertificateText.{node_words}
use Rattle.certificate_text.specs.Limits.{most_deep, most_nodes}
use Rattle.certificate_text.specs.Readable.{IsReadableNode, IsReadableOperator}
use Rattle.certificate_read.specs.declared.nodes.ReadNode.{ReadNode}
use Rattle.certificate_read.specs.declared.reading.Wanted.{Wanted}
use Rattle.certificate_read.specs.declared.text_lines.TextLines.{TextLines}
use Rattle.certificate_read.specs.NodeReading.{node_wording}
use Rattle.certificate_read.specs.TextCalls.{IsBefore, PassesLine, PassesNodes, RefusesFrom, Takes}
use Rattle.certificate_read.specs.TextFaults.{some_wanted, wanted_behind, IsFaultOfNodes, IsNextFault, IsOther, IsOtherNode, LeadsTo}
use Rattle.certificate_read.specs.TextReading.{IsBalanced, IsReadablePlan}
use Rattle.certificate_read.specs.Wordings as wordings
use Rattle.certificate_read.proofs.NodeTexts.{node_line}
use Rattle.certificate_read.proofs.WholePlans.{rooted, rooted_nodes, rooted_readable}
use Rattle.certificate_read.proofs.TextSteps.{first_node, from_as, later_node, leads_balanced, leads_both, next_as, nodes_passed, none_passed, one_passed, sum_first, sum_some}

-- ---- a node

inputs_of_operator : (o : Operator) (inputs : ℕ) → IsReadableOperator o inputs → inputs ≤ 2 ^ 32
inputs_of_operator (Scan o) inputs h = omega (arith, h.0)
inputs_of_operator (IndexScan a C) inputs h = omega (arith, h.0)
inputs_of_operator (Filter C) inputs h = omega (arith, h.0)
inputs_of_operator (FilterSubqueries C) inputs h = omega (arith, h.1)
inputs_of_operator (Projection K) inputs h = omega (arith, h.0)
inputs_of_operator (JoinRows m j) inputs h = omega (arith, h.0)
inputs_of_operator (IndexJoin a j) inputs h = omega (arith, h.0)
inputs_of_operator (GroupRows m K G) inputs h = omega (arith, h.0)
inputs_of_operator (DistinctRows m) inputs h = omega (arith, h)

inputs_few : (n : Node) (inputs : ℕ) → IsReadableNode n inputs → inputs ≤ 2 ^ 32
inputs_few (Implements line o) inputs h = inputs_of_operator o inputs h.1
inputs_few (Sort K) inputs h = omega (arith, h.0)

-- there is room for a node where it isn't too deep
room_within : (room deep : ℕ) → room + deep ≡ most_deep + 1 → nat_lt 0 room ≡ nat_le deep most_deep
room_within room deep e = elim (cases_lt 0 room) [
  | inl some ↦ lt-ltb 0 room some ∙ sym (le-leb deep most_deep (omega (arith, some, e)))
  | inr none ↦ not_lt 0 room none ∙ sym (not_le deep most_deep (omega (arith, none, e)))
] where
  not_lt : (a b : ℕ) → b ≤ a → nat_lt a b ≡ false
  not_lt a b l = by (nat_lt a b) refl where
    by : (t : Bool) → nat_lt a b ≡ t → t ≡ false
    by true e = absurd (omega (arith, ltb-true a b e, l))
    by false e = refl

  not_le : (a b : ℕ) → b < a → nat_le a b ≡ false
  not_le a b l = by (nat_le a b) refl where
    by : (t : Bool) → nat_le a b ≡ t → t ≡ false
    by true e = absurd (omega (arith, leb-true a b e, l))
    by false e = refl

pub node_refused : (ws : List ℕ) (counted room : ℕ) (text : TextLines) (fault : Fault TextRefusal) → room + length ws ≡ most_deep + 1 → RefusesFrom (IsNextFault (IsOther (wordings.deep (nat_lt 0 room) node_wording))) text fault → RefusesFrom (IsNextFault (IsOtherNode ws counted)) text fault
node_refused ws counted room text fault e h =
    from_as (IsNextFault (IsOther (wordings.deep (nat_lt 0 room) node_wording))) (IsNextFault (IsOtherNode ws counted)) text text fault
    (λ r. next_as (IsOther (wordings.deep (nat_lt 0 room) node_wording)) (IsOtherNode ws counted) text.left.now text.number r (λ line reason other. inl (subst (λ b. IsOther (wordings.deep b node_wording) line reason) (room_within room (length ws) e) other))) h

module _ (w : ℕ) (ws : List ℕ) (room : ℕ) (before : Wanted) (at : IsBefore (suc w ∷ ws) room before) (n : Node) (inputs : ℕ) (readable : IsReadableNode n inputs) where
  pub few_inputs : (before.inputs - 1) + inputs < 2 ^ 64
  few_inputs = omega (arith, at.2, at.3, inputs_few n inputs readable)

  wanted_sum : (before.inputs - 1) + inputs ≡ sum (inputs ∷ w ∷ ws)
  wanted_sum = omega (arith, at.0, sum_first (suc w) ws, sum_first w ws, sum_first inputs (w ∷ ws))

  pub behind_sum : (before.inputs - 1) + inputs ≡ sum (wanted_behind inputs (suc w ∷ ws))
  behind_sum = wanted_sum ∙ sym (sum_some (inputs ∷ w ∷ ws))

  module _ (old mid : TextLines) (passed : PassesLine (node_words n inputs) old mid) (some : nat_lt 0 room ≡ true) (after : Wanted) where
    deep : length (suc w ∷ ws) ≤ most_deep
    deep = omega (arith, ltb-true 0 room some, at.1)

    pub node_taken : Takes inputs before after true → (length (suc w ∷ ws) ≤ most_deep) × IsBalanced (before.counted - 1) (sum (wanted_behind inputs (suc w ∷ ws))) × (after.counted ≡ before.counted - 1) × (after.inputs ≡ sum (inputs ∷ w ∷ ws))
    node_taken taken = (deep, subst (IsBalanced (before.counted - 1)) behind_sum taken.2, taken.0, taken.1 ∙ wanted_sum)

    pub size_refused : Takes inputs before after false → IsNextFault (IsOtherNode (suc w ∷ ws) before.counted) old.left.now old.number (record { line = mid.number; reason = OtherForm })
    size_refused taken = (
      passed.1,
      inr (node_words n inputs, mid.left.now, passed.0, (node_line n inputs readable).1, inr (n, inputs, refl, readable, deep, (λ balanced. taken.2 (subst (IsBalanced (before.counted - 1)) (sym behind_sum) balanced)), refl)),
    )

-- ---- a node and its inputs

one_leads : (w : ℕ) (ws : List ℕ) (counted : ℕ) (n : Node) (inputs : ℕ) → IsReadableNode n inputs → length (suc w ∷ ws) ≤ most_deep → IsBalanced (counted - 1) (sum (wanted_behind inputs (suc w ∷ ws))) → LeadsTo (suc w ∷ ws) counted ((n, inputs) ∷ []) (some_wanted (inputs ∷ w ∷ ws)) (counted - 1)
one_leads w ws counted n inputs readable deep balanced = (readable, omega arith, deep, balanced, (refl, refl))

-- what a node is passed with
abbrev pub IsPassed : ℕ → List ℕ → Wanted → Wanted → TextLines → TextLines → ReadNode → Type 0
IsPassed w ws before after old new r = PassesLine (node_words r.node r.inputs) old new × IsReadableNode r.node r.inputs × (length (suc w ∷ ws) ≤ most_deep) × IsBalanced (before.counted - 1) (sum (wanted_behind r.inputs (suc w ∷ ws))) × (after.counted ≡ before.counted - 1) × (after.inputs ≡ sum (r.inputs ∷ w ∷ ws))

pub inputs_refused : (w : ℕ) (ws : List ℕ) (before after : Wanted) (old mid : TextLines) (r : ReadNode) (fault : Fault TextRefusal) → IsPassed w ws before after old mid r → RefusesFrom (IsFaultOfNodes (some_wanted (r.inputs ∷ w ∷ ws)) after.counted) mid fault → RefusesFrom (IsFaultOfNodes (suc w ∷ ws) before.counted) old fault
inputs_refused w ws before after old mid r fault passed h =
    from_as (IsFaultOfNodes (some_wanted (r.inputs ∷ w ∷ ws)) after.counted) (IsFaultOfNodes (suc w ∷ ws) before.counted) old mid fault
    (λ refusal of_inputs. later_node (suc w ∷ ws) before.counted ((r.node, r.inputs) ∷ []) (some_wanted (r.inputs ∷ w ∷ ws)) (before.counted - 1) old mid refusal (one_leads w ws before.counted r.node r.inputs passed.1 passed.2 passed.3)
    (one_passed (node_words r.node r.inputs) old mid passed.0) (subst (λ m. IsFaultOfNodes (some_wanted (r.inputs ∷ w ∷ ws)) m mid.left.now mid.number refusal) passed.4 of_inputs)) h

pub whole_passed : (w : ℕ) (ws : List ℕ) (before mid after : Wanted) (old text new : TextLines) (r : ReadNode) (ns : List (Node × ℕ)) → IsPassed w ws before mid old text r → PassesNodes (some_wanted (r.inputs ∷ w ∷ ws)) (some_wanted (w ∷ ws)) mid after text new ns → PassesNodes (suc w ∷ ws) (some_wanted (w ∷ ws)) before after old new ((r.node, r.inputs) ∷ ns)
whole_passed w ws before mid after old text new r ns passed inputs = (
  nodes_passed ((r.node, r.inputs) ∷ []) ns old text new (one_passed (node_words r.node r.inputs) old text passed.0) inputs.0,
  leads_both (suc w ∷ ws) before.counted ((r.node, r.inputs) ∷ []) (some_wanted (r.inputs ∷ w ∷ ws)) (before.counted - 1) ns (some_wanted (w ∷ ws)) after.counted (one_leads w ws before.counted r.node r.inputs passed.1 passed.2 passed.3)
      (subst (λ m. LeadsTo (some_wanted (r.inputs ∷ w ∷ ws)) m ns (some_wanted (w ∷ ws)) after.counted) passed.4 inputs.1),
  inputs.2,
)

-- ---- the inputs of a node, as far as they are read

nodes-append : (ps : List Plan) (p : Plan) → flat_map nodes_of (ps ++ (p ∷ [])) ≡ flat_map nodes_of ps ++ nodes_of p
nodes-append [] p = append-nil (nodes_of p)
nodes-append (q ∷ ps) p = ap (λ ns. nodes_of q ++ ns) (nodes-append ps p) ∙ sym (append_assoc (nodes_of q) (flat_map nodes_of ps) (nodes_of p))

abbrev pub InputsSoFar : ℕ → ℕ → ℕ → List ℕ → Wanted → Wanted → TextLines → TextLines → List Plan → ℕ → Type 0
InputsSoFar below count w ws before now old text ps done =
    (left : ℕ) × (left + done ≡ count) × PassesNodes (some_wanted (count ∷ w ∷ ws)) (some_wanted (left ∷ w ∷ ws)) before now old text (flat_map nodes_of ps) × AllByRecursion (IsReadablePlan below) ps × (length ps ≡ done)

pub no_inputs : (below count w : ℕ) (ws : List ℕ) (before : Wanted) (old : TextLines) (ps : List Plan) → before.inputs ≡ sum (count ∷ w ∷ ws) → ps ≡ [] → InputsSoFar below count w ws before before old old ps 0
no_inputs below count w ws before old ps wanted e =
    subst (λ ps. InputsSoFar below count w ws before before old old ps 0) (sym e) (count, omega arith, (none_passed old, (refl, refl), wanted ∙ sym (sum_some (count ∷ w ∷ ws))), tt, refl)

module _ (below count w : ℕ) (ws : List ℕ) (before now : Wanted) (old text : TextLines) (ps : List Plan) (done : ℕ) (so_far : InputsSoFar below count w ws before now old text ps done) (few : before.inputs ≤ before.counted) (most : before.counted ≤ most_nodes) (wanted : before.inputs ≡ sum (count ∷ w ∷ ws)) where
  still : (sum (some_wanted (so_far.0 ∷ w ∷ ws)) ≤ now.counted) × (now.counted ≤ before.counted)
  still = leads_balanced (some_wanted (count ∷ w ∷ ws)) before.counted (flat_map nodes_of ps) (some_wanted (so_far.0 ∷ w ∷ ws)) now.counted (omega (arith, few, wanted, sum_some (count ∷ w ∷ ws))) so_far.2.1

  -- the next of them
  pub next_before : (room : ℕ) → 0 < room → room + length (w ∷ ws) ≡ most_deep + 1 → below ≡ room - 1 → done < count → (j : ℕ) × (so_far.0 ≡ suc j) × IsBefore (suc j ∷ w ∷ ws) below now
  next_before room some levels is more = by so_far.0 refl where
    by : (left : ℕ) → left ≡ so_far.0 → (j : ℕ) × (so_far.0 ≡ suc j) × IsBefore (suc j ∷ w ∷ ws) below now
    by zero e = absurd (omega (arith, e, so_far.1, more))
    by (suc j) e = (j, sym e, (so_far.2.2 ∙ ap (λ k. sum (some_wanted (k ∷ w ∷ ws))) (sym e), omega (arith, some, levels, is), omega (arith, so_far.2.2, still.0), omega (arith, still.1, most)))

  module _ (j : ℕ) (is : so_far.0 ≡ suc j) where
    some_left : PassesNodes (some_wanted (count ∷ w ∷ ws)) (suc j ∷ w ∷ ws) before now old text (flat_map nodes_of ps)
    some_left = subst (λ k. PassesNodes (some_wanted (count ∷ w ∷ ws)) (some_wanted (k ∷ w ∷ ws)) before now old text (flat_map nodes_of ps)) is so_far.2

    pub input_refused : (fault : Fault TextRefusal) → RefusesFrom (IsFaultOfNodes (suc j ∷ w ∷ ws) now.counted) text fault → RefusesFrom (IsFaultOfNodes (some_wanted (count ∷ w ∷ ws)) before.counted) old fault
    input_refused fault h =
        from_as (IsFaultOfNodes (suc j ∷ w ∷ ws) now.counted) (IsFaultOfNodes (some_wanted (count ∷ w ∷ ws)) before.counted) old text fault
        (λ r. later_node (some_wanted (count ∷ w ∷ ws)) before.counted (flat_map nodes_of ps) (suc j ∷ w ∷ ws) now.counted old text r some_left.1 some_left.0) h

    pub input_more : (after : Wanted) (new : TextLines) (p : Plan) (grown : List Plan) → PassesNodes (suc j ∷ w ∷ ws) (some_wanted (j ∷ w ∷ ws)) now after text new (nodes_of p) × IsReadablePlan below p → grown ≡ ps ++ (p ∷ []) → InputsSoFar below count w ws before after old new grown (done + 1)
    input_more after new p grown read e =
        subst (λ ps. InputsSoFar below count w ws before after old new ps (done + 1)) (sym e) (
          j,
          omega (arith, is, so_far.1),
          subst (λ ns. PassesNodes (some_wanted (count ∷ w ∷ ws)) (some_wanted (j ∷ w ∷ ws)) before after old new ns) (sym (nodes-append ps p)) (
            nodes_passed (flat_map nodes_of ps) (nodes_of p) old text new some_left.0 read.0.0,
            leads_both (some_wanted (count ∷ w ∷ ws)) before.counted (flat_map nodes_of ps) (suc j ∷ w ∷ ws) now.counted (nodes_of p) (some_wanted (j ∷ w ∷ ws)) after.counted some_left.1 read.0.1,
            read.0.2,
          ),
          all_append (IsReadablePlan below) ps (p ∷ []) so_far.3 (read.1, tt),
          omega (arith, length-append ps (p ∷ []), so_far.4),
        )

  -- all of them
  pub inputs_passed : count ≤ done → PassesNodes (some_wanted (count ∷ w ∷ ws)) (some_wanted (w ∷ ws)) before now old text (flat_map nodes_of ps) × AllByRecursion (IsReadablePlan below) ps × (length ps ≡ count)
  inputs_passed end =
      let none : so_far.0 ≡ 0 = omega (arith, end, so_far.1) in
      (subst (λ k. PassesNodes (some_wanted (count ∷ w ∷ ws)) (some_wanted (k ∷ w ∷ ws)) before now old text (flat_map nodes_of ps)) none so_far.2, so_far.3, omega (arith, end, so_far.1, so_far.4))

-- ---- a plan of a node and its inputs

module _ (w : ℕ) (ws : List ℕ) (room : ℕ) (before mid : Wanted) (old text : TextLines) (r : ReadNode) (at : IsBefore (suc w ∷ ws) room before) (passed : IsPassed w ws before mid old text r) where
  pub has_room : 0 < room
  has_room = omega (arith, at.1, passed.2)

  pub room_left : room + length (w ∷ ws) ≡ most_deep + 1
  room_left = omega (arith, at.1)

  pub inputs_fit : mid.inputs ≤ mid.counted
  inputs_fit = omega (arith, passed.3.0, passed.4, passed.5, sum_some (r.inputs ∷ w ∷ ws))

  pub inputs_counted : mid.counted ≤ most_nodes
  inputs_counted = omega (arith, passed.4, at.3)

  pub plan_read : (after : Wanted) (new : TextLines) (ps : List Plan) → PassesNodes (some_wanted (r.inputs ∷ w ∷ ws)) (some_wanted (w ∷ ws)) mid after text new (flat_map nodes_of ps) × AllByRecursion (IsReadablePlan (room - 1)) ps × (length ps ≡ r.inputs)
      → PassesNodes (suc w ∷ ws) (some_wanted (w ∷ ws)) before after old new (nodes_of (rooted r.node ps)) × IsReadablePlan room (rooted r.node ps)
  plan_read after new ps inputs = (
    subst (PassesNodes (suc w ∷ ws) (some_wanted (w ∷ ws)) before after old new) (sym (rooted_nodes r.node ps ∙ ap (λ k. (r.node, k) ∷ flat_map nodes_of ps) inputs.2)) (whole_passed w ws before mid after old text new r (flat_map nodes_of ps) passed inputs.0),
    rooted_readable r.node ps room has_room (subst (IsReadableNode r.node) (sym inputs.2) passed.1) inputs.1,
  )
