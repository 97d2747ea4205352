-- Plans of nodes that were read, and certificates of them: their texts, and that they are within the limits.
use Rattle.std.proofs.Common.{◌≡◌, refl, sym, ap, subst, ◌∙◌, arith, ℕ, ◌+◌, ◌-◌, ◌<◌, ◌≤◌, Bool, true, false, ◌&&◌, nat_le, nat_lt, List, [], ◌∷◌, ◌++◌, length, map, flat_map, sum, length-append, append_assoc, Ok}
use Rattle.std.proofs.lemmas.Bool.{and_parts, false≢true, lt-ltb, le-leb}
use Rattle.std.specs.List.{AllByRecursion}
use Rattle.values.proofs.Lists.{all_append}
use Rattle.values.specs.Faults.{◌>>=◌}
use Rattle.algebra.specs.declared.condition.Condition.{Condition}
use Rattle.algebra.specs.declared.expr.Expr.{Expr}
use Rattle.algebra.specs.declared.expr.Expr.TheVariants.{Get, Select, Join, LeftJoin, Semi, Anti, Keep, Distinct, Group}
use Rattle.algebra.specs.Expressions.{conditions}
use Rattle.derivation.specs.declared.line.Line.{Line}
use Rattle.derivation.specs.declared.line.Line.TheVariants.{Founds, Adds, Unites, Alike, Gives}
use Rattle.physical.specs.declared.plan.Matching.{Matching}
use Rattle.physical.specs.declared.plan.Matching.TheVariants as matching
use Rattle.physical.specs.declared.plan.Operator.{Operator}
use Rattle.physical.specs.declared.plan.Operator.TheVariants.{Scan, IndexScan, Filter, FilterSubqueries, Projection, JoinRows, IndexJoin, GroupRows, DistinctRows}
use Rattle.physical.specs.declared.plan.Node.{Node}
use Rattle.physical.specs.declared.plan.Node.TheVariants.{Implements, Sort}
use Rattle.physical.specs.declared.plan.Plan.{Plan, out-Plan, roll-Plan, out-roll-Plan, ind-Plan, map-Plan}
use Rattle.physical.specs.declared.plan.Plan.TheOpen.{Plan-F}
use Rattle.certificate.specs.declared.certificate.Certificate.{Certificate}
use Rattle.certificate.specs.NodeInputs.{nodes_of}
use Rattle.certificate.proofs.NodeInputs.{list_at}
use Rattle.certificate_text.specs.Conditions.{IsReadable, nests_within}
use Rattle.certificate_text.specs.CertificateText.{certificate_text, ended, node_count, node_text, plan_text}
use Rattle.certificate_text.specs.Limits.{all_nest_within, checked, line_is_within, lines_within, matching_conditions, most_deep, most_lines, most_nested, most_nodes, node_is_within, nodes_within, operator_conditions, written}
use Rattle.certificate_text.specs.Readable.{IsReadableExpr, IsReadableLine, IsReadableMatching, IsReadableNode, IsReadableOperator}
use Rattle.certificate_text.proofs.LimitLists.{nodes_at}
use Rattle.certificate_text.proofs.PlanTexts.{all_inputs, count_at, one-more, text_at}
use Rattle.certificate_read.specs.TextFaults.{nodes_words}
use Rattle.certificate_read.specs.TextReading.{IsReadablePlan}

-- ---- what can be read is within the limits

both_within : (C D : List Condition) (room : ℕ) → all_nest_within C room ≡ true → all_nest_within D room ≡ true → all_nest_within (C ++ D) room ≡ true
both_within [] D room h k = k
both_within (c ∷ C) D room h k = let parts = and_parts (nests_within c room) (all_nest_within C room) h in λ i. parts.0 i && both_within C D room parts.1 k i

conjuncts_within : (C : List Condition) → AllByRecursion (IsReadable most_nested) C → all_nest_within C most_nested ≡ true
conjuncts_within [] h = refl
conjuncts_within (c ∷ C) h = λ i. h.0.0 i && conjuncts_within C h.1 i

matching_within : (j : Matching) → IsReadableMatching j → all_nest_within (matching_conditions j) most_nested ≡ true
matching_within (matching.Inner C) h = conjuncts_within C h.0
matching_within (matching.Left C) h = conjuncts_within C h.0
matching_within (matching.Semi C) h = conjuncts_within C h.0
matching_within (matching.Anti S M) h = both_within S M most_nested (conjuncts_within S h.0.0) (conjuncts_within M h.1.0)

operator_within : (o : Operator) (inputs : ℕ) → IsReadableOperator o inputs → all_nest_within (operator_conditions o) most_nested ≡ true
operator_within (Scan o) inputs h = refl
operator_within (IndexScan a C) inputs h = conjuncts_within C h.2.0
operator_within (Filter C) inputs h = conjuncts_within C h.1.0
operator_within (FilterSubqueries C) inputs h = conjuncts_within C h.2.0
operator_within (Projection K) inputs h = refl
operator_within (JoinRows m j) inputs h = matching_within j h.1
operator_within (IndexJoin a j) inputs h = matching_within j h.2
operator_within (GroupRows m K G) inputs h = refl
operator_within (DistinctRows m) inputs h = refl

node_within_limits : (n : Node) (inputs : ℕ) → IsReadableNode n inputs → node_is_within n ≡ true
node_within_limits (Implements line o) inputs h = operator_within o inputs h.1
node_within_limits (Sort K) inputs h = refl

expr_within : (x : Expr) → IsReadableExpr x → all_nest_within (conditions x) most_nested ≡ true
expr_within (Get o) h = refl
expr_within (Select C k) h = conjuncts_within C h.0.0
expr_within (Join C a b) h = conjuncts_within C h.0.0
expr_within (LeftJoin C a b) h = conjuncts_within C h.0.0
expr_within (Semi C a b) h = conjuncts_within C h.0.0
expr_within (Anti S M a b) h = both_within S M most_nested (conjuncts_within S h.0.0) (conjuncts_within M h.1.0)
expr_within (Keep K k) h = refl
expr_within (Distinct k) h = refl
expr_within (Group K G k) h = refl

line_within_limits : (l : Line) → IsReadableLine l → line_is_within l ≡ true
line_within_limits (Founds x) h = expr_within x h
line_within_limits (Adds g s x) h = expr_within x h.2
line_within_limits (Unites g i s) h = refl
line_within_limits (Alike i j) h = refl
line_within_limits (Gives g m f) h = refl

-- ---- a plan of its root and its inputs

module _ (n : Node) (ps : List Plan) where
  abbrev pub rooted : Plan
  rooted = roll-Plan (record { node = n; inputs = ps })

  opens : out-Plan rooted ≡ record { node = n; inputs = ps }
  opens = out-roll-Plan (record { node = n; inputs = ps })

  pub rooted_nodes : nodes_of rooted ≡ (n, length ps) ∷ flat_map nodes_of ps
  rooted_nodes = list_at rooted ∙ ap (λ (x : Plan-F Plan). (x.node, length x.inputs) ∷ flat_map nodes_of x.inputs) opens

  pub rooted_readable : (room : ℕ) → 0 < room → IsReadableNode n (length ps) → AllByRecursion (IsReadablePlan (room - 1)) ps → IsReadablePlan room rooted
  rooted_readable room some readable inputs = (
    subst (AllByRecursion (λ (n : Node × ℕ). IsReadableNode n.0 n.1)) (sym rooted_nodes) (readable, all_inputs (λ (n : Node × ℕ). IsReadableNode n.0 n.1) nodes_of ps (firsts ps inputs)),
    subst (AllByRecursion (λ is_within. is_within ≡ true)) (sym (nodes_at rooted room ∙ ap (λ (x : Plan-F Plan). (nat_lt 0 room && node_is_within x.node) ∷ flat_map (λ q. nodes_within q (room - 1)) x.inputs) opens))
        ((λ i. lt-ltb 0 room some i && node_within_limits n (length ps) readable i), all_inputs (λ is_within. is_within ≡ true) (λ q. nodes_within q (room - 1)) ps (seconds ps inputs)),
  ) where
    firsts : (ps : List Plan) → AllByRecursion (IsReadablePlan (room - 1)) ps → AllByRecursion (λ p. AllByRecursion (λ (n : Node × ℕ). IsReadableNode n.0 n.1) (nodes_of p)) ps
    firsts [] h = tt
    firsts (p ∷ ps) h = (h.0.0, firsts ps h.1)

    seconds : (ps : List Plan) → AllByRecursion (IsReadablePlan (room - 1)) ps → AllByRecursion (λ q. AllByRecursion (λ is_within. is_within ≡ true) (nodes_within q (room - 1))) ps
    seconds [] h = tt
    seconds (p ∷ ps) h = (h.0.1, seconds ps h.1)

-- ---- the text and the size of a plan, by its nodes

abbrev IsListed : Plan → Type 0
IsListed p = (plan_text p ≡ flat_map ended (nodes_words (nodes_of p))) × (node_count p ≡ length (nodes_of p))

abbrev Part : Type 0
Part = (p : Plan) × IsListed p

words-both : (ns ms : List (Node × ℕ)) → flat_map ended (nodes_words (ns ++ ms)) ≡ flat_map ended (nodes_words ns) ++ flat_map ended (nodes_words ms)
words-both [] ms = refl
words-both (n ∷ ns) ms = ap (λ t. node_text n.0 n.1 ++ t) (words-both ns ms) ∙ sym (append_assoc (node_text n.0 n.1) (flat_map ended (nodes_words ns)) (flat_map ended (nodes_words ms)))

each_listed : (parts : List Part) → (flat_map plan_text (map (λ p. p.0) parts) ≡ flat_map ended (nodes_words (flat_map nodes_of (map (λ p. p.0) parts)))) × (sum (map node_count (map (λ p. p.0) parts)) ≡ length (flat_map nodes_of (map (λ p. p.0) parts)))
each_listed [] = (refl, refl)
each_listed (p ∷ parts) =
    let more = each_listed parts in
    let others = map (λ p. p.0) parts in (
      (λ i. p.1.0 i ++ more.0 i) ∙ sym (words-both (nodes_of p.0) (flat_map nodes_of others)),
      one-more p.0 others ∙ (λ i. p.1.1 i + more.1 i) ∙ sym (length-append (nodes_of p.0) (flat_map nodes_of others)),
    )

listed_at : (y : Plan-F Part) (p : Plan) → out-Plan p ≡ map-Plan Part Plan (λ p. p.0) y → IsListed p
listed_at y p is =
    let inputs = map (λ p. p.0) y.inputs in
    let more = each_listed y.inputs in
    let nodes : nodes_of p ≡ (y.node, length inputs) ∷ flat_map nodes_of inputs = list_at p ∙ ap (λ (x : Plan-F Plan). (x.node, length x.inputs) ∷ flat_map nodes_of x.inputs) is in (
      sym (text_at p (out-Plan p).inputs refl) ∙ ap (λ (x : Plan-F Plan). node_text x.node (length x.inputs) ++ flat_map plan_text x.inputs) is ∙ ap (λ t. node_text y.node (length inputs) ++ t) more.0 ∙ ap (λ ns. flat_map ended (nodes_words ns)) (sym nodes),
      sym (count_at p (out-Plan p).inputs refl) ∙ ap (λ (x : Plan-F Plan). 1 + sum (map node_count x.inputs)) is ∙ ap (λ n. 1 + n) more.1 ∙ omega (arith, ap length nodes),
    )

pub plan_listed : (p : Plan) → IsListed p
plan_listed = ind-Plan IsListed (λ x y is. subst (λ z. IsListed (roll-Plan z)) is (listed_at y (roll-Plan (map-Plan Part Plan (λ p. p.0) y)) (out-roll-Plan (map-Plan Part Plan (λ p. p.0) y))))

-- ---- certificates within the limits

checked_true : (n : ℕ) (bs : List Bool) → AllByRecursion (λ b. b ≡ true) bs → (m : ℕ) × (checked n bs ≡ Ok m)
checked_true n [] h = (n, refl)
checked_true n (true ∷ bs) h = checked_true (n + 1) bs h.1
checked_true n (false ∷ bs) h = absurd (false≢true h.0)

lines_all : (ls : List Line) → AllByRecursion IsReadableLine ls → AllByRecursion (λ b. b ≡ true) (map line_is_within ls)
lines_all [] h = tt
lines_all (l ∷ ls) h = (line_within_limits l h.0, lines_all ls h.1)

pub within_written : (c : Certificate) → length c.lines ≤ most_lines → AllByRecursion IsReadableLine c.lines → node_count c.plan ≤ most_nodes → IsReadablePlan most_deep c.plan → written c ≡ Ok (certificate_text c)
within_written c few lines counted plan =
    let all : AllByRecursion (λ b. b ≡ true) (lines_within c) =
    (refl, (le-leb (length c.lines) most_lines few, all_append (λ b. b ≡ true) (map line_is_within c.lines) (nat_le (node_count c.plan) most_nodes ∷ nodes_within c.plan most_deep) (lines_all c.lines lines) (le-leb (node_count c.plan) most_nodes counted, plan.1))) in
    ap (λ r. r >>= λ line. Ok (certificate_text c)) (checked_true 1 (lines_within c) all).1
