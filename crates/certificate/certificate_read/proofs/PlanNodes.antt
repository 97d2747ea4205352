-- A plan that can be read, by its root's node and its inputs; and how many nodes are still to be read of it.
use Rattle.std.proofs.Common.{◌≡◌, refl, ap, sym, ◌∙◌, subst, arith, ℕ, ◌+◌, ◌-◌, ◌<◌, Bool, true, nat_lt, List, [], ◌∷◌, ◌++◌, length, map, flat_map, sum, append_assoc}
use Rattle.std.specs.List.{AllByRecursion}
use Rattle.std.proofs.lemmas.Bool.{and_parts, ltb-true}
use Rattle.physical.specs.declared.plan.Node.{Node}
use Rattle.physical.specs.declared.plan.Plan.{Plan, out-Plan}
use Rattle.certificate_text.specs.CertificateText.{Text, node_text, plan_text, node_count}
use Rattle.certificate_text.specs.Limits.{nodes_within, node_is_within}
use Rattle.certificate_text.proofs.LimitLists.{nodes_at}
use Rattle.certificate_text.proofs.PlanTexts.{count_at, no-more, one-more, some_each, some_nodes, text_at}
use Rattle.certificate_text.proofs.FrontConditions.{all_split}
use Rattle.certificate.specs.NodeInputs.{nodes_of}
use Rattle.certificate.proofs.NodeInputs.{list_at}
use Rattle.certificate_text.specs.Readable.{AreReadableNodes, IsReadableNode}
use Rattle.certificate_read.specs.declared.reading.Wanted.{Wanted}
use Rattle.certificate_read.specs.TextReading.{IsReadablePlan, IsWanted, IsBalanced}

-- ---- plans that can be read

all_inputs : {X Y : Type 0} (P : Y → Type 0) (f : X → List Y) (xs : List X) → AllByRecursion P (flat_map f xs) → AllByRecursion (λ x. AllByRecursion P (f x)) xs
all_inputs P f [] all = tt
all_inputs P f (x ∷ xs) all = let parts = all_split P (f x) (flat_map f xs) all in (parts.0, all_inputs P f xs parts.1)

both_all : {X : Type 0} (P Q : X → Type 0) (xs : List X) → AllByRecursion P xs → AllByRecursion Q xs → AllByRecursion (λ x. P x × Q x) xs
both_all P Q [] h k = tt
both_all P Q (x ∷ xs) h k = ((h.0, k.0), both_all P Q xs h.1 k.1)

abbrev IsTrue : Bool → Type 0
IsTrue b = b ≡ true

pub plan_opened : (room : ℕ) (p : Plan) → IsReadablePlan room p → (0 < room) × IsReadableNode (out-Plan p).node (length (out-Plan p).inputs) × AllByRecursion (IsReadablePlan (room - 1)) (out-Plan p).inputs
plan_opened room p h =
    let inputs = (out-Plan p).inputs in
    let nodes = subst (AllByRecursion (λ (n : Node × ℕ). IsReadableNode n.0 n.1)) (list_at p) h.0 in
    let within = subst (AllByRecursion IsTrue) (nodes_at p room) h.1 in (
      ltb-true 0 room (and_parts (nat_lt 0 room) (node_is_within (out-Plan p).node) within.0).0,
      nodes.0,
      both_all AreReadableNodes (λ q. AllByRecursion IsTrue (nodes_within q (room - 1))) inputs (all_inputs (λ (n : Node × ℕ). IsReadableNode n.0 n.1) nodes_of inputs nodes.1) (all_inputs IsTrue (λ q. nodes_within q (room - 1)) inputs within.1),
    )

-- ---- how many nodes

-- behind a root the nodes of its inputs are counted, and its inputs are wanted
pub inputs_balanced : (k w : ℕ) (ps : List Plan) → IsBalanced k w → IsBalanced (sum (map node_count ps) + k) (w + length ps)
inputs_balanced k w [] h = (omega (arith, no-more, h.0), λ none. ap (λ n. n + k) no-more ∙ omega (arith, h.1 (omega (arith, none))))
inputs_balanced k w (p ∷ ps) h = (omega (arith, h.0, one-more p ps, some_nodes p, some_each ps), λ none. absurd (omega (arith, none)))

-- ---- what is wanted as a plan is read

-- with the next of the inputs that are left, those behind it
pub next_wanted : (k w : ℕ) (left more : List Plan) (p : Plan) (now : Wanted) → left ≡ p ∷ more → IsWanted (sum (map node_count left) + k) (w + length left) now → IsWanted (node_count p + (sum (map node_count more) + k)) ((w + length more) + 1) now
next_wanted k w left more p now is h = (h.0 ∙ ap (λ ps. sum (map node_count ps) + k) is ∙ omega (arith, one-more p more), h.1 ∙ ap (λ ps. w + length ps) is ∙ omega arith)

-- with a root, the nodes of its inputs
pub root_wanted : (k w : ℕ) (p : Plan) (now : Wanted) → IsWanted (node_count p + k) (w + 1) now → IsWanted ((sum (map node_count (out-Plan p).inputs) + k) + 1) (w + 1) now
root_wanted k w p now h = (h.0 ∙ omega (arith, count_at p (out-Plan p).inputs refl), h.1)

pub none_wanted : (k w : ℕ) (left : List Plan) (now : Wanted) → left ≡ [] → IsWanted (sum (map node_count left) + k) (w + length left) now → IsWanted k w now
none_wanted k w left now none h = (h.0 ∙ ap (λ ps. sum (map node_count ps) + k) none ∙ omega (arith, no-more), h.1 ∙ ap (λ ps. w + length ps) none ∙ omega arith)

pub root_text : (p : Plan) (rest : Text) → plan_text p ++ rest ≡ node_text (out-Plan p).node (length (out-Plan p).inputs) ++ (flat_map plan_text (out-Plan p).inputs ++ rest)
root_text p rest =
    let inputs = (out-Plan p).inputs in
    ap (λ t. t ++ rest) (sym (text_at p inputs refl)) ∙ append_assoc (node_text (out-Plan p).node (length inputs)) (flat_map plan_text inputs) rest
