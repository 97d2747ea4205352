-- Limits of conditions and of plans, by their outermost parts, and lists of lines that are checked one after the other.
use Rattle.std.proofs.Common.{◌≡◌, refl, ap, sym, ◌∙◌, ℕ, ◌+◌, ◌-◌, Bool, true, false, ◌&&◌, nat_le, nat_lt, List, [], ◌∷◌, ◌++◌, length, map, flat_map, Result, Ok, Err, arith}
use Rattle.std.specs.List.{list_all}
use Rattle.std.proofs.lemmas.List.Folds.{flat_map-map}
use Rattle.std.proofs.lemmas.Bool.{lt-ltb}
use Rattle.values.specs.Faults.{◌>>=◌}
use Rattle.certificate.specs.declared.certificate.Certificate.{Certificate}
use Rattle.values.specs.declared.truth.Comparison.{Comparison}
use Rattle.algebra.specs.declared.condition.Term.{Term}
use Rattle.algebra.specs.declared.condition.Condition.{Condition, roll-Condition, out-Condition, fold-roll-Condition, fold_out-Condition, map-Condition}
use Rattle.algebra.specs.declared.condition.Condition.TheVariants.{Compare, IsNull, Not, And, Or, Exists, In, rolls-Compare, rolls-IsNull, rolls-Not, rolls-And, rolls-Or, rolls-Exists, rolls-In}
use Rattle.algebra.specs.declared.condition.Condition.TheOpen.{Condition-F}
use Rattle.physical.specs.declared.plan.Plan.{Plan, out-Plan, fold_out-Plan}
use Rattle.certificate_text.specs.declared.fault.TextRefusal.{TextRefusal}
use Rattle.certificate_text.specs.CertificateText.{Text, node_count, certificate_text}
use Rattle.certificate_text.specs.Conditions.{nests_layer, nests_within}
use Rattle.certificate_text.proofs.FrontConditions.{nests-at, one-less}
use Rattle.certificate_text.specs.Limits.{most_lines, most_nodes, most_deep, line_is_within, written, all_nest_within, node_is_within, within_layer, nodes_within, checked}

-- ---- conditions

all-map : (cs : List Condition) (room : ℕ) → list_all (λ c. c room) (map nests_within cs) ≡ all_nest_within cs room
all-map [] room = refl
all-map (c ∷ cs) room = ap (λ b. nests_within c room && b) (all-map cs room)

no-room : (x : Condition-F (ℕ → Bool)) → nests_layer x 0 ≡ false
no-room (Condition-F.Compare op a b) = refl
no-room (Condition-F.IsNull a) = refl
no-room (Condition-F.Not c) = refl
no-room (Condition-F.And a b cs) = refl
no-room (Condition-F.Or a b cs) = refl
no-room (Condition-F.Exists g) = refl
no-room (Condition-F.In a g k) = refl

pub nests_nowhere : (c : Condition) (room : ℕ) → room ≡ 0 → false ≡ nests_within c room
unfolding nests_within
nests_nowhere c room none = sym (ap (nests_within c) none ∙ ap (λ f. f 0) (fold_out-Condition (ℕ → Bool) nests_layer c) ∙ no-room (map-Condition Condition (ℕ → Bool) nests_within (out-Condition c)))

-- there is room, and one less for the parts
some-room : (room : ℕ) → nat_lt 0 (room + 1) ≡ true
some-room room = lt-ltb 0 (room + 1) (omega arith)

pub part_compare : (d : Condition) (op : Comparison) (a b : Term) (room : ℕ) → d ≡ Compare op a b → true ≡ nests_within d (room + 1)
part_compare d op a b room is = sym (nests-at (Condition-F.Compare op a b) d (room + 1) (rolls-Compare op a b ∙ sym is) ∙ some-room room)

pub part_is_null : (d : Condition) (a : Term) (room : ℕ) → d ≡ IsNull a → true ≡ nests_within d (room + 1)
part_is_null d a room is = sym (nests-at (Condition-F.IsNull a) d (room + 1) (rolls-IsNull a ∙ sym is) ∙ some-room room)

pub part_not : (d c : Condition) (room : ℕ) → d ≡ Not c → nests_within c room ≡ nests_within d (room + 1)
part_not d c room is = sym (nests-at (Condition-F.Not c) d (room + 1) (rolls-Not c ∙ sym is) ∙ rw (some-room room, one-less room) refl)

pub part_and : (d a b : Condition) (cs : List Condition) (room : ℕ) → d ≡ And a b cs → (nests_within a room && (nests_within b room && all_nest_within cs room)) ≡ nests_within d (room + 1)
part_and d a b cs room is = sym (nests-at (Condition-F.And a b cs) d (room + 1) (rolls-And a b cs ∙ sym is) ∙ rw (some-room room) (all-map (a ∷ b ∷ cs) ((room + 1) - 1) ∙ ap (all_nest_within (a ∷ b ∷ cs)) (one-less room)))

pub part_or : (d a b : Condition) (cs : List Condition) (room : ℕ) → d ≡ Or a b cs → (nests_within a room && (nests_within b room && all_nest_within cs room)) ≡ nests_within d (room + 1)
part_or d a b cs room is = sym (nests-at (Condition-F.Or a b cs) d (room + 1) (rolls-Or a b cs ∙ sym is) ∙ rw (some-room room) (all-map (a ∷ b ∷ cs) ((room + 1) - 1) ∙ ap (all_nest_within (a ∷ b ∷ cs)) (one-less room)))

pub part_exists : (d : Condition) (g room : ℕ) → d ≡ Exists g → true ≡ nests_within d (room + 1)
part_exists d g room is = sym (nests-at (Condition-F.Exists g) d (room + 1) (rolls-Exists g ∙ sym is) ∙ some-room room)

pub part_in : (d : Condition) (a : Term) (g k room : ℕ) → d ≡ In a g k → true ≡ nests_within d (room + 1)
part_in d a g k room is = sym (nests-at (Condition-F.In a g k) d (room + 1) (rolls-In a g k ∙ sym is) ∙ some-room room)

-- ---- lists

-- lists that are checked one after the other
pub checked_both : {R : Type 0} (n : ℕ) (xs ys : List Bool) (k : ℕ → Result R TextRefusal) → (checked n (xs ++ ys) >>= k) ≡ (checked n xs >>= λ m. checked m ys >>= k)
checked_both n [] ys k = refl
checked_both n (true ∷ xs) ys k = checked_both (n + 1) xs ys k
checked_both n (false ∷ xs) ys k = refl

bind-ok : (r : Result ℕ TextRefusal) → (r >>= λ m. Ok m) ≡ r
bind-ok (Ok m) = refl
bind-ok (Err e) = refl

-- ---- plans

pub nodes_at : (p : Plan) (room : ℕ) → nodes_within p room ≡ (nat_lt 0 room && node_is_within (out-Plan p).node) ∷ flat_map (λ q. nodes_within q (room - 1)) (out-Plan p).inputs
unfolding nodes_within
nodes_at p room =
    ap (λ f. f room) (fold_out-Plan (ℕ → List Bool) within_layer p)
    ∙ ap (λ nodes. (nat_lt 0 room && node_is_within (out-Plan p).node) ∷ nodes) (flat_map-map (λ (f : ℕ → List Bool). f (room - 1)) nodes_within (out-Plan p).inputs)

-- the nodes of plans, checked one plan after the other
abbrev pub inputs_checked : ℕ → List Plan → ℕ → Result ℕ TextRefusal
inputs_checked room [] n = Ok n
inputs_checked room (p ∷ plans) n = checked n (nodes_within p room) >>= inputs_checked room plans

inputs-checked : (room : ℕ) (plans : List Plan) (n : ℕ) → checked n (flat_map (λ p. nodes_within p room) plans) ≡ inputs_checked room plans n
inputs-checked room [] n = refl
inputs-checked room (p ∷ plans) n =
    let rest = flat_map (λ p. nodes_within p room) plans in
    sym (bind-ok (checked n (nodes_within p room ++ rest))) ∙ checked_both n (nodes_within p room) rest (λ m. Ok m)
    ∙ (λ i. checked n (nodes_within p room) >>= λ m. (bind-ok (checked m rest) ∙ inputs-checked room plans m) i)

-- a node, and then its inputs
pub nodes_in_turn : (p : Plan) (room n : ℕ) → checked n (nodes_within p room) ≡ (checked n ((nat_lt 0 room && node_is_within (out-Plan p).node) ∷ []) >>= inputs_checked (room - 1) (out-Plan p).inputs)
nodes_in_turn p room n =
    let first : List Bool = (nat_lt 0 room && node_is_within (out-Plan p).node) ∷ [] in
    let rest = flat_map (λ q. nodes_within q (room - 1)) (out-Plan p).inputs in
    ap (checked n) (nodes_at p room) ∙ sym (bind-ok (checked n (first ++ rest))) ∙ checked_both n first rest (λ m. Ok m)
    ∙ (λ i. checked n first >>= λ m. (bind-ok (checked m rest) ∙ inputs-checked (room - 1) (out-Plan p).inputs m) i)

-- ---- certificates

-- the count of lines, the lines, the count of nodes and the nodes
pub written_in_turn : (c : Certificate) → written c
    ≡ (checked 2 (nat_le (length c.lines) most_lines ∷ []) >>= λ first. checked first (map line_is_within c.lines) >>= λ behind. checked behind (nat_le (node_count c.plan) most_nodes ∷ []) >>= λ root. checked root (nodes_within c.plan most_deep) >>= λ last. Ok (certificate_text c))
written_in_turn c =
    let lines = map line_is_within c.lines in
    let count : List Bool = nat_le (node_count c.plan) most_nodes ∷ [] in
    let nodes = nodes_within c.plan most_deep in
    let text : ℕ → Result Text TextRefusal = λ last. Ok (certificate_text c) in
    checked_both 2 (nat_le (length c.lines) most_lines ∷ []) (lines ++ (count ++ nodes)) text
    ∙ (λ i. checked 2 (nat_le (length c.lines) most_lines ∷ []) >>= λ first. checked_both first lines (count ++ nodes) text i)
    ∙ (λ i. checked 2 (nat_le (length c.lines) most_lines ∷ []) >>= λ first. checked first lines >>= λ behind. checked_both behind count nodes text i)
