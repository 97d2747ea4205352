-- A certificate that has a text: it is within the limits, and can be read if it replays.
use Rattle.std.proofs.Common.{◌≡◌, refl, sym, ap, subst, ◌∙◌, arith, ℕ, ◌+◌, ◌-◌, ◌≤◌, Bool, true, false, ◌&&◌, nat_le, nat_lt, List, [], ◌∷◌, length, map, flat_map, sum, Result, Ok, Err}
use Rattle.std.specs.List.{AllByRecursion}
use Rattle.std.proofs.lemmas.Bool.{and_parts, leb-true}
use Rattle.values.proofs.Lists.{all_append}
use Rattle.derivation.specs.declared.line.Line.{Line}
use Rattle.physical.specs.declared.plan.Node.{Node}
use Rattle.physical.specs.declared.plan.Plan.{Plan, out-Plan, roll-Plan, out-roll-Plan, ind-Plan, map-Plan}
use Rattle.physical.specs.declared.plan.Plan.TheOpen.{Plan-F}
use Rattle.certificate.specs.NodeInputs.{NodeTakes, HaveInputs, nodes_of}
use Rattle.certificate.proofs.NodeInputs.{list_at}
use Rattle.values.specs.Faults.{◌>>=◌}
use Rattle.certificate.specs.declared.certificate.Certificate.{Certificate}
use Rattle.certificate_text.proofs.Exits.{not_both, same_ok}
use Rattle.certificate_text.proofs.FrontConditions.{all_split}
use Rattle.certificate_text.specs.declared.fault.TextRefusal.{TextRefusal}
use Rattle.certificate_text.specs.CertificateText.{Text, node_count, certificate_text}
use Rattle.certificate_text.specs.Limits.{most_lines, most_nodes, most_deep, line_is_within, node_is_within, nodes_within, lines_within, over_limit, checked, written}
use Rattle.certificate_text.specs.Readable.{CanBeRead, IsReadableLine, IsReadableNode, IsReadableCertificate, PartsCanBeRead}
use Rattle.certificate_text.proofs.LimitLists.{nodes_at}
use Rattle.certificate_text.proofs.PlanTexts.{count_at, one-more, some_each}

abbrev IsTrue : Bool → Type 0
IsTrue b = b ≡ true

checked_all : (n : ℕ) (bs : List Bool) (m : ℕ) → checked n bs ≡ Ok m → AllByRecursion IsTrue bs
checked_all n [] m e = tt
checked_all n (true ∷ bs) m e = (refl, checked_all (n + 1) bs m e)
checked_all n (false ∷ bs) m e = absurd (not_both (Err (over_limit n)) (over_limit n) m refl e)

abbrev IsWithin : Certificate → Text → Type 0
IsWithin c t = (length c.lines ≤ most_lines) × (node_count c.plan ≤ most_nodes) × AllByRecursion IsTrue (nodes_within c.plan most_deep) × (t ≡ certificate_text c) × AllByRecursion IsTrue (map line_is_within c.lines)

pub written_within : (c : Certificate) (t : Text) → written c ≡ Ok t → IsWithin c t
written_within c t e = by (checked 1 (lines_within c)) refl e where
  by : (r : Result ℕ TextRefusal) → checked 1 (lines_within c) ≡ r → (r >>= λ line. Ok (certificate_text c)) ≡ Ok t → IsWithin c t
  by (Err fault) is whole = absurd (not_both (Err fault) fault t refl whole)
  by (Ok m) is whole =
      let each = checked_all 1 (lines_within c) m is in
      let nodes = all_split IsTrue (map line_is_within c.lines) (nat_le (node_count c.plan) most_nodes ∷ nodes_within c.plan most_deep) each.1.1 in
      (leb-true (length c.lines) most_lines each.1.0, leb-true (node_count c.plan) most_nodes nodes.1.0, nodes.1.1, same_ok (Ok t) t (certificate_text c) refl (sym whole), nodes.0)

-- ---- nodes within the limits

-- a node is within them, and has so many inputs at most
abbrev IsSmall : ℕ → Node × ℕ → Type 0
IsSmall most n = (node_is_within n.0 ≡ true) × (n.1 ≤ most)

abbrev AreSmall : ℕ → Plan → Type 0
AreSmall most p = (room : ℕ) → node_count p ≤ most → AllByRecursion IsTrue (nodes_within p room) → AllByRecursion (IsSmall most) (nodes_of p)

module _ (most : ℕ) where
  abbrev Part : Type 0
  Part = (p : Plan) × AreSmall most p

  abbrev plans_of : List Part → List Plan
  plans_of parts = map (λ p. p.0) parts

  inputs_small : (parts : List Part) (room : ℕ) → sum (map node_count (plans_of parts)) ≤ most → AllByRecursion IsTrue (flat_map (λ q. nodes_within q room) (plans_of parts)) → AllByRecursion (IsSmall most) (flat_map nodes_of (plans_of parts))
  inputs_small [] room few within = tt
  inputs_small (p ∷ parts) room few within =
      let both = all_split IsTrue (nodes_within p.0 room) (flat_map (λ q. nodes_within q room) (plans_of parts)) within in
      let count = one-more p.0 (plans_of parts) in
      all_append (IsSmall most) (nodes_of p.0) (flat_map nodes_of (plans_of parts)) (p.1 room (omega (arith, few, count)) both.0) (inputs_small parts room (omega (arith, few, count)) both.1)

  small_at : (y : Plan-F Part) (p : Plan) → out-Plan p ≡ map-Plan Part Plan (λ p. p.0) y → AreSmall most p
  small_at y p is room few within =
      let inputs = plans_of y.inputs in
      let own = subst (AllByRecursion IsTrue) (nodes_at p room ∙ ap (λ (x : Plan-F Plan). (nat_lt 0 room && node_is_within x.node) ∷ flat_map (λ q. nodes_within q (room - 1)) x.inputs) is) within in
      let count : 1 + sum (map node_count inputs) ≡ node_count p = ap (λ (x : Plan-F Plan). 1 + sum (map node_count x.inputs)) (sym is) ∙ count_at p (out-Plan p).inputs refl in
      let root : IsSmall most (y.node, length inputs) = ((and_parts (nat_lt 0 room) (node_is_within y.node) own.0).1, omega (arith, few, count, some_each inputs)) in
      subst (AllByRecursion (IsSmall most)) (sym (list_at p ∙ ap (λ (x : Plan-F Plan). (x.node, length x.inputs) ∷ flat_map nodes_of x.inputs) is)) (root, inputs_small y.inputs (room - 1) (omega (arith, few, count)) own.1)

  all_small : (p : Plan) → AreSmall most p
  all_small = ind-Plan (AreSmall most) (λ x y is. subst (λ z. AreSmall most (roll-Plan z)) is (small_at y (roll-Plan (map-Plan Part Plan (λ p. p.0) y)) (out-roll-Plan (map-Plan Part Plan (λ p. p.0) y))))

-- ---- certificates that replay

each_line : (lines : List Line) → AllByRecursion IsTrue (map line_is_within lines) → AllByRecursion (λ l. line_is_within l ≡ true → IsReadableLine l) lines → AllByRecursion IsReadableLine lines
each_line [] within can = tt
each_line (l ∷ lines) within can = (can.0 within.0, each_line lines within.1 can.1)

each_node : (nodes : List (Node × ℕ)) → AllByRecursion (IsSmall most_nodes) nodes → AllByRecursion (λ n. NodeTakes n.0 n.1) nodes → AllByRecursion (λ n. CanBeRead n.0 n.1) nodes → AllByRecursion (λ n. IsReadableNode n.0 n.1) nodes
each_node [] small takes can = tt
each_node (n ∷ nodes) small takes can = let few : n.1 ≤ most_nodes = small.0.1 in (can.0 small.0.0 takes.0 (omega (arith, few)), each_node nodes small.1 takes.1 can.1)

pub certificate_readable : (c : Certificate) (t : Text) → written c ≡ Ok t → PartsCanBeRead c → HaveInputs c.plan → IsReadableCertificate c
certificate_readable c t is can takes =
    let within = written_within c t is in
    (each_line c.lines within.4 can.0, each_node (nodes_of c.plan) (all_small most_nodes c.plan most_deep within.1 within.2) takes can.1)
