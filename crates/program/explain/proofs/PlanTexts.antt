-- The text of a plan, by its root's node and the nodes below it.
use Rattle.std.proofs.Common.{◌≡◌, refl, ap, sym, ◌∙◌, append_assoc, add-zero, add-one, arith, ℕ, zero, suc, ◌+◌, List, [], ◌∷◌, ◌++◌, codes, flat_map, length, Option, get_or, take, ◌<◌, ◌≤◌}
use Rattle.std.proofs.lemmas.List.{append-nil, length-append, take_all}
use Rattle.std.proofs.lemmas.List.Folds.{flat_map-map}
use Rattle.values.proofs.Lists.{flat_map_next}
use Rattle.physical.specs.declared.plan.Plan.{Plan, out-Plan, fold_out-Plan}
use Rattle.costs.specs.declared.nodes.Estimate.{Estimate}
use Rattle.measures.specs.declared.measured.Measure.{Measure}
use Rattle.explain.specs.declared.plan_text.NodeForm.{NodeForm}
use Rattle.explain.specs.Names.{Text, Naming}
use Rattle.explain.specs.PlanTexts.{PlacedNode, nodes_layer, nodes_from, indentation, form_text, nodes_text, estimate_at, measure_at}

-- the nodes of some plans whose roots stand so deep
abbrev pub nodes_below : List Plan → ℕ → List PlacedNode
nodes_below inputs depth = flat_map (λ q. nodes_from q depth) inputs

pub nodes-root : (p : Plan) (depth : ℕ) → nodes_from p depth ≡ record { depth = depth; node = (out-Plan p).node } ∷ nodes_below (out-Plan p).inputs (depth + 1)
unfolding nodes_from
nodes-root p depth =
    let own = out-Plan p in
    ap (λ (f : ℕ → List PlacedNode). f depth) (fold_out-Plan (ℕ → List PlacedNode) nodes_layer p)
    ∙ ap (λ nodes. record { depth = depth; node = own.node } ∷ nodes) (flat_map-map (λ (f : ℕ → List PlacedNode). f (depth + 1)) nodes_from own.inputs)

indentation-suc : (depth : ℕ) → indentation depth ++ codes "  " ≡ indentation (suc depth)
unfolding indentation
indentation-suc zero = refl
indentation-suc (suc depth) = ap (λ text. codes "  " ++ text) (indentation-suc depth)

pub indentation-none : (old : Text) → old ≡ old ++ indentation 0
unfolding indentation
indentation-none old = sym (append-nil old)

-- one level more
pub indentation-more : (depth : ℕ) (old x y : Text) → x ≡ old ++ indentation depth → y ≡ x ++ codes "  " → y ≡ old ++ indentation (depth + 1)
indentation-more depth old x y xs ys = rw (ys, xs, add-one, ← indentation-suc depth) (append_assoc old (indentation depth) (codes "  "))

-- lines behind lines
pub lines-append : (form : NodeForm) (names : Naming) (estimates : List Estimate) (measures : List (Option Measure)) (k : ℕ) (nodes more : List PlacedNode)
    → nodes_text form names estimates measures k (nodes ++ more) ≡ nodes_text form names estimates measures k nodes ++ nodes_text form names estimates measures (k + length nodes) more
lines-append form names estimates measures k [] more = ap (λ n. nodes_text form names estimates measures n more) (sym (add-zero k))
lines-append form names estimates measures k (n ∷ nodes) more =
    let first = form_text form names k n (estimate_at estimates k) (measure_at measures k) in
    let place : (k + 1) + length nodes ≡ k + suc (length nodes) = omega arith in
    ap (λ text. first ++ text) (lines-append form names estimates measures (k + 1) nodes more ∙ ap (λ m. nodes_text form names estimates measures (k + 1) nodes ++ nodes_text form names estimates measures m more) place)
    ∙ sym (append_assoc first (nodes_text form names estimates measures (k + 1) nodes) (nodes_text form names estimates measures (k + suc (length nodes)) more))

-- the nodes of one input more
below-more : (inputs : List Plan) (i : ℕ) (q : Plan) (depth : ℕ) → i < length inputs → q ≡ get_or inputs i q → nodes_below (take (i + 1) inputs) depth ≡ nodes_below (take i inputs) depth ++ nodes_from q depth
below-more inputs i q depth inside is = flat_map_next (λ p. nodes_from p depth) inputs i q inside is

-- their lines behind the first line and those of the inputs before
pub lines-more : (form : NodeForm) (names : Naming) (estimates : List Estimate) (measures : List (Option Measure)) (k : ℕ) (inputs : List Plan) (i : ℕ) (q : Plan) (depth next : ℕ) (old first before after : Text) → i < length inputs → q ≡ get_or inputs i q
    → before ≡ old ++ (first ++ nodes_text form names estimates measures k (nodes_below (take i inputs) depth)) → next ≡ k + length (nodes_below (take i inputs) depth) → after ≡ before ++ nodes_text form names estimates measures next (nodes_from q depth)
    → after ≡ old ++ (first ++ nodes_text form names estimates measures k (nodes_below (take (i + 1) inputs) depth))
lines-more form names estimates measures k inputs i q depth next old first before after inside is befores nexts afters =
    rw (afters, befores, nexts, below-more inputs i q depth inside is, lines-append form names estimates measures k (nodes_below (take i inputs) depth) (nodes_from q depth)) (simp append_assoc)

-- the number behind theirs
pub next-more : (k : ℕ) (inputs : List Plan) (i : ℕ) (q : Plan) (depth next after : ℕ) → i < length inputs → q ≡ get_or inputs i q → next ≡ k + length (nodes_below (take i inputs) depth) → after ≡ next + length (nodes_from q depth)
    → after ≡ k + length (nodes_below (take (i + 1) inputs) depth)
next-more k inputs i q depth next after inside is nexts afters =
    let more : length (nodes_below (take (i + 1) inputs) depth) ≡ length (nodes_below (take i inputs) depth) + length (nodes_from q depth) =
    ap length (below-more inputs i q depth inside is) ∙ length-append (nodes_below (take i inputs) depth) (nodes_from q depth) in
    omega arith

-- the nodes of all inputs
pub all-below : (p : Plan) (inputs : List Plan) (i depth deeper : ℕ) → inputs ≡ (out-Plan p).inputs → length inputs ≤ i → deeper ≡ depth + 1
    → record { depth = depth; node = (out-Plan p).node } ∷ nodes_below (take i inputs) deeper ≡ nodes_from p depth
all-below p inputs i depth deeper given end deep =
    let root : PlacedNode = record { depth = depth; node = (out-Plan p).node } in
    ap (λ xs. root ∷ nodes_below xs deeper) (take_all i inputs end ∙ given) ∙ ap (λ d. root ∷ nodes_below (out-Plan p).inputs d) deep ∙ sym (nodes-root p depth)

-- the lines of a plan
pub all-lines : (form : NodeForm) (names : Naming) (estimates : List Estimate) (measures : List (Option Measure)) (k : ℕ) (root : PlacedNode) (below nodes : List PlacedNode) (old text : Text) → text ≡ old ++ (form_text form names k root (estimate_at estimates k) (measure_at measures k) ++ nodes_text form names estimates measures (k + 1) below)
    → root ∷ below ≡ nodes → text ≡ old ++ nodes_text form names estimates measures k nodes
all-lines form names estimates measures k root below nodes old text is all = is ∙ ap (λ ns. old ++ nodes_text form names estimates measures k ns) all
