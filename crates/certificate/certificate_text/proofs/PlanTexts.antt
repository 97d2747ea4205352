-- The text and the size of a plan, by its root's node.
use Rattle.std.proofs.Common.{◌≡◌, refl, ap, sym, ◌∙◌, arith, ℕ, ◌+◌, ◌≤◌, List, [], ◌∷◌, ◌++◌, flat_map, length, map, sum}
use Rattle.std.proofs.lemmas.List.{length-map}
use Rattle.std.proofs.lemmas.List.Folds.{flat_map-map}
use Rattle.std.proofs.lemmas.List.Sums.{sum_by-cons}
use Rattle.std.specs.List.{AllByRecursion}
use Rattle.values.proofs.Lists.{all_append}
use Rattle.algebra.proofs.Lists.{two}
use Rattle.physical.specs.declared.plan.Plan.{Plan, out-Plan, fold_out-Plan}
use Rattle.certificate_text.specs.CertificateText.{Text, node_text, plan_layer, plan_text, count_layer, node_count}

pub text_at : (p : Plan) (inputs : List Plan) → inputs ≡ (out-Plan p).inputs → node_text (out-Plan p).node (length inputs) ++ flat_map plan_text inputs ≡ plan_text p
unfolding plan_text
text_at p inputs given =
    let own = out-Plan p in
    ap (λ xs. node_text own.node (length xs) ++ flat_map plan_text xs) given
    ∙ two (λ n rest. node_text own.node n ++ rest) (sym (length-map own.inputs plan_text)) (sym (flat_map-map (λ t. t) plan_text own.inputs))
    ∙ sym (fold_out-Plan Text plan_layer p)

pub count_at : (p : Plan) (inputs : List Plan) → inputs ≡ (out-Plan p).inputs → 1 + sum (map node_count inputs) ≡ node_count p
unfolding node_count
count_at p inputs given = ap (λ xs. 1 + sum (map node_count xs)) given ∙ sym (fold_out-Plan ℕ count_layer p)

-- what is so of each node of the inputs
pub all_inputs : {X Y : Type 0} (P : Y → Type 0) (f : X → List Y) (xs : List X) → AllByRecursion (λ x. AllByRecursion P (f x)) xs → AllByRecursion P (flat_map f xs)
all_inputs P f [] all = tt
all_inputs P f (x ∷ xs) all = all_append P (f x) (flat_map f xs) all.0 (all_inputs P f xs all.1)

-- ---- how many nodes

pub some_nodes : (p : Plan) → 1 ≤ node_count p
some_nodes p = let count = count_at p (out-Plan p).inputs refl in omega (arith, count)

pub one-more : (p : Plan) (ps : List Plan) → sum (map node_count (p ∷ ps)) ≡ node_count p + sum (map node_count ps)
one-more p ps = sum_by-cons (λ n. n) (node_count p) (map node_count ps)

pub no-more : sum (map node_count []) ≡ 0
no-more = refl

pub some_each : (ps : List Plan) → length ps ≤ sum (map node_count ps)
some_each [] = omega arith
some_each (p ∷ ps) = omega (arith, one-more p ps, some_nodes p, some_each ps)
