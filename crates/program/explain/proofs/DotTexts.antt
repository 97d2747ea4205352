-- What is drawn of a plan, by its root's node and its inputs.
use Rattle.std.proofs.Common.{◌≡◌, refl, ap, sym, ◌∙◌, append_assoc, ℕ, suc, ◌+◌, ◌<◌, ◌≤◌, List, ◌∷◌, ◌++◌, length, get_or, drop, drop-cons, add-one, map}
use Rattle.std.proofs.lemmas.List.{append-nil, drop_all}
use Rattle.physical.specs.declared.plan.Plan.{Plan, out-Plan, fold_out-Plan}
use Rattle.costs.specs.declared.nodes.Estimate.{Estimate}
use Rattle.explain.specs.Names.{Text, Naming}
use Rattle.explain.specs.PlanTexts.{estimate_at}
use Rattle.explain.specs.DotTexts.{Drawn, box_text, edge_text, behind, inputs_drawn, drawn_layer, drawn}

-- some inputs of a node with a number, from the next number on
abbrev pub inputs_left : Naming → List Estimate → ℕ → List Plan → ℕ → Drawn
inputs_left names estimates k inputs next = inputs_drawn k (map (drawn names estimates) inputs) next

pub drawn-root : (names : Naming) (estimates : List Estimate) (p : Plan) (k : ℕ) → drawn names estimates p k ≡ behind (box_text names k (out-Plan p).node (estimate_at estimates k)) (inputs_left names estimates k (out-Plan p).inputs (k + 1))
unfolding drawn
drawn-root names estimates p k = ap (λ (f : ℕ → Drawn). f k) (fold_out-Plan (ℕ → Drawn) (drawn_layer names estimates) p)

-- the first of the inputs that are left
left-first : (names : Naming) (estimates : List Estimate) (k : ℕ) (inputs : List Plan) (i : ℕ) (q : Plan) (next : ℕ) → i < length inputs → q ≡ get_or inputs i q
    → inputs_left names estimates k (drop i inputs) next ≡ behind (edge_text k next ++ (drawn names estimates q next).text) (inputs_left names estimates k (drop (i + 1) inputs) (drawn names estimates q next).next)
left-first names estimates k inputs i q next inside is =
    ap (λ xs. inputs_left names estimates k xs next) (drop-cons inputs i q inside)
    ∙ ap (λ x. inputs_left names estimates k (x ∷ drop (suc i) inputs) next) (sym is)
    ∙ ap (λ j. inputs_left names estimates k (q ∷ drop j inputs) next) (sym (add-one i))

-- ---- the first input

pub drawn-begins : (names : Naming) (estimates : List Estimate) (p : Plan) (k next : ℕ) (inputs : List Plan) (e : Estimate) (old text : Text) → inputs ≡ (out-Plan p).inputs → next ≡ k + 1 → e ≡ estimate_at estimates k → text ≡ old ++ box_text names k (out-Plan p).node e
    → text ++ (inputs_left names estimates k inputs next).text ≡ old ++ (drawn names estimates p k).text
drawn-begins names estimates p k next inputs e old text given nexts reckoned is =
    rw (is, reckoned, given, nexts, drawn-root names estimates p k) (append_assoc old (box_text names k (out-Plan p).node (estimate_at estimates k)) (inputs_left names estimates k (out-Plan p).inputs (k + 1)).text)

pub next-begins : (names : Naming) (estimates : List Estimate) (p : Plan) (k next : ℕ) (inputs : List Plan) → inputs ≡ (out-Plan p).inputs → next ≡ k + 1 → (inputs_left names estimates k inputs next).next ≡ (drawn names estimates p k).next
next-begins names estimates p k next inputs given nexts = rw (given, nexts, drawn-root names estimates p k) refl

-- ---- one input more

pub drawn-more : (names : Naming) (estimates : List Estimate) (k : ℕ) (inputs : List Plan) (i : ℕ) (q : Plan) (next after : ℕ) (before edged text whole : Text) → i < length inputs → q ≡ get_or inputs i q
    → before ++ (inputs_left names estimates k (drop i inputs) next).text ≡ whole → edged ≡ before ++ edge_text k next → text ≡ edged ++ (drawn names estimates q next).text → after ≡ (drawn names estimates q next).next
    → text ++ (inputs_left names estimates k (drop (i + 1) inputs) after).text ≡ whole
drawn-more names estimates k inputs i q next after before edged text whole inside is all edges texts afters =
    let rest : Text = (inputs_left names estimates k (drop (i + 1) inputs) (drawn names estimates q next).next).text in
    let regroup : text ++ rest ≡ before ++ ((edge_text k next ++ (drawn names estimates q next).text) ++ rest) = rw (texts, edges) (simp append_assoc) in
    ap (λ m. text ++ (inputs_left names estimates k (drop (i + 1) inputs) m).text) afters
    ∙ regroup
    ∙ ap (λ (d : Drawn). before ++ d.text) (sym (left-first names estimates k inputs i q next inside is))
    ∙ all

pub next-more : (names : Naming) (estimates : List Estimate) (k : ℕ) (inputs : List Plan) (i : ℕ) (q : Plan) (next after last : ℕ) → i < length inputs → q ≡ get_or inputs i q
    → (inputs_left names estimates k (drop i inputs) next).next ≡ last → after ≡ (drawn names estimates q next).next → (inputs_left names estimates k (drop (i + 1) inputs) after).next ≡ last
next-more names estimates k inputs i q next after last inside is all afters =
    ap (λ m. (inputs_left names estimates k (drop (i + 1) inputs) m).next) afters
    ∙ ap (λ (d : Drawn). d.next) (sym (left-first names estimates k inputs i q next inside is))
    ∙ all

-- ---- no input more

pub drawn-ends : (names : Naming) (estimates : List Estimate) (k : ℕ) (inputs : List Plan) (i next : ℕ) (text whole : Text) → length inputs ≤ i → text ++ (inputs_left names estimates k (drop i inputs) next).text ≡ whole → text ≡ whole
drawn-ends names estimates k inputs i next text whole end all =
    sym (append-nil text) ∙ ap (λ xs. text ++ (inputs_left names estimates k xs next).text) (sym (drop_all i inputs end)) ∙ all

pub next-ends : (names : Naming) (estimates : List Estimate) (k : ℕ) (inputs : List Plan) (i next last : ℕ) → length inputs ≤ i → (inputs_left names estimates k (drop i inputs) next).next ≡ last → next ≡ last
next-ends names estimates k inputs i next last end all = ap (λ xs. (inputs_left names estimates k xs next).next) (sym (drop_all i inputs end)) ∙ all
