use Rattle.std.proofs.Common.{◌≡◌, ◌≤◌, ◌++◌, ◌∷◌, [], List, ℕ, length, set, map, drop, ap, sym, subst, ◌<◌, ◌∙◌, append-nil, arith}
use Rattle.std.proofs.lemmas.List.{get_or_default, with_items_is, take_all, drop_all}
use Rattle.std.proofs.lemmas.List.Edits.{map_over_more}
use Rattle.costs.specs.Equalities as spec
use Rattle.costs.proofs.ColumnLeaders.{leaders-joined}
use Rattle.costs.proofs.equalities.Leaders.join.Goals as goal

pub loop-entry-preserved : goal.loop-entry-preserved
loop-entry-preserved c =
    ap (λ y. set c.loop-entry.entry-items c.loop-entry.entry-index y) c.handed.ensures
    ∙ map_over_more (spec.handed c.leader-other.result c.leader-leader.result) c.as_mut_slice-entries.result.now c.loop-entry.entry-items c.loop-entry.entry-index _ c.loop-entry-test.true c.loop-entry.invariant (get_or_default c.loop-entry.entry-items c.loop-entry.entry-index (0, 0) _ (subst (λ n. c.loop-entry.entry-index < n) (sym c.loop-entry.auto.entry-items) c.loop-entry-test.true))

pub returns : goal.returns
returns c =
    let old : List (ℕ × ℕ) = c.args.self.now.entries.items in
    let f : ℕ × ℕ → ℕ × ℕ = spec.handed c.leader-other.result c.leader-leader.result in
    let all : length c.as_mut_slice-entries.result.now ≤ c.loop-entry.entry-index = omega (arith, c.loop-entry-test.false) in
    let mapped : c.loop-entry.entry-items ≡ map f old =
    c.loop-entry.invariant ∙ ap (λ xs. map f xs ++ drop c.loop-entry.entry-index c.as_mut_slice-entries.result.now) (take_all c.loop-entry.entry-index c.as_mut_slice-entries.result.now all)
    ∙ ap (λ xs. map f c.as_mut_slice-entries.result.now ++ xs) (drop_all c.loop-entry.entry-index c.as_mut_slice-entries.result.now all) ∙ append-nil (map f c.as_mut_slice-entries.result.now) ∙ ap (map f) c.as_mut_slice-entries.ensures.value in
    let kept = with_items_is c.args.self.now.entries c.loop-entry.entry-items (c.loop-entry.auto.entry-items ∙ c.as_mut_slice-entries.ensures.len) in
    leaders-joined old c.push.new.self.items c.args.equation (c.in_ok-push.ensures.items ∙ ap (λ xs. xs ++ (c.leader-other.result, c.leader-leader.result) ∷ []) (kept ∙ mapped)
    ∙ ap (λ (other : ℕ). map (spec.handed other c.leader-leader.result) old ++ (other, c.leader-leader.result) ∷ []) c.leader-other.ensures
    ∙ ap (λ (leader : ℕ). map (spec.handed (spec.leader_in old c.args.equation.1) leader) old ++ (spec.leader_in old c.args.equation.1, leader) ∷ []) c.leader-leader.ensures)
