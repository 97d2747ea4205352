use Rattle.std.proofs.Common.{◌≡◌, ◌+◌, ◌++◌, ◌∷◌, [], List, map, take, append-nil, ap, ◌∙◌, sym}
use Rattle.std.proofs.lemmas.List.{take_more, map-append}
use Rattle.algebra.specs.declared.condition.Condition.{Condition}
use Rattle.costs.specs.Equalities as spec
use Rattle.costs.proofs.ColumnLeaders.{counted-none, one-counted, none-counted}
use Rattle.costs.proofs.equalities.counted.Goals as goal
use Rattle.costs.proofs.equalities.counted.Goals.{then-not-imply+in_ok-add+in_ok-push, else-not-imply}

pub loop-condition-init : goal.loop-condition-init
loop-condition-init c =
    let P = c.args.equations.now in
    record {
      counted_are = ap (map (λ c. c.now)) c.new-counted.ensures.items ∙ sym (counted-none P);
      leaders_are = c.in_ok-leaders.ensures ∙ ap spec.leader_by (sym (ap (λ D. P ++ spec.equations D) (counted-none P) ∙ append-nil P));
    }

pub loop-condition-preserved : goal.loop-condition-preserved
loop-condition-preserved c =
    let P = c.args.equations.now in
    let C : List Condition = map (λ c. c.now) (take c.loop-condition.condition-index c.args.conditions.now) in
    let next : map (λ c. c.now) (take (c.loop-condition.condition-index + 1) c.args.conditions.now) ≡ C ++ c.condition-item.result.now ∷ [] =
    ap (map (λ c. c.now)) (take_more c.args.conditions.now c.loop-condition.condition-index c.condition-item.result c.loop-condition-test.true ∙ ap (λ x. take c.loop-condition.condition-index c.args.conditions.now ++ x ∷ []) (sym c.condition-item.is)) ∙ map-append (λ c. c.now) (take c.loop-condition.condition-index c.args.conditions.now) (c.condition-item.result ∷ []) in
    rw next (
    elim c.if-not-imply.branch [
      | then-not-imply+in_ok-add+in_ok-push w ↦
          let both = one-counted P C c.condition-item.result.now _ _ c.loop-condition.invariant.leaders_are c.equation_of-equation.ensures (sym c.imply.ensures ∙ w.if-not-imply.true) in
          record {
            counted_are = ap (λ v. map (λ c. c.now) v.items) w.counted-is ∙ ap (map (λ c. c.now)) w.in_ok-push.ensures.items
                ∙ map-append (λ c. c.now) c.loop-condition.counted.items (c.condition-item.result ∷ []) ∙ ap (λ D. D ++ c.condition-item.result.now ∷ []) c.loop-condition.invariant.counted_are ∙ sym both.0;
            leaders_are = ap (λ l. spec.leader_in l.entries.items) w.leaders-is ∙ w.in_ok-add.ensures ∙ both.1;
          }
      | else-not-imply w ↦
          let both = none-counted P C c.condition-item.result.now _ _ c.loop-condition.invariant.leaders_are c.equation_of-equation.ensures (sym c.imply.ensures ∙ w.if-not-imply.false) in
          record {
            counted_are = ap (λ v. map (λ c. c.now) v.items) w.counted-is ∙ c.loop-condition.invariant.counted_are ∙ sym both.0;
            leaders_are = ap (λ l. spec.leader_in l.entries.items) w.leaders-is ∙ both.1;
          }
    ])
