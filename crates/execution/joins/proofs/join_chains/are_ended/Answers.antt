use Rattle.std.proofs.Common.{◌≡◌, ap, sym, subst, ◌∙◌, ℕ, ◌+◌, ◌<◌, inl, inr, Some, [], rules, refl, length, slice_get, arith}
use Rattle.std.proofs.lemmas.Bool.{cases_eq}
use Rattle.std.proofs.lemmas.Option.{slice_get_read, slice_get_within}
use Rattle.joins.specs.declared.stages.JoinStage.{JoinStage}
use Rattle.joins.specs.JoinStages.{stage_to_come}
use Rattle.joins.proofs.JoinChains.{none-come-of-all}
use Rattle.joins.proofs.join_chains.are_ended.Goals as goal

pub loop-stage-preserved : goal.loop-stage-preserved
loop-stage-preserved c = λ i j low at.
    let n = c.loop-stage.stage-index in
    let stages = c.args.stages.now in
    let stage = c.stage-item.result in
    elim (cases_eq i n) [
      | inl same ↦
          let here : slice_get stages i ≡ Some stage = ap (slice_get stages) same ∙ slice_get_read stages (length stages) n stage refl c.loop-stage-test.true c.stage-item.is in
          let is : stage ≡ j = let e : Some stage ≡ Some j = sym here ∙ at in cc in
          subst (λ (s : JoinStage). stage_to_come s ≡ []) is (c.is_ended.ensures (search rules))
      | inr other ↦ c.loop-stage.invariant i j (omega (arith, low, other)) at
    ]

pub returns : goal.returns
returns c = λ n yes. none-come-of-all c.args.stages.now n (λ i j at. c.loop-stage.invariant i j (let within = slice_get_within c.args.stages.now i j at in omega (arith, within, c.loop-stage-test.false)) at)
