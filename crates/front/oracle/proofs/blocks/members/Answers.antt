use Rattle.std.proofs.Common.{◌≡◌, ◌∙◌, ap, sym, refl, Bool, arith}
use Rattle.schema.specs.Databases.{Row, values_at}
use Rattle.query.specs.Rows.{same_rows}
use Rattle.oracle.specs.Given.{rows_at}
use Rattle.oracle.proofs.Lists.{kept-next, left-next}
use Rattle.oracle.proofs.blocks.members.Goals.{then-shared+in_ok-push, else-shared}
use Rattle.oracle.proofs.blocks.members.Goals as goal

pub loop-row-preserved : goal.loop-row-preserved
loop-row-preserved c =
    let shares : Row → Bool = λ r. same_rows c.args.key.now (values_at c.args.keys.now r) in
    let tested : c.in_ok-shared.shared ≡ shares c.row-item.result = c.in_ok-shared.ensures ∙ ap shares c.as_slice.ensures in
    elim c.if-shared.branch [
      | then-shared+in_ok-push w ↦
          ap (λ v. rows_at v.items) w.found-is
          ∙ ap rows_at w.in_ok-push.ensures.items
          ∙ kept-next shares c.args.source.now c.loop-row.row-index c.row-item.result c.loop-row.found.items _ (omega arith) c.row-item.is refl (sym tested ∙ w.if-shared.true) c.loop-row.invariant
      | else-shared w ↦
          ap (λ v. rows_at v.items) w.found-is
          ∙ left-next shares c.args.source.now c.loop-row.row-index c.row-item.result (rows_at c.loop-row.found.items) (omega arith) c.row-item.is (sym tested ∙ w.if-shared.false) c.loop-row.invariant
    ]
