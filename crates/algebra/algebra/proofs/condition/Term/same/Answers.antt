use Rattle.std.proofs.Common.{◌≡◌, refl, ap, sym, ◌∙◌}
use Rattle.values.specs.Order.{same}
use Rattle.values.proofs.Orders.{same_equal, same_itself}
use Rattle.algebra.specs.declared.condition.Term.TheVariants.{Literal}
use Rattle.algebra.proofs.condition.Term.same.Goals as goal

pub returns-in-Literal-Literal : goal.returns-in-Literal-Literal
returns-in-Literal-Literal c =
    let v = c.in-Literal-Literal.v in
    let w = c.in-Literal-Literal.w in
    let is : c.same.result ≡ same v w = c.same.ensures ∙ rw (c.as_cell.ensures, c.as_cell-in-Literal-Literal.ensures) refl in (
      λ yes. c.in-Literal-Literal.is-0 ∙ ap Literal (same_equal v w (sym is ∙ yes)) ∙ sym c.in-Literal-Literal.is-1,
      λ e. let equal : v ≡ w = cc in is ∙ ap (same v) (sym equal) ∙ same_itself v,
    )
