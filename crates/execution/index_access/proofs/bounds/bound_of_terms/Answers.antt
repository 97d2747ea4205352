use Rattle.std.proofs.Common.{ap, sym, ◌∙◌}
use Rattle.values.specs.Truth.{compare, is_true}
use Rattle.algebra.specs.Conditions.{term_value}
use Rattle.relations.proofs.Comparisons.{compare_turned}
use Rattle.index_access.specs.Cuts.{key_value}
use Rattle.index_access.proofs.bounds.bound_of_terms.Goals as goal

pub returns-in-Some-fixed_cell : goal.returns-in-Some-fixed_cell
returns-in-Some-fixed_cell c = λ f within h.
    let d = c.args.comparison in
    let v = key_value c.in-Some-fixed_cell.cell in
    let left = c.in-Some-fixed_cell.ensures f within in
    let right = c.is_column-else-is_column.ensures f c.if-is_column-2.true in
    ap (λ t. is_true (compare t (f c.args.column) v)) c.turned.ensures ∙ ap is_true (compare_turned d v (f c.args.column))
    ∙ ap (λ w. is_true (compare d w (f c.args.column))) (sym left) ∙ ap (λ w. is_true (compare d (term_value c.args.a.now f) w)) (sym right) ∙ h
