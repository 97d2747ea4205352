use Rattle.std.proofs.Common.{refl, ap, ◌<◌, arith, sym, ◌∙◌, subst, ◌≡◌, ◌≤◌, length, map, reverse, take, option_map, IfOk}
use Rattle.std.proofs.lemmas.List.{length-reverse, length-take-le}
use Rattle.std.proofs.lemmas.Option.{slice_get_read, slice_get_within}
use Rattle.props.specs.Knowledge.{known}
use Rattle.costs.specs.Cardinalities as spec
use Rattle.costs.proofs.RowsWhere.{equations-at, equations-before, rows-at, rows-before, rows-past}
use Rattle.costs.proofs.cardinalities.+rows.Goals as goal

pub class_rows-returns-in-Some-founded : goal.class_rows-returns-in-Some-founded
class_rows-returns-in-Some-founded t c =
    let by = c.args.by in
    let K = known by.classes in
    let C = map (λ c. c.now) c.args.conditions.now in
    let line = c.in-Some.line.now in
    let root = c.root-root.result in
    let there = slice_get_read by.lines.now (length by.lines.now) root line refl c.in-Some.ensures.lookup.3.0 (c.in-Some.ensures.lookup.3.1 line) in
    subst (λ m. IfOk c.expr_rows.result (λ n. n ≡ m))
    (rows-before by c.before-in-Some-founded.result root c.in-Some-founded.expr.now C c.before-in-Some-founded.ensures
    ∙ sym (rows-at by.statistics.now by.instances.now K C by.lines.now root line there
    ∙ ap (λ o. spec.founded_rows by.statistics.now by.instances.now K (λ g. spec.own_equations K.root (reverse (take root by.lines.now)) (K.root g)) (λ g. spec.own_rows by.statistics.now by.instances.now K (reverse (take root by.lines.now)) (K.root g)) o C) (sym c.founded.ensures ∙ ap (option_map (λ x. x.now)) c.in-Some-founded.is))
    ∙ ap (λ k. spec.own_rows_by by k C) c.root-root.ensures)
    c.expr_rows.ensures

pub class_rows-returns-in-None : goal.class_rows-returns-in-None
class_rows-returns-in-None t c =
    let by = c.args.by in
    let K = known by.classes in
    let C = map (λ c. c.now) c.args.conditions.now in
    let line = c.in-Some.line.now in
    let root = c.root-root.result in
    let there = slice_get_read by.lines.now (length by.lines.now) root line refl c.in-Some.ensures.lookup.3.0 (c.in-Some.ensures.lookup.3.1 line) in
    sym (ap (λ k. spec.own_rows_by by k C) (sym c.root-root.ensures)
    ∙ rows-at by.statistics.now by.instances.now K C by.lines.now root line there
    ∙ ap (λ o. spec.founded_rows by.statistics.now by.instances.now K (λ g. spec.own_equations K.root (reverse (take root by.lines.now)) (K.root g)) (λ g. spec.own_rows by.statistics.now by.instances.now K (reverse (take root by.lines.now)) (K.root g)) o C) (sym c.founded.ensures ∙ ap (option_map (λ x. x.now)) c.in-None.is))

pub class_rows-returns-in_default : goal.class_rows-returns-in_default
class_rows-returns-in_default t c =
    let by = c.args.by in
    let C = map (λ c. c.now) c.args.conditions.now in
    sym (ap (λ k. spec.own_rows_by by k C) (sym c.root-root.ensures)
    ∙ rows-past by.statistics.now by.instances.now (known by.classes) C (reverse by.lines.now) c.root-root.result (subst (λ n. n ≤ c.root-root.result) (sym (length-reverse by.lines.now)) c.in_default.ensures.lookup.3))

pub class_rows-expr_rows-requires : goal.class_rows-expr_rows-requires
class_rows-expr_rows-requires t c =
    let by = c.args.by in
    let K = known by.classes in
    let line = c.in-Some.line.now in
    let root = c.root-root.result in
    let there = slice_get_read by.lines.now (length by.lines.now) root line refl c.in-Some.ensures.lookup.3.0 (c.in-Some.ensures.lookup.3.1 line) in
    let low : root < length by.lines.now = slice_get_within by.lines.now root line there in
    let size : length c.before-in-Some-founded.result.lines.now ≡ root = ap length c.before-in-Some-founded.ensures.lines_are ∙ length-take-le root by.lines.now (omega (arith, low)) in (
      omega (arith, low, size),
      (
        c.before-in-Some-founded.ensures.rows_are,
        c.own_equations-equations.ensures
            ∙ equations-at K.root by.lines.now root line there
            ∙ ap (spec.founded_equations (λ g. spec.own_equations K.root (reverse (take root by.lines.now)) (K.root g))) (sym c.founded.ensures ∙ ap (option_map (λ x. x.now)) c.in-Some-founded.is)
            ∙ ap (λ P. spec.expr_equations P c.in-Some-founded.expr.now) (sym (equations-before by c.before-in-Some-founded.result root c.before-in-Some-founded.ensures)),
      ),
    )
