use Rattle.std.proofs.Common.{[], refl, sym, ◌∙◌, subst, ◌≤◌}
use Rattle.std.proofs.lemmas.List.{length-take-le}
use Rattle.props.specs.Knowledge.{known}
use Rattle.costs.proofs.RowsWhere.{equations-first, rows-first}
use Rattle.costs.proofs.cardinalities.Estimator.before.Goals as goal

pub returns : goal.returns
returns c =
    let by = c.args.self in
    record {
      statistics_are = refl;
      instances_are = refl;
      classes_are = refl;
      lines_are = refl;
      rows_are = record {
        length_ = length-take-le c.args.line by.rows.now (subst (λ n. c.args.line ≤ n) (sym c.requires.rows.length_) c.requires.within) ∙ sym (length-take-le c.args.line by.lines.now c.requires.within);
        each = rows-first by.statistics.now by.instances.now (known by.classes) [] by.rows.now by.lines.now c.args.line c.requires.rows.length_ c.requires.within c.requires.rows.each;
        as_many = length-take-le c.args.line by.equations.now (subst (λ n. c.args.line ≤ n) (sym c.requires.rows.as_many) c.requires.within) ∙ sym (length-take-le c.args.line by.lines.now c.requires.within);
        equal = equations-first (known by.classes).root by.equations.now by.lines.now c.args.line c.requires.rows.as_many c.requires.within c.requires.rows.equal;
      };
    }
