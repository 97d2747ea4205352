use Rattle.std.proofs.Common.{refl, ap, ◌∙◌, List, filter, map}
use Rattle.algebra.specs.Conditions.{holds}
use Rattle.physical.specs.Outputs.{no_classes}
use Rattle.relations.specs.declared.resolved.Test.{Test}
use Rattle.relations.specs.Relations.{env_of, numbered_env, numbers_of}
use Rattle.relations.specs.Resolved.{all_pass, inner_row}
use Rattle.cursors.proofs.Selections.{narrowed}
use Rattle.cursors.proofs.selected.filtered.Goals as goal

pub returns : goal.returns
returns c =
    let r = c.args.selected.relation in
    let l = inner_row c.args.env.now in
    let row = numbered_env r (env_of c.args.env.now) in
    record {
      columns_are = refl;
      rows_are =
          ap (λ (tests : List Test). map row (filter (all_pass r l tests) (numbers_of r))) c.in_ok-append.ensures.items
          ∙ narrowed r l c.args.selected.tests.items c.in_ok-more.more.items (holds no_classes c.args.conditions.now) row (λ n. c.in_ok-more.ensures l n) (numbers_of r);
    }
