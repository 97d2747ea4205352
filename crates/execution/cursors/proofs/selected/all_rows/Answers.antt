use Rattle.std.proofs.Common.{refl, ap, ◌∙◌, List, filter, map}
use Rattle.relations.specs.declared.resolved.Test.{Test}
use Rattle.relations.specs.Relations.{env_of, numbered_env, numbers_of}
use Rattle.relations.specs.Resolved.{all_pass, inner_row}
use Rattle.relations.proofs.Narrowed.{filter_none}
use Rattle.cursors.proofs.selected.all_rows.Goals as goal

pub returns : goal.returns
returns c = λ e.
    let r = c.args.relation in
    record {
      columns_are = refl;
      rows_are = ap (map (numbered_env r (env_of e))) (ap (λ (tests : List Test). filter (all_pass r (inner_row e) tests) (numbers_of r)) c.new.ensures.items ∙ filter_none (numbers_of r));
    }
