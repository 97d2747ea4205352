use Rattle.std.proofs.Common.{◌≡◌, ap, ◌∙◌, ◌++◌, length, set, take, []}
use Rattle.std.proofs.lemmas.List.{get_or_default, get_or-set_same, set-get_or, set-set}
use Rattle.algebra.specs.Columns.{columns_at}
use Rattle.logs.proofs.MovedSets.{cut-back}
use Rattle.logs.proofs.sets.join.Goals as goal

pub returns-in-Err-clause-same_members : goal.returns-in-Err-clause-same_members
returns-in-Err-clause-same_members c =
    let members = c.args.members.now.items in
    let into = c.args.into in
    let own : c.index_mut.result.now ≡ columns_at members into = c.index_mut.ensures.value ∙ get_or_default members into c.index_mut.result.now [] c.requires.members in
    let count = c.len-count.ensures ∙ ap length (c.index.ensures ∙ get_or_default members into c.index.result.now [] c.requires.members) in
    let joined = c.index_mut-in-Err.ensures.value ∙ get_or-set_same members into c.extend.new.self c.index_mut-in-Err.result.now c.requires.members ∙ c.in_ok-extend.ensures.more ∙ ap (λ xs. xs ++ c.args.classes.now) own in
    let cut : c.truncate.new.self ≡ columns_at members into =
    c.truncate.ensures ∙ ap (λ n. take n c.index_mut-in-Err.result.now) count ∙ ap (take (length (columns_at members into))) joined ∙ cut-back (columns_at members into) c.args.classes.now in
    set-set members into c.extend.new.self c.truncate.new.self ∙ ap (set members into) cut ∙ set-get_or members into []
