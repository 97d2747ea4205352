use Rattle.std.proofs.Common.{◌≡◌, ◌∙◌, ℕ, Bool, List, IfOk, subst}
use Rattle.algebra.specs.Bags.{Env}
use Rattle.algebra.specs.Conditions.{holds}
use Rattle.physical.specs.Outputs.{no_classes}
use Rattle.relations.specs.Relations.{env_of, numbered_env}
use Rattle.index_access.specs.Cuts.{columns_order}
use Rattle.index_access.proofs.CutOrders.{columns_total}
use Rattle.index_access.proofs.Sorting.{by_index}
use Rattle.index_access.proofs.lookup.index_numbers.Goals as goal

pub returns : goal.returns
returns c =
    let row : ℕ → Env = numbered_env c.args.relation.now (env_of c.args.env.now) in
    let columns = c.args.columns.now in
    let p : ℕ → Bool = λ n. holds no_classes c.args.conditions.now (row n) in
    subst (λ (l : List ℕ). IfOk c.passing.result (λ kept. kept.items ≡ l))
    (c.in_ok-found.ensures ∙ by_index (columns_order row columns) (columns_total row columns) p c.args.relation.now.rows.count c.args.numbers.now c.requires.each c.requires.sorted) c.passing.ensures
