use Rattle.std.proofs.Common.{ap, sym, ◌∙◌, ℕ, List, [], ◌∷◌, ◌++◌, get_or, map, take, arith}
use Rattle.std.proofs.lemmas.List.{get_or_default}
use Rattle.values.proofs.Lists.{map_next}
use Rattle.schema.specs.Databases.{Row}
use Rattle.algebra.specs.Bags.{Env}
use Rattle.relations.specs.Relations.{env_of, rows_of}
use Rattle.relations.proofs.RelationRows.{cell-column}
use Rattle.selections.proofs.projections.copies.Goals as goal

pub loop-column-preserved : goal.loop-column-preserved
loop-column-preserved c =
    let i = c.loop-column.column-index in
    let columns = c.args.columns.now in
    let fs : List Env = rows_of c.args.input.now (env_of c.args.env.now) in
    let part : ℕ → List Row = λ k. map (λ f. f k ∷ []) fs in
    c.in_ok-push.ensures.items ∙ ap (λ (l : List (List Row)). l ++ c.made.result ∷ []) c.loop-column.invariant
    ∙ ap (λ (p : List Row). map part (take i columns) ++ p ∷ []) (c.made.ensures ∙ cell-column c.in_ok-cells.cells.items fs (get_or columns i 0) c.in_ok-cells.ensures)
    ∙ sym (map_next part columns i (get_or columns i 0) (omega arith) (get_or_default columns i 0 _ (omega arith)))
