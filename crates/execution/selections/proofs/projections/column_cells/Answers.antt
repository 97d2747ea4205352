use Rattle.std.proofs.Common.{ap, sym, ◌∙◌, ℕ, [], ◌∷◌, ◌++◌, map, arith}
use Rattle.std.specs.List.{range_with_len}
use Rattle.std.proofs.lemmas.List.{map-append}
use mathlib.Core.List.{map-map}
use Rattle.values.specs.declared.value.Value.{Value}
use Rattle.values.specs.Cells.{value_of}
use Rattle.algebra.specs.Bags.{Env}
use Rattle.relations.specs.Relations.{env_of, numbered_env, numbers_of}
use Rattle.relations.proofs.Numbers.{map_number}
use Rattle.selections.proofs.projections.column_cells.Goals as goal

pub loop-number-preserved : goal.loop-number-preserved
loop-number-preserved c =
    let n = c.loop-number.number in
    let value : ℕ → Value = λ m. numbered_env c.args.input.now (env_of c.args.env.now) m c.args.column in
    ap (map value_of) c.in_ok-push.ensures.items ∙ map-append value_of c.loop-number.cells.items (c.row_cell.result ∷ []) ∙ ap (λ l. l ++ value_of c.row_cell.result ∷ []) c.loop-number.invariant
    ∙ ap (λ v. map value (range_with_len 0 n) ++ v ∷ []) c.row_cell.ensures ∙ sym (map_number value n)

pub returns : goal.returns
returns c =
    let value : ℕ → Value = λ m. numbered_env c.args.input.now (env_of c.args.env.now) m c.args.column in
    c.loop-number.invariant ∙ ap (λ n. map value (range_with_len 0 n)) (omega arith)
    ∙ sym (map-map (λ (f : Env). f c.args.column) (numbered_env c.args.input.now (env_of c.args.env.now)) (numbers_of c.args.input.now))
