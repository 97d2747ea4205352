use Rattle.std.proofs.Common.{ap, sym, ◌∙◌, ℕ, [], ◌∷◌, ◌++◌, map}
use Rattle.std.specs.List.{range_with_len}
use Rattle.std.proofs.lemmas.List.{map-append}
use Rattle.values.specs.declared.value.Value.{Value}
use Rattle.operators.specs.declared.sorting.Keyed.{Keyed}
use Rattle.relations.specs.Relations.{env_of, numbered_env}
use Rattle.operators.specs.Sorting.{keyed_of}
use Rattle.relations.proofs.Numbers.{map_number}
use Rattle.operators.proofs.sorting.keyed_rows.Goals as goal

pub loop-number-preserved : goal.loop-number-preserved
loop-number-preserved c =
    let n = c.loop-number.number in
    let made : ℕ → Value × ℕ = λ m. (numbered_env c.args.input.now (env_of c.args.env.now) m c.args.column, m) in
    let item : Keyed = record { value = c.row_cell-value.result; number = n } in
    ap (map keyed_of) c.in_ok-push.ensures.items ∙ map-append keyed_of c.loop-number.keyed.items (item ∷ []) ∙ ap (λ l. l ++ keyed_of item ∷ []) c.loop-number.invariant
    ∙ ap (λ v. map made (range_with_len 0 n) ++ (v, n) ∷ []) c.row_cell-value.ensures ∙ sym (map_number made n)
