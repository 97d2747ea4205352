use Rattle.std.proofs.Common.{◌≡◌, ap, sym, subst, ◌∙◌, ℕ, List, [], ◌∷◌, ◌++◌, map, append-nil, append_assoc, arith}
use Rattle.std.specs.List.{range_with_len}
use Rattle.std.proofs.lemmas.List.{length-append, length-map, map-append}
use Rattle.std.proofs.lemmas.List.FromFn.{length-map-range_with_len}
use mathlib.Core.List.{map-map}
use Rattle.values.specs.declared.value.Value.{Value}
use Rattle.values.specs.Cells.{value_of}
use Rattle.query.specs.Aggregates.{MayRead, column_of}
use Rattle.query.specs.Running.{IsAfter}
use Rattle.query.proofs.RunningAggregates.{read-column}
use Rattle.algebra.specs.Bags.{Env}
use Rattle.relations.specs.Relations.{env_of, numbered_env, numbers_of, rows_of}
use Rattle.relations.proofs.Numbers.{map_number}
use Rattle.grouping.proofs.Readable.{number-reads}
use Rattle.grouping.proofs.totals.with_values.Goals as goal

pub returns : goal.returns
returns g c =
    let a = c.args.of in
    let e = env_of c.args.env.now in
    let row : ℕ → Env = numbered_env c.args.chunk.now e in
    let read : Env → Value = λ r. r (column_of a) in
    let seen : List Value = map read g.seen in
    subst (λ vs. IsAfter a vs c.loop-number.running)
    (ap (λ n. seen ++ map (λ m. row m (column_of a)) (range_with_len 0 n)) (omega arith)
    ∙ ap (λ vs. seen ++ vs) (sym (map-map read row (numbers_of c.args.chunk.now)))
    ∙ sym (map-append read g.seen (rows_of c.args.chunk.now e)))
    c.loop-number.invariant

pub loop-number-init : goal.loop-number-init
loop-number-init g c = subst (λ vs. IsAfter c.args.of vs c.args.so_far) (sym (append-nil _)) c.requires.1.1

pub loop-number-preserved : goal.loop-number-preserved
loop-number-preserved g c =
    let a = c.args.of in
    let row : ℕ → Env = numbered_env c.args.chunk.now (env_of c.args.env.now) in
    let n = c.loop-number.number in
    let value : ℕ → Value = λ m. row m (column_of a) in
    let seen : List Value = map (λ r. r (column_of a)) g.seen in
    let is : value_of c.cell.result ≡ value n = c.cell.ensures ∙ c.row_column-column.ensures n ∙ ap (row n) c.column_of.ensures in
    subst (λ vs. IsAfter a vs c.add.new.self)
    (append_assoc seen (map value (range_with_len 0 n)) (value_of c.cell.result ∷ [])
    ∙ ap (λ vs. seen ++ vs) (ap (λ v. map value (range_with_len 0 n) ++ v ∷ []) is ∙ sym (map_number value n)))
    (c.add.ensures a (seen ++ map value (range_with_len 0 n)) c.loop-number.invariant)

pub add-requires-clause-few : goal.add-requires-clause-few
add-requires-clause-few g c =
    let a = c.args.of in
    let row : ℕ → Env = numbered_env c.args.chunk.now (env_of c.args.env.now) in
    let value : ℕ → Value = λ m. row m (column_of a) in
    let seen : List Value = map (λ r. r (column_of a)) g.seen in
    omega (arith, c.requires.0 (omega arith), c.loop-number.invariant.rows, length-append seen (map value (range_with_len 0 c.loop-number.number)), length-map g.seen (λ r. r (column_of a)), length-map-range_with_len value 0 c.loop-number.number)

pub add-requires-clause-read : goal.add-requires-clause-read
add-requires-clause-read g c =
    let row : ℕ → Env = numbered_env c.args.chunk.now (env_of c.args.env.now) in
    let n = c.loop-number.number in
    let is = c.cell.ensures ∙ c.row_column-column.ensures n ∙ ap (row n) c.column_of.ensures in
    subst (λ a. MayRead a (λ place. value_of c.cell.result)) (sym c.loop-number.invariant.of)
    (read-column c.args.of (row n) _ (number-reads c.args.of row c.args.chunk.now.rows.count n (omega arith) c.requires.1.0) is)
