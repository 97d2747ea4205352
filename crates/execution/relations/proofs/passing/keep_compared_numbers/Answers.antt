use Rattle.std.proofs.Common.{◌≡◌, ap, sym, ◌∙◌, ◌<◌, ◌+◌, ℕ, Bool, get_or, length, set, take, of_z, to_z, w64, arith}
use Rattle.std.specs.Int.{from_bool}
use Rattle.std.proofs.lemmas.List.{length-set}
use Rattle.values.specs.Truth.{compare, is_true}
use Rattle.values.specs.declared.value.Value.TheVariants as value
use Rattle.relations.specs.RowColumns.{int_or_null, number_value}
use Rattle.relations.proofs.Narrowed.{few-written, place-written, rest-kept}
use Rattle.relations.proofs.passing.keep_compared_numbers.Goals as goal

pub loop-place-preserved : goal.loop-place-preserved
loop-place-preserved c =
    -- as the loop holds it
    let known = to_z w64 (of_z w64 c.args.known) in
    let p : ℕ → Bool = λ n. is_true (compare c.args.comparison (value.Int known) (number_value c.args.column n)) in
    let old = c.args.rows.now.items in
    let rows = c.loop-place.rows.items in
    let kept = c.loop-place.kept in
    let place = c.loop-place.place in
    let inv = c.loop-place.invariant in
    let row = c.index-row.result.now in
    let below : place < length rows = omega (arith, inv.long) in
    let is : row ≡ get_or rows place row = c.index-row.ensures in
    let b = c.admits_number.result in
    let passes : p (get_or rows place row) ≡ b =
    ap p (sym is) ∙ ap (λ v. is_true (compare c.args.comparison (value.Int known) v)) (sym c.number.ensures)
    ∙ ap (λ op. is_true (compare op (value.Int known) (int_or_null c.number.result))) (sym c.by-admitted.ensures) ∙ sym c.admits_number.ensures in
    record {
      kept = ap (λ n. take (kept + n) (set rows kept row)) c.from-kept.ensures ∙ ap (λ x. take (kept + from_bool b) (set rows kept x)) is ∙ place-written p old rows kept place row inv.kept inv.rest inv.few below inv.long b passes;
      rest = rest-kept p old rows kept place row inv.kept inv.rest inv.few below inv.long row;
      few = omega (arith, c.from-kept.ensures, few-written p old rows kept place row inv.kept inv.rest inv.few below inv.long b);
      long = length-set rows kept row ∙ inv.long;
    }
