use Rattle.std.proofs.Common.{◌≡◌, ◌<◌, ap, sym, ◌∙◌, ◌+◌, ℕ, Bool, true, false, Global, Vec, drop, get_or, length, set, take, arith}
use Rattle.std.proofs.lemmas.List.{length-set}
use Rattle.values.specs.Truth.{is_true}
use Rattle.relations.specs.Parts.{row_at}
use Rattle.relations.specs.Resolved.{inner_row, test_truth}
use Rattle.relations.proofs.Narrowed.{place-kept, place-left, rest-kept, rest-left}
use Rattle.relations.proofs.passing.keep_asked.Goals.{then-is_true_at, else-is_true_at}
use Rattle.relations.proofs.passing.keep_asked.Goals as goal

pub loop-place-preserved : goal.loop-place-preserved
loop-place-preserved c =
    let p : ℕ → Bool = λ n. is_true (test_truth c.args.test.now (inner_row c.args.beside.now) (row_at c.args.right.now.rows.parts.items n)) in
    let old = c.args.rows.now.items in
    let rows = c.loop-place.rows.items in
    let kept = c.loop-place.kept in
    let place = c.loop-place.place in
    let inv = c.loop-place.invariant in
    let row = c.index-row.result.now in
    let below : place < length rows = omega (arith, inv.long) in
    let is : row ≡ get_or rows place row = c.index-row.ensures in
    elim c.if-is_true_at.branch [
      | then-is_true_at w ↦
          let set-is : c.if-is_true_at.rows.items ≡ set rows kept (get_or rows place row) = ap (λ (v : Vec ℕ Global). v.items) w.rows-is ∙ ap (set rows kept) is in
          let passes : p (get_or rows place row) ≡ true = ap p (sym is) ∙ sym c.is_true_at.ensures ∙ w.if-is_true_at.true in
          record {
            kept = ap (λ n. take n c.if-is_true_at.rows.items) w.kept-is ∙ ap (take (kept + 1)) set-is ∙ place-kept p old rows kept place row inv.kept inv.rest inv.few below inv.long passes;
            rest = ap (drop (place + 1)) set-is ∙ rest-kept p old rows kept place row inv.kept inv.rest inv.few below inv.long (get_or rows place row);
            few = omega (arith, w.kept-is, inv.few);
            long = ap length set-is ∙ length-set rows kept (get_or rows place row) ∙ inv.long;
          }
      | else-is_true_at w ↦
          let fails : p (get_or rows place row) ≡ false = ap p (sym is) ∙ sym c.is_true_at.ensures ∙ w.if-is_true_at.false in
          let same : c.if-is_true_at.rows.items ≡ rows = ap (λ (v : Vec ℕ Global). v.items) w.rows-is in
          record {
            kept = ap (λ n. take n c.if-is_true_at.rows.items) w.kept-is ∙ ap (take kept) same ∙ place-left p old rows kept place row inv.kept inv.rest inv.few below inv.long fails;
            rest = ap (drop (place + 1)) same ∙ rest-left p old rows kept place row inv.kept inv.rest inv.few below inv.long;
            few = omega (arith, w.kept-is, inv.few);
            long = ap length same ∙ inv.long;
          }
    ]
