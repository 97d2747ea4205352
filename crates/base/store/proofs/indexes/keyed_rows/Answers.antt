use Rattle.std.proofs.Common.{refl, sym, ap, ◌∙◌, ℕ, List, [], ◌∷◌, ◌++◌, length, map, ◌≡◌, arith}
use Rattle.std.specs.List.{range_with_len}
use Rattle.std.proofs.lemmas.List.{map-append}
use Rattle.std.proofs.lemmas.List.Elements.{All-nil, All-push, All-same}
use Rattle.store.specs.KeyedRows.{HasValueAt}
use Rattle.store.specs.declared.indexes.Keyed.{Keyed}
use Rattle.store.proofs.IndexLists.{numbers_more}
use Rattle.store.proofs.indexes.keyed_rows.Goals as goal

pub loop-number-init : goal.loop-number-init
loop-number-init c = rw (c.in_ok-keyed.ensures.items) (refl, All-nil (HasValueAt c.args.rows.now c.args.place))

pub loop-number-preserved : goal.loop-number-preserved
loop-number-preserved c =
    let n = c.loop-number.number in
    let item : Keyed = record { value = c.cell-value.result; number = n } in
    let number : Keyed → ℕ = λ k. k.number in (
      ap (map number) c.in_ok-push.ensures.items ∙ map-append number c.loop-number.keyed.items (item ∷ []) ∙ ap (λ (l : List ℕ). l ++ n ∷ []) c.loop-number.invariant.0 ∙ sym (numbers_more n),
      All-same (HasValueAt c.args.rows.now c.args.place) _ _ c.in_ok-push.ensures.items (All-push (HasValueAt c.args.rows.now c.args.place) c.loop-number.keyed.items item c.loop-number.invariant.1 c.cell-value.ensures),
    )

pub returns-clause-numbers : goal.returns-clause-numbers
returns-clause-numbers c =
    let all : c.loop-number.number ≡ length c.args.rows.now = omega (arith, c.len-number-end.ensures) in
    c.loop-number.invariant.0 ∙ ap (range_with_len 0) all

pub returns-clause-values : goal.returns-clause-values
returns-clause-values c = c.loop-number.invariant.1
