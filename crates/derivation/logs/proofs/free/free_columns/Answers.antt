use Rattle.std.proofs.Common.{ap, sym, ◌∙◌, subst, not, ◌&&◌, ◌||◌, ◌++◌, [], option_to_list}
use Rattle.std.specs.List.{list_any}
use Rattle.std.proofs.lemmas.List.Folds.{list_any-append}
use Rattle.algebra.specs.Columns.{ColumnSet, has}
use Rattle.algebra.specs.Expressions as spec
use Rattle.algebra.specs.GivenColumns.{HasAlso, given_columns, given_free}
use Rattle.algebra.proofs.Sets.{has-rising}
use Rattle.logs.proofs.FreeColumns.{put-together}
use Rattle.logs.proofs.free.free_columns.Goals as goal

pub returns : goal.returns
returns c =
    let cols = given_columns c.args.classes in
    let free = given_free c.args.classes in
    let left = option_to_list c.children-inputs.result.0 in
    let right = option_to_list c.children-inputs.result.1 in
    let mentioned = c.in_ok-mentioned.mentioned in
    let lacking : ColumnSet = λ k. has c.as_slice.result.now k && not (list_any (λ g. has (cols g) k) (left ++ right)) in
    let first : HasAlso c.add_free.new.free.items [] (λ k. list_any (λ g. free g k) left) = subst (λ xs. HasAlso c.add_free.new.free.items xs (λ k. list_any (λ g. free g k) left)) c.new-free.ensures.items c.in_ok-add_free.ensures in
    λ k.
    ap (λ xs. has xs k) c.from_vec.ensures ∙ has-rising k _
    ∙ put-together (λ k. list_any (λ g. free g k) left) (λ k. list_any (λ g. free g k) right) lacking c.add_free.new.free.items c.add_free-2.new.free.items c.add_all_lacking.new.free.items first c.in_ok-add_free-2.ensures c.in_ok-add_all_lacking.ensures k
    ∙ ap (λ b. b || lacking k) (sym (list_any-append (λ g. free g k) left right))
    ∙ ap (λ xs. list_any (λ g. free g k) (left ++ right) || (has xs k && not (list_any (λ g. has (cols g) k) (left ++ right)))) c.as_slice.ensures.columns
    ∙ ap (λ b. list_any (λ g. free g k) (left ++ right) || (b && not (list_any (λ g. has (cols g) k) (left ++ right)))) (c.in_ok-mentioned.ensures k)
    ∙ ap (λ gs. list_any (λ g. free g k) gs || (spec.mentioned cols free (spec.conditions c.args.expr.now) k && not (list_any (λ g. has (cols g) k) gs))) c.children-inputs.ensures.only
