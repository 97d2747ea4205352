use Rattle.std.proofs.Common.{ap, sym, ◌∙◌, ◌||◌}
use Rattle.std.proofs.lemmas.Result.{IfOk-weaker}
use Rattle.std.proofs.lemmas.List.Folds.{list_any-append}
use Rattle.algebra.specs.Columns.{has}
use Rattle.algebra.specs.Conditions.{mentions}
use Rattle.algebra.specs.Expressions as spec
use Rattle.algebra.specs.GivenColumns.{given_columns, given_free}
use Rattle.algebra.proofs.Puts.{among-append}
use Rattle.algebra.proofs.Sets.{has-rising}
use Rattle.logs.proofs.free.mentioned.Goals as goal

pub returns-in_ok-mentioned-in-Anti-2 : goal.returns-in_ok-mentioned-in-Anti-2
returns-in_ok-mentioned-in-Anti-2 c =
    let cols = given_columns c.args.classes in
    let free = given_free c.args.classes in
    IfOk-weaker c.union-in-Anti-2.result _ _ (λ found is k.
    ap (λ xs. has xs k) is ∙ has-rising k _ ∙ among-append k _ _
    ∙ ap (λ b. b || has c.in_ok-mentioned-in-Anti-2.field-0 k) (c.in_ok-mentioned-in-Anti.ensures k) ∙ ap (λ b. spec.mentioned cols free c.in-Anti.ordinary k || b) (c.in_ok-mentioned-in-Anti-2.ensures k)
    ∙ sym (list_any-append (λ d. mentions d cols free k) c.in-Anti.ordinary c.in-Anti.null_aware)
    ∙ ap (λ x. spec.mentioned cols free (spec.conditions x) k) (sym c.in-Anti.is)) c.union-in-Anti-2.ensures
