use Rattle.std.proofs.Common.{◌≡◌, ℕ, ◌+◌, ◌<◌, List, [], ◌∷◌, ◌++◌, length, take, get_or, map, sym, ap, ◌∙◌, append_assoc, arith}
use Rattle.std.proofs.lemmas.List.{append-nil, take_all}
use Rattle.std.proofs.lemmas.Result.{err_from_is_err_and}
use Rattle.values.proofs.Lists.{map_next}
use Rattle.binder.specs.declared.scope.LentTable.{LentTable}
use Rattle.binder.specs.Lent.{known_of}
use Rattle.binder.specs.Scopes.{Scope}
use Rattle.binder.proofs.scope.Scope.append.Goals as goal

one_more_known : (front : Scope) (xs : List LentTable) (i : ℕ) (x : LentTable) → i < length xs → x ≡ get_or xs i x
    → (front ++ map known_of (take i xs)) ++ known_of x ∷ [] ≡ front ++ map known_of (take (i + 1) xs)
one_more_known front xs i x lt at =
    rw (map_next known_of xs i x lt at) (append_assoc front (map known_of (take i xs)) (known_of x ∷ []))

pub loop-table-init : goal.loop-table-init
loop-table-init c =
    sym (append-nil c.args.self)

pub returns-in_err-all : goal.returns-in_err-all
returns-in_err-all c =
    let p = err_from_is_err_and c.from_residual.result c.from_residual.ensures.1 in
    rw p.1 tt

pub loop-table-preserved : goal.loop-table-preserved
loop-table-preserved c =
    c.in_ok-all.ensures
    ∙ ap (λ (z : Scope). z ++ known_of c.table-item.result ∷ []) c.loop-table.invariant
    ∙ one_more_known c.args.self c.tables-table-items.result.now c.loop-table.table-index c.table-item.result c.loop-table-test.true c.table-item.is

pub returns : goal.returns
returns c =
    c.loop-table.invariant
    ∙ ap (λ (xs : List LentTable). c.args.self ++ map known_of xs) (take_all c.loop-table.table-index c.tables-table-items.result.now (omega arith))
    ∙ ap (λ (z : Scope). c.args.self ++ z) c.tables-table-items.ensures
