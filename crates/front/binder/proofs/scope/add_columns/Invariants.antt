use Rattle.std.proofs.Common.{◌≡◌, ℕ, ◌+◌, List, drop, bytes_eq}
use Rattle.std.specs.HashMap as hash
use Rattle.binder.specs.Lent.{with_more}
use Rattle.binder.specs.Scopes.{columns_named}
use Rattle.binder.proofs.scope.add_columns.Given as goal

abbrev pub invariant-loop-column : goal.invariant-loop-column
invariant-loop-column l = record {
  place : l.place ≡ l.first_place + l.column-index;
  names : (q : List ℕ) → with_more (hash.get_by (λ k. bytes_eq q k.now) l.by_name) (columns_named q l.place (drop l.column-index l.columns))
      ≡ with_more (hash.get_by (λ k. bytes_eq q k.now) l.fn.by_name) (columns_named q l.first_place l.columns);
}
