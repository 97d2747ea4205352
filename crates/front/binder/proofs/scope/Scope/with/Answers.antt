use Rattle.std.proofs.Common.{◌≡◌, ◌++◌, ◌∷◌, [], ℕ, List, ◌∙◌, ap, sym, if◌then◌else◌, option_map, is_some, Some, None, bytes_eq}
use Rattle.std.proofs.lemmas.List.{map-append}
use Rattle.std.proofs.lemmas.Result.{err_from_is_err_and}
use Rattle.std.specs.HashMap as hash
use Rattle.binder.specs.declared.scope.Index.{Index}
use Rattle.binder.specs.Scopes.{Known, Scope}
use Rattle.binder.specs.Lent.{known_of, scope_of, placed_of}
use Rattle.binder.proofs.Indexes.{indexed-push, name-new, name-kept, is_some-map, or_first}
use Rattle.binder.proofs.scope.Scope.with.Goals as goal
use Rattle.binder.proofs.scope.Scope.with.Goals.{then-is_none+in_ok-insert, else-is_none}

pub invariant_of-result : goal.invariant_of-result
invariant_of-result c =
    let s = c.self.inside.index in
    let name = c.args.name.now in
    let known : Known = record { name = name; entry = c.args.entry.now } in
    let there : is_some (hash.get_by (λ k. bytes_eq name k.now) s.by_name) ≡ is_some c.get.result = sym (ap is_some c.get.ensures.value) ∙ is_some-map (λ x. x.now) c.get.result in
    let named : (q : List ℕ) → option_map placed_of (hash.get_by (λ k. bytes_eq q k.now) c.if-is_none.index.by_name)
    ≡ or_first (option_map placed_of (hash.get_by (λ k. bytes_eq q k.now) s.by_name)) (if bytes_eq q name then Some (s.width, c.args.entry.now) else None) =
    elim c.if-is_none.branch [
      | then-is_none+in_ok-insert w ↦ rw w.index-is (name-new s.by_name w.insert.new.self name (record { first_place = s.width; entry = c.args.entry }) w.in_ok-insert.ensures.updates (there ∙ w.if-is_none.ensures))
      | else-is_none w ↦ rw w.index-is (name-kept s.by_name name (s.width, c.args.entry.now) (there ∙ w.if-is_none.ensures))
    ] in
    let same_columns : c.if-is_none.index.columns ≡ s.columns = elim c.if-is_none.branch [
      | then-is_none+in_ok-insert w ↦ ap (λ (i : Index). i.columns) w.index-is
      | else-is_none w ↦ ap (λ (i : Index). i.columns) w.index-is
    ] in
    let same_tables : c.if-is_none.index.tables ≡ c.push.new.self = elim c.if-is_none.branch [
      | then-is_none+in_ok-insert w ↦ ap (λ (i : Index). i.tables) w.index-is
      | else-is_none w ↦ ap (λ (i : Index). i.tables) w.index-is
    ] in
    let columned = rw (c.as_slice.ensures, same_columns) at c.in_ok-index.ensures.names in
    let counted = rw c.as_slice.ensures at c.in_ok-index.ensures.place in
    let more = indexed-push (scope_of s.tables.items) known s.by_name c.if-is_none.index.by_name s.columns c.add_columns.new.by_name s.width c.in_ok-index.field-0 c.self.invariant named columned counted in
    let scope : scope_of c.push.new.self.items ≡ scope_of s.tables.items ++ known ∷ [] = ap scope_of c.in_ok-push.ensures.items ∙ map-append known_of s.tables.items _ in
    rw (same_tables, scope) more

pub returns-in_err-push : goal.returns-in_err-push
returns-in_err-push c =
    let p = err_from_is_err_and c.from_residual.result c.from_residual.ensures.1 in
    rw p.1 tt

pub returns-in_err-insert : goal.returns-in_err-insert
returns-in_err-insert c =
    let p = err_from_is_err_and c.from_residual-in_err-insert.result c.from_residual-in_err-insert.ensures.1 in
    rw p.1 tt

pub returns-in_err-index : goal.returns-in_err-index
returns-in_err-index c =
    let p = err_from_is_err_and c.from_residual-in_err-index.result c.from_residual-in_err-index.ensures.1 in
    rw p.1 tt

pub returns : goal.returns
returns c =
    let s = c.self.inside.index in
    let known : Known = record { name = c.args.name.now; entry = c.args.entry.now } in
    let same_tables : c.if-is_none.index.tables ≡ c.push.new.self = elim c.if-is_none.branch [
      | then-is_none+in_ok-insert w ↦ ap (λ (i : Index). i.tables) w.index-is
      | else-is_none w ↦ ap (λ (i : Index). i.tables) w.index-is
    ] in
    let scope : scope_of c.push.new.self.items ≡ scope_of s.tables.items ++ known ∷ [] = ap scope_of c.in_ok-push.ensures.items ∙ map-append known_of s.tables.items _ in
    rw same_tables (scope ∙ ap (λ (z : Scope). z ++ known ∷ []) c.self.view_is)
