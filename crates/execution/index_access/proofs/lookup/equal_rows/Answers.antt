use Rattle.std.proofs.Common.{◌≡◌, ◌∙◌, ◌<◌, true, false, not, ap, ℕ, Bool, List, length, map, arith}
use Rattle.std.specs.List.{list_any}
use Rattle.std.proofs.lemmas.List.{length-map}
use Rattle.values.specs.declared.value.Value.{Value}
use Rattle.values.specs.Truth.{is_null}
use Rattle.algebra.specs.Bags.{Env}
use Rattle.algebra.specs.Conditions.{holds}
use Rattle.physical.specs.Outputs.{no_classes}
use Rattle.relations.specs.Relations.{env_of, numbered_env}
use Rattle.index_access.specs.declared.cuts.KeyCell.{KeyCell}
use Rattle.index_access.specs.Cuts.{goes_before, key_order, key_value}
use Rattle.index_access.specs.Probes.{Begins}
use Rattle.index_access.proofs.EqualRows.{in_own_order}
use Rattle.index_access.proofs.FilteredRanges.{missed}
use Rattle.index_access.proofs.Probes.{before_end, behind_key, row_within}
use Rattle.index_access.proofs.lookup.equal_rows.Goals as goal

pub returns : goal.returns
returns c =
    let r = c.args.relation.now in
    let e = env_of c.args.env.now in
    let row : ℕ → Env = numbered_env r e in
    let columns = c.args.columns.now in
    let numbers = c.args.numbers.now in
    let p : ℕ → Bool = λ n. holds no_classes c.args.conditions.now (row n) in
    let cells : List KeyCell = c.put_equal_key.new.key.items in
    let key : List Value = map key_value cells in
    let begins : (n : ℕ) → p n ≡ true → Begins (row n) columns key = λ n h. c.in_ok-put_equal_key.ensures (row n) (row_within r e n) h in
    let long : length key ≡ length cells = length-map cells key_value in
    let whole : length key < length columns → ⊥ = λ less. omega (arith, less, long, c.len.ensures, c.if-len-columns.false) in
    let null = c.has_null.ensures ∙ ap (λ (k : List KeyCell). list_any (λ cell. is_null (key_value cell)) k) c.as_slice.ensures.value in
    c.between.ensures p
    (missed p (λ n. goes_before false (key_order (row n) columns key)) false numbers 0 c.position-start.result (λ n h. behind_key (row n) columns key (begins n h)) c.position-start.ensures.parts.0)
    (missed p (λ n. goes_before (not c.has_null.result) (key_order (row n) columns key)) true numbers c.position-end.result (length numbers) (λ n h. before_end (row n) columns cells c.has_null.result (begins n h) null) c.position-end.ensures.parts.1)
    ∙ in_own_order row columns key p r.rows.count numbers whole begins c.requires
