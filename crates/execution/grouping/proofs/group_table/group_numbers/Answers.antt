use Rattle.std.proofs.Common.{◌≡◌, ap, sym, subst, ◌∙◌, ℕ, ◌+◌, Bool, List, [], ◌∷◌, length, map, length-append, arith}
use Rattle.std.specs.List.{range_with_len}
use Rattle.schema.specs.Databases.{Row}
use Rattle.store.specs.Keys.{key_eq, key_equiv}
use Rattle.store.proofs.IndexLists.{numbers_more}
use Rattle.grouping.specs.Groups.{added_at, first_seen, groups_by, with_founder}
use Rattle.grouping.specs.GroupTables.{AreNumberedFrom, groups_seen, keys_seen, same_key}
use Rattle.grouping.specs.KeyBuckets.{IsGroup, column_key}
use Rattle.grouping.specs.KeyTables.{HasKeys}
use Rattle.grouping.proofs.FirstSeen.{founders-more, groups-numbered, place}
use Rattle.grouping.proofs.FoundGroups.{founder-map, group-place}
use Rattle.grouping.proofs.NumberedGroups.{numbered-next}
use Rattle.grouping.proofs.group_table.group_numbers.Goals as goal

pub loop-row-init : goal.loop-row-init
loop-row-init g c = record {
  keys = subst (λ n. HasKeys (length c.args.columns.now) (keys_seen g.of.0 n) c.args.keys.now) (omega arith) c.requires.1.1;
  numbered = λ i below. absurd (omega (arith, below, ap length c.in_ok-numbers.ensures.items));
  each = ap length c.in_ok-numbers.ensures.items;
}

pub returns-clause-seen : goal.returns-clause-seen
returns-clause-seen g c = subst (λ n. HasKeys (length c.args.columns.now) (keys_seen g.of.0 (g.of.1 + n)) c.loop-row.keys) (omega arith) c.loop-row.invariant.keys

pub number_of-requires : goal.number_of-requires
number_of-requires g c = c.loop-row.invariant.keys

pub loop-row-preserved : goal.loop-row-preserved
loop-row-preserved g c =
    let key : ℕ → Row = g.of.0 in
    let first = g.of.1 in
    let columns = c.args.columns.now in
    let n = c.loop-row.row in
    let m = first + n in
    let before : List ℕ = range_with_len 0 m in
    let same : ℕ → ℕ → Bool = same_key key in
    let numbers = c.loop-row.numbers.items in
    let group = c.in_ok-group.group in
    let shown : column_key columns n ≡ key m = c.requires.1.0 n (omega arith) in
    let is : group ≡ place key key_eq key_equiv before m = group-place key before m group (subst (λ k. IsGroup (keys_seen key m) k group) shown c.in_ok-group.ensures.group) in
    let added : groups_seen key (m + 1) ≡ added_at group m (groups_seen key m) =
    ap (groups_by same) (numbers_more m) ∙ groups-numbered key key_eq key_equiv before m ∙ ap (λ k. added_at k m (groups_seen key m)) (sym is) in
    let seen : with_founder (keys_seen key m) group (key m) ≡ keys_seen key (m + 1) =
    sym (founder-map key (first_seen same before) group m)
    ∙ ap (map key) (ap (λ k. with_founder (first_seen same before) k m) is ∙ sym (founders-more key key_eq key_equiv before m) ∙ ap (first_seen same) (sym (numbers_more m))) in
    let many : length numbers ≡ n = c.loop-row.invariant.each in
    let next : m + 1 ≡ first + (n + 1) = omega arith in
    record {
      keys = subst (λ ks. HasKeys (length columns) ks c.number_of.new.self) (ap (with_founder (keys_seen key m) group) shown ∙ seen ∙ ap (keys_seen key) next) c.in_ok-group.ensures.keys;
      numbered = subst (AreNumberedFrom key first) (sym c.in_ok-push.ensures.items)
          (numbered-next (groups_seen key) first numbers group c.loop-row.invariant.numbered (subst (λ k. groups_seen key (first + k + 1) ≡ added_at group (first + k) (groups_seen key (first + k))) (sym many) added));
      each = ap length c.in_ok-push.ensures.items ∙ length-append numbers (group ∷ []) ∙ ap (λ k. k + 1) many;
    }
