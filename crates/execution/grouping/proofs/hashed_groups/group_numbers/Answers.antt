use Rattle.std.proofs.Common.{◌≡◌, ap, sym, subst, ◌∙◌, ℕ, ◌+◌, Bool, List, [], ◌∷◌, length, map, length-append}
use Rattle.std.specs.List.{range_with_len}
use Rattle.schema.specs.Databases.{Row}
use Rattle.store.specs.Keys.{key_eq, key_equiv}
use Rattle.store.proofs.IndexLists.{numbers_more}
use Rattle.relations.specs.declared.row_columns.RowColumn.{RowColumn}
use Rattle.relations.specs.Parts.{row_at}
use Rattle.grouping.specs.Groups.{AreNumbered, added_at, first_seen, groups_by, key_at, same_at, with_founder}
use Rattle.grouping.specs.KeyBuckets.{AreHashed, IsGroup, column_key}
use Rattle.grouping.specs.RowNumbers.{numbers_in}
use Rattle.grouping.proofs.FirstSeen.{groups-numbered, founders-more, place}
use Rattle.grouping.proofs.FoundGroups.{group-place}
use Rattle.grouping.proofs.NumberedGroups.{numbered-more}
use Rattle.grouping.proofs.hashed_groups.group_numbers.Goals as goal

pub loop-number-preserved : goal.loop-number-preserved
loop-number-preserved c =
    let n = c.loop-number.number in
    let places = c.args.places.now in
    let rows = c.args.rows.now in
    let key : ℕ → Row = λ m. key_at places (row_at rows.parts.items m) in
    let same : ℕ → ℕ → Bool = same_at places rows in
    let before : List ℕ = range_with_len 0 n in
    let numbers = numbers_in c.loop-number.groups.numbers in
    let group = c.in_ok-group.group in
    let keys : column_key c.as_slice.result.now ≡ key = ap column_key c.as_slice.ensures.value ∙ (λ i m. c.in_ok-columns.ensures m i) in
    let firsts : numbers_in c.loop-number.groups.firsts ≡ first_seen same before = c.loop-number.invariant.firsts in
    let is : group ≡ place key key_eq key_equiv before n = group-place key before n group
    (subst (λ (l : List ℕ). IsGroup (map key l) (key n) group) firsts (subst (λ (k : ℕ → Row). IsGroup (map k (numbers_in c.loop-number.groups.firsts)) (k n) group) keys c.in_ok-group.ensures.group)) in
    let many : length numbers ≡ n = c.loop-number.invariant.each in
    let added : groups_by same (range_with_len 0 (n + 1)) ≡ added_at group n (groups_by same before) =
    ap (groups_by same) (numbers_more n) ∙ groups-numbered key key_eq key_equiv before n ∙ ap (λ g. added_at g n (groups_by same before)) (sym is) in
    record {
      hashed = subst (λ (l : List ℕ). AreHashed (map (column_key c.in_ok-columns.columns.items) l) c.group_of.new.hashes) (sym c.in_ok-add.ensures.firsts)
          (subst (λ (cs : List RowColumn). AreHashed (map (column_key cs) (with_founder (numbers_in c.loop-number.groups.firsts) group n)) c.group_of.new.hashes) c.as_slice.ensures.value c.in_ok-group.ensures.hashed);
      firsts = c.in_ok-add.ensures.firsts ∙ ap (λ fs. with_founder fs group n) c.loop-number.invariant.firsts ∙ ap (λ g. with_founder (first_seen same before) g n) is
          ∙ sym (founders-more key key_eq key_equiv before n) ∙ ap (first_seen same) (sym (numbers_more n));
      numbered = subst (AreNumbered same) (sym c.in_ok-add.ensures.numbers)
          (numbered-more same numbers group c.loop-number.invariant.numbered
          (subst (λ m. groups_by same (range_with_len 0 (m + 1)) ≡ added_at group m (groups_by same (range_with_len 0 m))) (sym many) added));
      each = ap length c.in_ok-add.ensures.numbers ∙ length-append numbers (group ∷ []) ∙ ap (λ m. m + 1) many;
    }
