use Rattle.std.proofs.Common.{◌≡◌, ap, sym, subst, ◌∙◌, ℕ, ◌+◌, Bool, if◌then◌else◌, List, [], ◌∷◌, length, length-append, arith}
use Rattle.std.specs.List.{range_with_len}
use Rattle.schema.specs.Databases.{Row}
use Rattle.store.specs.Keys.{key_eq, key_equiv}
use Rattle.store.proofs.IndexLists.{numbers_more}
use Rattle.relations.specs.Parts.{row_at}
use Rattle.grouping.specs.KeyBuckets.{column_key}
use Rattle.grouping.specs.Groups.{AreNumbered, added_at, continues, first_seen, groups_by, key_at, same_at, with_founder}
use Rattle.grouping.specs.RowNumbers.{numbers_in}
use Rattle.grouping.proofs.FirstSeen.{founders-more, groups-numbered, place}
use Rattle.grouping.proofs.NumberedGroups.{numbered-more}
use Rattle.grouping.proofs.RunPlaces.{run-place}
use Rattle.grouping.proofs.runs.run_numbers.Goals as goal

pub loop-number-preserved : goal.loop-number-preserved
loop-number-preserved c =
    let n = c.loop-number.number in
    let places = c.args.places.now in
    let rows = c.args.rows.now in
    let key : ℕ → Row = λ m. key_at places (row_at rows.parts.items m) in
    let same : ℕ → ℕ → Bool = same_at places rows in
    let before : List ℕ = range_with_len 0 n in
    let numbers = numbers_in c.loop-number.groups.numbers in
    let group = c.run_at-group.result in
    let many : length numbers ≡ n = c.loop-number.invariant.each in
    let founders : length (numbers_in c.loop-number.groups.firsts) ≡ length (first_seen same before) = ap length c.loop-number.invariant.firsts in
    let next : c.len.result ≡ length (first_seen same before) = omega (arith, c.len.ensures, founders) in
    let keys : column_key c.as_slice.result.now ≡ key = ap column_key c.as_slice.ensures.value ∙ (λ i m. c.in_ok-columns.ensures m i) in
    let run = ap (λ (k : ℕ → Row). if continues (λ a b. key_eq (k a) (k b)) n then c.loop-number.group else c.len.result) keys in
    let is : group ≡ place key key_eq key_equiv before n = c.run_at-group.ensures ∙ run ∙ run-place key key_eq key_equiv rows.count n c.loop-number.group c.len.result c.requires (omega arith) c.loop-number.invariant.last next in
    let added : groups_by same (range_with_len 0 (n + 1)) ≡ added_at group n (groups_by same before) =
    ap (groups_by same) (numbers_more n) ∙ groups-numbered key key_eq key_equiv before n ∙ ap (λ g. added_at g n (groups_by same before)) (sym is) in
    record {
      firsts = c.in_ok-add.ensures.firsts ∙ ap (λ fs. with_founder fs group n) c.loop-number.invariant.firsts ∙ ap (λ g. with_founder (first_seen same before) g n) is
          ∙ sym (founders-more key key_eq key_equiv before n) ∙ ap (first_seen same) (sym (numbers_more n));
      numbered = subst (AreNumbered same) (sym c.in_ok-add.ensures.numbers)
          (numbered-more same numbers group c.loop-number.invariant.numbered
          (subst (λ m. groups_by same (range_with_len 0 (m + 1)) ≡ added_at group m (groups_by same (range_with_len 0 m))) (sym many) added));
      each = ap length c.in_ok-add.ensures.numbers ∙ length-append numbers (group ∷ []) ∙ ap (λ m. m + 1) many;
      last = λ m e. let equal : n ≡ m = omega (arith, e) in subst (λ k. group ≡ place key key_eq key_equiv (range_with_len 0 k) k) equal is;
    }
