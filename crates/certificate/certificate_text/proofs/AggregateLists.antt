-- Lists of aggregates, as they are read.
use Rattle.std.proofs.Common.{◌≡◌, ℕ, suc, ◌+◌, ◌<◌, ◌≤◌, Bool, true, false, IsTrue, ◌↔◌, List, [], ◌∷◌, ◌++◌, map, take, drop, get_or, length, append_assoc, Result, Ok, Err, Option, Some, None, ◌==◌, refl, sym, ◌∙◌, ap, subst, arith, codes}
use Rattle.std.proofs.lemmas.Bool.{false≢true, and_parts}
use Rattle.std.specs.Char.{is_ascii_digit}
use Rattle.std.proofs.Math.Seq.{take-suc, take_all}
use Rattle.std.proofs.lemmas.List.{map-append, get_or-map, length-map}
use Rattle.std.proofs.lemmas.Simd.{map-map}
use Rattle.std.proofs.lemmas.Result.{err_from_is_err_and}
use denote.Ref.{Bor}
use Rattle.std.specs.List.{list_all, join_by, slice_split}
use Rattle.std.specs.List.Sorted.{IsStrictlyIncreasing}
use Rattle.std.specs.Option.{option_map}
use Rattle.std.specs.Result.{IsErrAnd}
use Rattle.values.specs.declared.fault.Fault.{Fault}
use Rattle.values.specs.declared.fault.Fault.TheVariants.{Memory, Refused}
use Rattle.values.specs.Faults.{Gives}
use Rattle.query.specs.declared.query.Aggregate.{Aggregate}
use Rattle.query.specs.declared.query.Aggregate.TheVariants as by
use Rattle.algebra.specs.declared.expr.Aggregation.{Aggregation}
use Rattle.algebra.specs.AggregateOrder.{AreByColumn}
use Rattle.certificate_text.specs.declared.part_fault.PartReason.{PartReason}
use Rattle.certificate_text.specs.declared.part_fault.PartReason.TheVariants.{OtherForm, OverLimit}
use Rattle.certificate_text.specs.PartTexts.{Text, lacks, aggregate_text, aggregation_text, aggregations_text}
use Rattle.certificate_text.specs.Numerals.{numeral}
use Rattle.certificate_text.specs.Parts.{IsRead, Reads, SpellEach}
use Rattle.certificate_text.specs.Spelled.{AreShortAggregations, SpellEachAggregation, SpellsAggregations, AreReadable}
use Rattle.certificate_text.proofs.Lacking.{lacks_both, numeral_lacks, split_list}
use Rattle.certificate_text.proofs.Numerals.{numeral_injective, numeral_digits, numeral_tested, form_nonempty}
use Rattle.certificate_text.proofs.NumberLists.{texts, texts_length}
use Rattle.certificate_text.proofs.PartLists.{list_spelled, parts_spelled}
use Rattle.certificate_text.proofs.SameFronts.{cut}

pub any : Aggregation
any = record { column = 0; aggregate = by.CountRows }

no_comma : (a : Aggregate) → lacks 44 (aggregate_text a) ≡ true
no_comma by.CountRows = refl
no_comma (by.Count k) = lacks_both 44 (codes "count:") (numeral k) refl (numeral_lacks 44 k refl)
no_comma (by.Sum k) = lacks_both 44 (codes "sum:") (numeral k) refl (numeral_lacks 44 k refl)
no_comma (by.Min k) = lacks_both 44 (codes "min:") (numeral k) refl (numeral_lacks 44 k refl)
no_comma (by.Max k) = lacks_both 44 (codes "max:") (numeral k) refl (numeral_lacks 44 k refl)

commas_between : (a : Aggregation) → lacks 44 (aggregation_text a) ≡ true
commas_between a = lacks_both 44 (numeral a.column) (61 ∷ aggregate_text a.aggregate) (numeral_lacks 44 a.column refl) (no_comma a.aggregate)

-- ---- aggregates are told by their texts

aggregate_told : (a b : Aggregate) → aggregate_text a ≡ aggregate_text b → a ≡ b
aggregate_told by.CountRows by.CountRows e = refl
aggregate_told by.CountRows (by.Count k) e = absurd (omega (arith, ap length e))
aggregate_told by.CountRows (by.Sum k) e = absurd (omega (arith, ap (λ w. get_or w 0 0) e))
aggregate_told by.CountRows (by.Min k) e = absurd (omega (arith, ap (λ w. get_or w 0 0) e))
aggregate_told by.CountRows (by.Max k) e = absurd (omega (arith, ap (λ w. get_or w 0 0) e))
aggregate_told (by.Count j) by.CountRows e = absurd (omega (arith, ap length e))
aggregate_told (by.Count j) (by.Count k) e = ap by.Count (numeral_injective j k (ap (drop 6) e))
aggregate_told (by.Count j) (by.Sum k) e = absurd (omega (arith, ap (λ w. get_or w 0 0) e))
aggregate_told (by.Count j) (by.Min k) e = absurd (omega (arith, ap (λ w. get_or w 0 0) e))
aggregate_told (by.Count j) (by.Max k) e = absurd (omega (arith, ap (λ w. get_or w 0 0) e))
aggregate_told (by.Sum j) by.CountRows e = absurd (omega (arith, ap (λ w. get_or w 0 0) e))
aggregate_told (by.Sum j) (by.Count k) e = absurd (omega (arith, ap (λ w. get_or w 0 0) e))
aggregate_told (by.Sum j) (by.Sum k) e = ap by.Sum (numeral_injective j k (ap (drop 4) e))
aggregate_told (by.Sum j) (by.Min k) e = absurd (omega (arith, ap (λ w. get_or w 0 0) e))
aggregate_told (by.Sum j) (by.Max k) e = absurd (omega (arith, ap (λ w. get_or w 0 0) e))
aggregate_told (by.Min j) by.CountRows e = absurd (omega (arith, ap (λ w. get_or w 0 0) e))
aggregate_told (by.Min j) (by.Count k) e = absurd (omega (arith, ap (λ w. get_or w 0 0) e))
aggregate_told (by.Min j) (by.Sum k) e = absurd (omega (arith, ap (λ w. get_or w 0 0) e))
aggregate_told (by.Min j) (by.Min k) e = ap by.Min (numeral_injective j k (ap (drop 4) e))
aggregate_told (by.Min j) (by.Max k) e = absurd (omega (arith, ap (λ w. get_or w 1 0) e))
aggregate_told (by.Max j) by.CountRows e = absurd (omega (arith, ap (λ w. get_or w 0 0) e))
aggregate_told (by.Max j) (by.Count k) e = absurd (omega (arith, ap (λ w. get_or w 0 0) e))
aggregate_told (by.Max j) (by.Sum k) e = absurd (omega (arith, ap (λ w. get_or w 0 0) e))
aggregate_told (by.Max j) (by.Min k) e = absurd (omega (arith, ap (λ w. get_or w 1 0) e))
aggregate_told (by.Max j) (by.Max k) e = ap by.Max (numeral_injective j k (ap (drop 4) e))

aggregation_told : (a b : Aggregation) → aggregation_text a ≡ aggregation_text b → a ≡ b
aggregation_told a b e =
    let parts = cut 61 (numeral a.column) (numeral b.column) (aggregate_text a.aggregate) (aggregate_text b.aggregate) (numeral_lacks 61 a.column refl) (numeral_lacks 61 b.column refl) e in
    λ i. record { column = numeral_injective a.column b.column parts.0 i; aggregate = aggregate_told a.aggregate b.aggregate parts.1 i }

each_told : (G H : List Aggregation) → map aggregation_text G ≡ map aggregation_text H → G ≡ H
each_told [] [] e = refl
each_told [] (b ∷ H) e = absurd (omega (arith, ap length e))
each_told (a ∷ G) [] e = absurd (omega (arith, ap length e))
each_told (a ∷ G) (b ∷ H) e = λ i. aggregation_told a b (ap (λ ts. get_or ts 0 []) e) i ∷ each_told G H (ap (drop 1) e) i

no_dash : (a : Aggregation) (G : List Aggregation) → aggregations_text (a ∷ G) ≡ codes "-" → ⊥
no_dash a G e = first (numeral a.column) (numeral_digits a.column) (form_nonempty (numeral a.column) (numeral_tested a.column)) (front a G e) where
  front : (a : Aggregation) (G : List Aggregation) → aggregations_text (a ∷ G) ≡ codes "-" → (rest : Text) × (numeral a.column ++ rest ≡ codes "-")
  front a [] e = (61 ∷ (aggregate_text a.aggregate ++ []), sym (append_assoc (numeral a.column) (61 ∷ aggregate_text a.aggregate) []) ∙ e)
  front a (b ∷ G) e = (61 ∷ (aggregate_text a.aggregate ++ (44 ∷ join_by aggregation_text (codes ",") (b ∷ G))), sym (append_assoc (numeral a.column) (61 ∷ aggregate_text a.aggregate) (44 ∷ join_by aggregation_text (codes ",") (b ∷ G))) ∙ e)

  first : (w : Text) → list_all is_ascii_digit w ≡ true → 0 < length w → (rest : Text) × (w ++ rest ≡ codes "-") → ⊥
  first [] d l e = absurd (omega (arith, l))
  first (b ∷ w) d l e = false≢true (ap (λ w. is_ascii_digit (get_or w 0 0)) (sym e.1) ∙ (and_parts (is_ascii_digit b) (list_all is_ascii_digit w) d).0)

pub aggregations_told : (G H : List Aggregation) → aggregations_text G ≡ aggregations_text H → G ≡ H
aggregations_told [] [] e = refl
aggregations_told [] (b ∷ H) e = absurd (no_dash b H (sym e))
aggregations_told (a ∷ G) [] e = absurd (no_dash a G e)
aggregations_told (a ∷ G) (b ∷ H) e =
    each_told (a ∷ G) (b ∷ H) (sym (split_list aggregation_text 44 commas_between a G) ∙ ap (slice_split (λ b. b == 44)) e ∙ split_list aggregation_text 44 commas_between b H)

-- ---- the words of their columns

-- the words are the columns of the aggregates that the parts spell
abbrev pub AreColumnWords : List Text → List Text → Type 0
AreColumnWords ts words = (G : List Aggregation) → SpellEachAggregation ts G → words ≡ map (λ a. numeral a.column) G

-- the words so far
abbrev pub WordsSoFar : List (Bor Text) → ℕ → List Text → Type 0
WordsSoFar parts i words = (G : List Aggregation) → SpellEachAggregation (texts parts) G → words ≡ map (λ a. numeral a.column) (take i G)

module _ (parts : List (Bor Text)) (i : ℕ) (G : List Aggregation) (s : SpellEachAggregation (texts parts) G) where
  as_many : length G ≡ length parts
  as_many = sym (sym (texts_length parts) ∙ ap length s ∙ length-map G aggregation_text)

  part_spelled : (d : Bor Text) → i < length parts → (get_or parts i d).now ≡ aggregation_text (get_or G i any)
  part_spelled d l = sym (get_or-map (λ (part : Bor Text). part.now) parts i d [] l) ∙ ap (λ ts. get_or ts i []) s ∙ get_or-map aggregation_text G i any [] (omega (arith, l, as_many))

  word_next : i < length parts → take (i + 1) G ≡ take i G ++ (get_or G i any ∷ [])
  word_next l = let e : i + 1 ≡ suc i = omega arith in ap (λ n. take n G) e ∙ take-suc G i any (omega (arith, l, as_many))

pub words_more : (parts : List (Bor Text)) (i : ℕ) (d word : Bor Text) (words more : List (Bor Text)) → i < length parts → WordsSoFar parts i (texts words)
    → ((a : Aggregation) → (get_or parts i d).now ≡ aggregation_text a → word.now ≡ numeral a.column) → more ≡ words ++ (word ∷ []) → WordsSoFar parts (i + 1) (texts more)
words_more parts i d word words more l h is e G s =
    ap texts e ∙ map-append (λ (word : Bor Text). word.now) words (word ∷ []) ∙ (λ k. h G s k ++ (is (get_or G i any) (part_spelled parts i G s d l) k ∷ []))
    ∙ sym (ap (map (λ (a : Aggregation). numeral a.column)) (word_next parts i G s l) ∙ map-append (λ (a : Aggregation). numeral a.column) (take i G) (get_or G i any ∷ []))

pub words_whole : (parts : List (Bor Text)) (i : ℕ) (words : List Text) → length parts ≤ i → WordsSoFar parts i words → AreColumnWords (texts parts) words
words_whole parts i words l h G s = h G s ∙ ap (map (λ (a : Aggregation). numeral a.column)) (take_all i G (omega (arith, l, as_many parts i G s)))

-- ---- the list

module _ (w : Text) (ts words : List Text) (rise : Bool) (dash : w ≡ codes "-" → ⊥) (parts : ts ≡ slice_split (λ b. b == 44) w) where
  each_spelled : (G : List Aggregation) → SpellsAggregations w G → SpellEachAggregation ts G
  each_spelled G s = parts ∙ parts_spelled aggregation_text commas_between w G dash s.0

  other : (reason : PartReason) → IsRead SpellEachAggregation AreShortAggregations ts (Err reason) → IsRead SpellsAggregations AreShortAggregations w (Err reason)
  other OverLimit h = absurd h
  other OtherForm h = λ G s. h G (each_spelled G s)

  -- what the exit at a fault of the parts gives
  pub parts_fault : {V W : Type 0} (view : V → List Aggregation) (seen : W → List Aggregation) (fault : Fault PartReason) (result : Result (Option W) (Fault PartReason))
      → Reads SpellEachAggregation AreShortAggregations ts view (Err fault) → IsErrAnd result (λ given. given ≡ fault) → Reads SpellsAggregations AreShortAggregations w seen result
  parts_fault {V} {W} view seen fault result h e =
      let x = err_from_is_err_and result e in
      subst (λ result. Reads SpellsAggregations AreShortAggregations w seen result) (sym (x.1 ∙ ap Err x.2)) (by fault h) where
        by : (fault : Fault PartReason) → Reads SpellEachAggregation AreShortAggregations ts view (Err fault) → Reads SpellsAggregations AreShortAggregations w seen (Err fault)
        by Memory h = tt
        by (Refused reason) h = other reason h

  module _ (columns : AreColumnWords ts words) (tells : (ns : List ℕ) → SpellEach words ns → IsTrue rise ↔ IsStrictlyIncreasing ns) where
    same_columns : (G : List Aggregation) → SpellEachAggregation ts G → SpellEach words (map (λ a. a.column) G)
    same_columns G s = columns G s ∙ sym (map-map numeral (λ (a : Aggregation). a.column) G)

    pub none_rising : rise ≡ false → (G : List Aggregation) → SpellsAggregations w G → ⊥
    none_rising e G s = false≢true (sym e ∙ (tells (map (λ a. a.column) G) (same_columns G (each_spelled G s))).1 s.1)

    pub some_rising : rise ≡ true → (G : List Aggregation) → SpellEachAggregation ts G → SpellsAggregations w G
    some_rising e G s = (list_spelled aggregation_text w G (sym parts ∙ s), (tells (map (λ a. a.column) G) (same_columns G s)).0 e)

    pub past_range : {V : Type 0} (view : V → List Aggregation) (read : Option V) → rise ≡ true → IsRead SpellEachAggregation AreShortAggregations ts (Ok (option_map view read)) → read ≡ None → IsRead SpellsAggregations AreShortAggregations w (Ok None)
    past_range view read e r is =
        let found : IsRead SpellEachAggregation AreShortAggregations ts (Ok None) = subst (λ read. IsRead SpellEachAggregation AreShortAggregations ts (Ok (option_map view read))) is r in
        (found.0, some_rising e found.0 found.1, found.2)

    module _ {V : Type 0} (view : V → List Aggregation) (read : Option V) (v : V) (e : rise ≡ true) (r : IsRead SpellEachAggregation AreShortAggregations ts (Ok (option_map view read))) (is : read ≡ Some v) where
      found : IsRead SpellEachAggregation AreShortAggregations ts (Ok (Some (view v)))
      found = subst (λ read. IsRead SpellEachAggregation AreShortAggregations ts (Ok (option_map view read))) is r

      pub rises : AreByColumn (view v)
      rises = (some_rising e (view v) found.0).1

      pub some_read : (G : List Aggregation) → G ≡ view v → IsRead SpellsAggregations AreShortAggregations w (Ok (Some G))
      some_read G same = rw same (some_rising e (view v) found.0, found.1)

-- a list of aggregates within their ranges is read as it is spelled
pub aggregations_given : {V : Type 0} (view : V → List Aggregation) (w : Text) (r : Result (Option V) (Fault PartReason)) → Reads SpellsAggregations AreShortAggregations w view r
    → (G : List Aggregation) → w ≡ aggregations_text G → AreReadable G → Gives (option_map view) r (Ok (Some G))
aggregations_given view w (Ok (Some v)) r G e s = ap (λ G. Ok (Some G)) (aggregations_told G (view v) (sym e ∙ r.0.0))
aggregations_given view w (Ok None) r G e s = absurd (r.2 (subst AreShortAggregations (aggregations_told G r.0 (sym e ∙ r.1.0)) s.0))
aggregations_given view w (Err Memory) r G e s = tt
aggregations_given view w (Err (Refused OtherForm)) r G e s = absurd (r G (e, s.1))
aggregations_given view w (Err (Refused OverLimit)) r G e s = absurd r
