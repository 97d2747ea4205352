-- Aggregates, as they are cut and read.
use Rattle.std.proofs.Common.{◌≡◌, ℕ, ◌<◌, true, false, ◌∷◌, ◌++◌, length, get_or, Ok, Err, Option, Some, None, MatchOption, ◌⊎◌, inl, inr, length-append, is_some, if◌then◌else◌, refl, sym, ◌∙◌, ap, subst, arith, codes}
use denote.Ref.{Bor}
use Rattle.std.specs.Option.{unwrap_or}
use Rattle.std.proofs.Math.Seq.{get_or-append_seam}
use Rattle.std.proofs.lemmas.Str.Pattern.{IsSplitOnceResult, split_after, split_parts}
use Rattle.query.specs.declared.query.Aggregate.{Aggregate}
use Rattle.query.specs.declared.query.Aggregate.TheVariants as by
use Rattle.algebra.specs.declared.expr.Aggregation.{Aggregation}
use Rattle.certificate_text.specs.declared.part_fault.PartReason.{PartReason}
use Rattle.certificate_text.specs.PartTexts.{Text, lacks, aggregate_text, aggregation_text, IsNamed}
use Rattle.certificate_text.specs.Numerals.{numeral}
use Rattle.certificate_text.specs.Parts.{IsRead, SpellsNumber, IsShort}
use Rattle.certificate_text.specs.declared.part_fault.PartReason.TheVariants.{OtherForm, OverLimit}
use Rattle.certificate_text.specs.Spelled.{IsShortAggregate, IsShortAggregation, SpellsAggregate, SpellsAggregation}
use Rattle.certificate_text.proofs.Exits.{same_some, not_none}
use Rattle.certificate_text.proofs.Lacking.{lacks_at, numeral_lacks}

abbrev Cut : Type 0
Cut = Option (Bor Text × Bor Text)

-- a text with a character in it is cut there
pub cut_at : (c : ℕ) (w v rest : Text) (r : Cut) → IsSplitOnceResult c w r → c < 128 → lacks c v ≡ true → w ≡ v ++ (c ∷ rest) → MatchOption r ⊥ (λ x. (x.0.now ≡ v) × (x.1.now ≡ rest))
cut_at c w v rest r h low free e = split_after c w v rest r h low e (lacks_at c v free)

named_cut : (a : Aggregate) (name : Text) (k : ℕ) (r : Cut) → IsNamed a name k → MatchOption r ⊥ (λ x. (x.0.now ≡ name) × (x.1.now ≡ numeral k)) → MatchOption r (a ≡ by.CountRows) (λ x. IsNamed a x.0.now k × (x.1.now ≡ numeral k))
named_cut a name k None n h = absurd h
named_cut a name k (Some x) n h = (subst (λ name. IsNamed a name k) (sym h.0) n, h.1)

-- the column that it reads, if it reads one
abbrev column_of : Aggregate → ℕ
column_of by.CountRows = 0
column_of (by.Count k) = k
column_of (by.Sum k) = k
column_of (by.Min k) = k
column_of (by.Max k) = k

short_column : (a : Aggregate) → IsShortAggregate a → IsShort (column_of a)
short_column by.CountRows s = omega arith
short_column (by.Count k) s = s
short_column (by.Sum k) s = s
short_column (by.Min k) s = s
short_column (by.Max k) s = s

-- the text of an aggregate is cut behind its name
aggregate_cut : (a : Aggregate) (w : Text) (r : Cut) → IsSplitOnceResult 58 w r → w ≡ aggregate_text a → MatchOption r (a ≡ by.CountRows) (λ x. IsNamed a x.0.now (column_of a) × (x.1.now ≡ numeral (column_of a)))
aggregate_cut by.CountRows w None h e = refl
aggregate_cut by.CountRows w (Some x) h e =
    let parts = split_parts 58 w (Some x) h (omega arith) in
    absurd (lacks_at 58 (codes "count") refl (length x.0.now) (omega (arith, ap length (sym e ∙ parts.0), length-append x.0.now (58 ∷ x.1.now))) (ap (λ w. get_or w (length x.0.now) 0) (sym e ∙ parts.0) ∙ get_or-append_seam x.0.now 58 x.1.now 0))
aggregate_cut (by.Count k) w r h e = named_cut (by.Count k) (codes "count") k r (refl, refl) (cut_at 58 w (codes "count") (numeral k) r h (omega arith) refl e)
aggregate_cut (by.Sum k) w r h e = named_cut (by.Sum k) (codes "sum") k r (refl, refl) (cut_at 58 w (codes "sum") (numeral k) r h (omega arith) refl e)
aggregate_cut (by.Min k) w r h e = named_cut (by.Min k) (codes "min") k r (refl, refl) (cut_at 58 w (codes "min") (numeral k) r h (omega arith) refl e)
aggregate_cut (by.Max k) w r h e = named_cut (by.Max k) (codes "max") k r (refl, refl) (cut_at 58 w (codes "max") (numeral k) r h (omega arith) refl e)

-- ---- an aggregate

pub named_text : (a : Aggregate) (name : Text) (k : ℕ) → IsNamed a name k → (aggregate_text a ≡ name ++ (58 ∷ numeral k)) × (column_of a ≡ k)
named_text by.CountRows name k n = absurd n
named_text (by.Count c) name k n = ((λ i. sym n.0 i ++ (58 ∷ numeral (n.1 i))), n.1)
named_text (by.Sum c) name k n = ((λ i. sym n.0 i ++ (58 ∷ numeral (n.1 i))), n.1)
named_text (by.Min c) name k n = ((λ i. sym n.0 i ++ (58 ∷ numeral (n.1 i))), n.1)
named_text (by.Max c) name k n = ((λ i. sym n.0 i ++ (58 ∷ numeral (n.1 i))), n.1)

-- the aggregate of the name over another column
renamed : (a : Aggregate) (name : Text) (k m : ℕ) → IsNamed a name k → (b : Aggregate) × IsNamed b name m
renamed by.CountRows name k m n = absurd n
renamed (by.Count c) name k m n = (by.Count m, (n.0, refl))
renamed (by.Sum c) name k m n = (by.Sum m, (n.0, refl))
renamed (by.Min c) name k m n = (by.Min m, (n.0, refl))
renamed (by.Max c) name k m n = (by.Max m, (n.0, refl))

column_short : (a : Aggregate) (name : Text) (k : ℕ) → IsNamed a name k → IsShort k → IsShortAggregate a
column_short by.CountRows name k n s = tt
column_short (by.Count c) name k n s = subst IsShort (sym n.1) s
column_short (by.Sum c) name k n s = subst IsShort (sym n.1) s
column_short (by.Min c) name k n s = subst IsShort (sym n.1) s
column_short (by.Max c) name k n s = subst IsShort (sym n.1) s

module _ (w : Text) (x : Bor Text × Bor Text) (h : IsSplitOnceResult 58 w (Some x)) where
  whole : (a : Aggregate) (k : ℕ) → IsNamed a x.0.now k → x.1.now ≡ numeral k → SpellsAggregate w a
  whole a k n e = (split_parts 58 w (Some x) h (omega arith)).0 ∙ ap (λ t. x.0.now ++ (58 ∷ t)) e ∙ sym (named_text a x.0.now k n).0

  -- its column isn't read
  pub aggregate_other : (reason : PartReason) → IsRead SpellsNumber IsShort x.1.now (Err reason) → IsRead SpellsAggregate IsShortAggregate w (Err reason)
  aggregate_other OverLimit k = absurd k
  aggregate_other OtherForm k = λ a e. k (column_of a) (aggregate_cut a w (Some x) h e).1

  -- it has no name
  pub aggregate_unnamed : (k : ℕ) → ((a : Aggregate) → IsNamed a x.0.now k → ⊥) → (a : Aggregate) → SpellsAggregate w a → ⊥
  aggregate_unnamed k none a e = let b = renamed a x.0.now (column_of a) k (aggregate_cut a w (Some x) h e).0 in none b.0 b.1

  pub aggregate_read : (r : Option ℕ) (k : ℕ) (a : Aggregate) → IsRead SpellsNumber IsShort x.1.now (Ok r) → k ≡ unwrap_or r 0 → IsNamed a x.0.now k → IsRead SpellsAggregate IsShortAggregate w (Ok (if is_some r then Some a else None))
  aggregate_read (Some m) k a read e n = (whole a m (subst (λ k. IsNamed a x.0.now k) e n) read.0, column_short a x.0.now k n (subst IsShort (sym e) read.1))
  aggregate_read None k a read e n =
      let b = renamed a x.0.now k read.0 n in
      (b.0, whole b.0 read.0 b.1 read.1, λ s. read.2 (subst IsShort (named_text b.0 x.0.now read.0 b.1).1 (short_column b.0 s)))

  pub aggregate_past : (r : Option ℕ) (k : ℕ) (a : Aggregate) → IsRead SpellsNumber IsShort x.1.now (Ok r) → k ≡ unwrap_or r 0 → IsNamed a x.0.now k → is_some r ≡ false → IsRead SpellsAggregate IsShortAggregate w (Ok None)
  aggregate_past r k a read e n past = subst (λ some. IsRead SpellsAggregate IsShortAggregate w (Ok (if some then Some a else None))) past (aggregate_read r k a read e n)

-- ---- an aggregate with the column that it adds

-- the text of an aggregate with its column is cut behind the column
pub aggregation_cut : (a : Aggregation) (w : Text) (r : Cut) → IsSplitOnceResult 61 w r → w ≡ aggregation_text a → MatchOption r ⊥ (λ x. (x.0.now ≡ numeral a.column) × (x.1.now ≡ aggregate_text a.aggregate))
aggregation_cut a w r h e = cut_at 61 w (numeral a.column) (aggregate_text a.aggregate) r h (omega arith) (numeral_lacks 61 a.column refl) e

module _ (w : Text) (x : Bor Text × Bor Text) (h : IsSplitOnceResult 61 w (Some x)) where
  pub column_other : (reason : PartReason) → IsRead SpellsNumber IsShort x.0.now (Err reason) → IsRead SpellsAggregation IsShortAggregation w (Err reason)
  column_other OverLimit k = absurd k
  column_other OtherForm k = λ a e. k a.column (aggregation_cut a w (Some x) h e).0

  pub word_other : (reason : PartReason) → IsRead SpellsAggregate IsShortAggregate x.1.now (Err reason) → IsRead SpellsAggregation IsShortAggregation w (Err reason)
  word_other OverLimit k = absurd k
  word_other OtherForm k = λ a e. k a.aggregate (aggregation_cut a w (Some x) h e).1

  both : (a : Aggregation) → SpellsNumber x.0.now a.column → SpellsAggregate x.1.now a.aggregate → SpellsAggregation w a
  both a e f = (split_parts 61 w (Some x) h (omega arith)).0 ∙ (λ i. e i ++ (61 ∷ f i))

  pub aggregation_read : (k : Option ℕ) (g : Option Aggregate) (r : Option Aggregation) → IsRead SpellsNumber IsShort x.0.now (Ok k) → IsRead SpellsAggregate IsShortAggregate x.1.now (Ok g)
      → MatchOption r ((k ≡ None) ⊎ (g ≡ None)) (λ a. (k ≡ Some a.column) × (g ≡ Some a.aggregate)) → IsRead SpellsAggregation IsShortAggregation w (Ok r)
  aggregation_read (Some k) (Some g) (Some a) read is m =
      let same_k : k ≡ a.column = same_some (Some k) k a.column refl m.0 in
      let same_g : g ≡ a.aggregate = same_some (Some g) g a.aggregate refl m.1 in
      (both a (read.0 ∙ ap numeral same_k) (is.0 ∙ ap aggregate_text same_g), (subst IsShort same_k read.1, subst IsShortAggregate same_g is.1))
  aggregation_read (Some k) None (Some a) read is m = absurd (not_none None a.aggregate refl m.1)
  aggregation_read None g (Some a) read is m = absurd (not_none None a.column refl m.0)
  aggregation_read (Some k) (Some g) None read is (inl m) = absurd (not_none (Some k) k m refl)
  aggregation_read (Some k) (Some g) None read is (inr m) = absurd (not_none (Some g) g m refl)
  aggregation_read (Some k) None None read is m = (record { column = k; aggregate = is.0 }, both (record { column = k; aggregate = is.0 }) read.0 is.1, λ s. is.2 s.1)
  aggregation_read None (Some g) None read is m = (record { column = read.0; aggregate = g }, both (record { column = read.0; aggregate = g }) read.1 is.0, λ s. read.2 s.0)
  aggregation_read None None None read is m = (record { column = read.0; aggregate = is.0 }, both (record { column = read.0; aggregate = is.0 }) read.1 is.1, λ s. read.2 s.0)
