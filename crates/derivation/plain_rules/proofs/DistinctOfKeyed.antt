-- Redundant DISTINCT: its laws.
use Rattle.std.proofs.Common.{◌≡◌, refl, ap, ◌∙◌, ℕ, true, List, [], ◌∷◌}
use Rattle.std.specs.List.{list_any}
use Rattle.std.proofs.lemmas.Bool.{or_left}
use Rattle.values.specs.Faults.{wanted_if}
use Rattle.algebra.specs.declared.expr.Expr.TheVariants.{Distinct}
use Rattle.algebra.specs.Columns.{is_subset}
use Rattle.algebra.specs.Equality.{same_columns}
use Rattle.algebra.specs.Bags.{Bag}
use Rattle.algebra.proofs.Same.{same_columns-refl}
use Rattle.laws.specs.Keys.{IsStrongKey}
use Rattle.laws.proofs.DistinctRows as distinct_law
use Rattle.props.specs.declared.fact.FactSets.{FactSets}
use Rattle.props.specs.declared.fact.Fact.TheVariants.{StrongKey}
use Rattle.props.specs.Facts as facts
use Rattle.props.specs.Knowledge.{with_rows, has_strong_key}
use Rattle.rules.specs.declared.shape.Shape.TheVariants as shape
use Rattle.rules.specs.declared.pattern.Operator.TheVariants as operator
use Rattle.rules.specs.declared.pattern.Operators.TheVariants.{Only}
use Rattle.rules.specs.declared.unfit.Unfit.TheVariants.{Condition as FailedCondition}
use Rattle.plain_rules.specs.DistinctOfKeyed as spec
use Rattle.rules.specs.Soundness.{IsSound}
use Rattle.rules.specs.Formed.{IsFormed}
use Rattle.rules.specs.Patterns.{KeepsTo}
use Rattle.rules.specs.Stability.{IsStable}
use Rattle.rules.proofs.Conditions.{if-given}
use Rattle.rules.proofs.MatchedLines.{OneIsSound, given, one-sound}
use Rattle.rules.proofs.ShapeMeanings.{class-is, has-bag}
use Rattle.rules.proofs.FormedLines.{OneIsFormed, one-formed, given-is, first-founded, class-stands}
use Rattle.rules.proofs.PatternedLines.{OneKeepsTo, one-keeps}
use Rattle.rules.proofs.StableLines.{OneIsStable, one-stable, first-passes}

-- a strong key, where one is known
record Keyed (columns : List ℕ) (x : Bag) : Type 0 where
  key : List ℕ
  within : is_subset key columns ≡ true
  strong : IsStrongKey key x

keyed : (columns : List ℕ) (x : Bag) (F : FactSets) → facts.FactsHold columns x F → facts.has_strong_key F ≡ true → Keyed columns x
keyed columns x F hold has_one = by F.strong_keys refl has_one
  where
    by : (keys : List (List ℕ)) → F.strong_keys ≡ keys → facts.any_key keys ≡ true → Keyed columns x
    by [] is none = cc
    by (key ∷ keys) is some =
        let known = hold (StrongKey key) (ap (list_any (λ L. same_columns L key)) is ∙ or_left _ _ (same_columns-refl key)) in
        record { key = key; within = known.0; strong = known.1 }

dropped-sound : OneIsSound spec.dropped
dropped-sound K W (Distinct x) s stands is =
    let one = if-given (has_strong_key K x) _ s is in
    let key = keyed (K.columns x) (W.rows x) (K.facts x) (stands.classes.facts x) one.0 in
    given K W _ _ s one.1 (has-bag (with_rows K W.rows) _ _ _ (class-is _ x)
    (distinct_law.distinct_of_keyed key.key (K.columns x) (K.free x) (W.rows x) (stands.classes.fits x) key.within key.strong))
dropped-sound K W x s stands is = cc

pub distinct_of_keyed_sound : IsSound spec.distinct_of_keyed
distinct_of_keyed_sound = one-sound spec.dropped dropped-sound

-- ---- its pattern

dropped-keeps : OneKeepsTo (Only operator.Distinct) spec.dropped
dropped-keeps K (Distinct x) other = cc
dropped-keeps K x other = refl

pub distinct_of_keyed_keeps : KeepsTo spec.pattern spec.distinct_of_keyed
distinct_of_keyed_keeps = one-keeps (Only operator.Distinct) spec.dropped dropped-keeps

-- ---- what it gives is well formed

dropped-formed : OneIsFormed spec.dropped
dropped-formed S (Distinct x) s stands rise is = given-is S _ s _ _ (if-given _ _ s is).1 refl (class-stands S x (first-founded S x true stands.known))
dropped-formed S x s stands rise is = cc

pub distinct_of_keyed_formed : IsFormed spec.distinct_of_keyed
distinct_of_keyed_formed = one-formed spec.dropped dropped-formed

-- ---- it depends on the classes that its lines name

dropped-stable : OneIsStable spec.dropped
dropped-stable p K L agree (Distinct x) known = ap (λ F. wanted_if FailedCondition (facts.has_strong_key F) (shape.Class x)) (agree.facts x (first-passes p x true known))
dropped-stable p K L agree x known = refl

pub distinct_of_keyed_stable : IsStable spec.distinct_of_keyed
distinct_of_keyed_stable = one-stable spec.dropped dropped-stable
