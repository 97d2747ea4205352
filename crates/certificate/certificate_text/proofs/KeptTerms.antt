-- The terms of a condition, by its outermost part; and conjuncts within the limit, which can be read.
use Rattle.std.proofs.Common.{◌≡◌, refl, sym, ◌∙◌, subst, ℕ, true, ◌&&◌, List, [], ◌∷◌, ◌++◌, map, flat_map}
use Rattle.std.specs.List.{AllByRecursion}
use Rattle.std.proofs.lemmas.Bool.{and_parts}
use Rattle.values.proofs.Lists.{all_append}
use Rattle.values.specs.declared.truth.Comparison.{Comparison}
use Rattle.algebra.specs.declared.condition.Term.{Term}
use Rattle.algebra.specs.declared.condition.Condition.{Condition}
use Rattle.algebra.specs.declared.condition.Condition.TheVariants.{Compare, IsNull, Not, And, Or, Exists, In, rolls-Compare, rolls-IsNull, rolls-Not, rolls-And, rolls-Or, rolls-Exists, rolls-In}
use Rattle.algebra.specs.declared.condition.Condition.TheOpen.{Condition-F}
use Rattle.algebra.specs.ConjunctOrder as algebra
use Rattle.certificate_text.specs.Conditions.{IsReadable, nests_within, terms_of}
use Rattle.certificate_text.specs.Parts.{IsShort}
use Rattle.certificate_text.specs.Spelled.{IsReadableTerm}
use Rattle.certificate_text.proofs.DifferentTexts.{conjuncts_rise}
use Rattle.certificate_text.proofs.FrontConditions.{terms-at}
use Rattle.certificate_text.specs.Limits.{all_nest_within, most_nested}
use Rattle.certificate_text.specs.Readable.{AreConjuncts}

abbrev AreKept : List Term → Type 0
AreKept = AllByRecursion IsReadableTerm

pub terms_compare : (d : Condition) (c : Comparison) (a b : Term) → d ≡ Compare c a b → IsReadableTerm a → IsReadableTerm b → AllByRecursion IsReadableTerm (terms_of d)
terms_compare d c a b is h k = subst AreKept (sym (terms-at (Condition-F.Compare c a b) d (rolls-Compare c a b ∙ sym is))) (h, (k, tt))

pub terms_is_null : (d : Condition) (a : Term) → d ≡ IsNull a → IsReadableTerm a → AllByRecursion IsReadableTerm (terms_of d)
terms_is_null d a is h = subst AreKept (sym (terms-at (Condition-F.IsNull a) d (rolls-IsNull a ∙ sym is))) (h, tt)

pub terms_not : (d c : Condition) → d ≡ Not c → AllByRecursion IsReadableTerm (terms_of c) → AllByRecursion IsReadableTerm (terms_of d)
terms_not d c is h = subst AreKept (sym (terms-at (Condition-F.Not c) d (rolls-Not c ∙ sym is))) h

more_kept : (cs : List Condition) → AllByRecursion (λ c. AllByRecursion IsReadableTerm (terms_of c)) cs → AreKept (flat_map (λ terms. terms) (map terms_of cs))
more_kept [] h = tt
more_kept (c ∷ cs) h = all_append IsReadableTerm (terms_of c) (flat_map (λ terms. terms) (map terms_of cs)) h.0 (more_kept cs h.1)

parts_kept : (a b : Condition) (cs : List Condition) → AllByRecursion IsReadableTerm (terms_of a) → AllByRecursion IsReadableTerm (terms_of b) → AllByRecursion (λ c. AllByRecursion IsReadableTerm (terms_of c)) cs
    → AreKept (terms_of a ++ (terms_of b ++ flat_map (λ terms. terms) (map terms_of cs)))
parts_kept a b cs h k more = all_append IsReadableTerm (terms_of a) _ h (all_append IsReadableTerm (terms_of b) _ k (more_kept cs more))

pub terms_and : (d a b : Condition) (cs : List Condition) → d ≡ And a b cs → AllByRecursion IsReadableTerm (terms_of a) → AllByRecursion IsReadableTerm (terms_of b) → AllByRecursion (λ c. AllByRecursion IsReadableTerm (terms_of c)) cs
    → AllByRecursion IsReadableTerm (terms_of d)
terms_and d a b cs is h k more = subst AreKept (sym (terms-at (Condition-F.And a b cs) d (rolls-And a b cs ∙ sym is))) (parts_kept a b cs h k more)

pub terms_or : (d a b : Condition) (cs : List Condition) → d ≡ Or a b cs → AllByRecursion IsReadableTerm (terms_of a) → AllByRecursion IsReadableTerm (terms_of b) → AllByRecursion (λ c. AllByRecursion IsReadableTerm (terms_of c)) cs
    → AllByRecursion IsReadableTerm (terms_of d)
terms_or d a b cs is h k more = subst AreKept (sym (terms-at (Condition-F.Or a b cs) d (rolls-Or a b cs ∙ sym is))) (parts_kept a b cs h k more)

pub terms_exists : (d : Condition) (g : ℕ) → d ≡ Exists g → IsShort g → AllByRecursion IsReadableTerm (terms_of d)
terms_exists d g is h = subst AreKept (sym (terms-at (Condition-F.Exists g) d (rolls-Exists g ∙ sym is))) (h, tt)

pub terms_in : (d : Condition) (a : Term) (g k : ℕ) → d ≡ In a g k → IsReadableTerm a → IsShort g → IsShort k → AllByRecursion IsReadableTerm (terms_of d)
terms_in d a g k is h i j = subst AreKept (sym (terms-at (Condition-F.In a g k) d (rolls-In a g k ∙ sym is))) (h, (i, (j, tt)))

-- ---- conjuncts

each_readable : (C : List Condition) → AllByRecursion (λ c. AllByRecursion IsReadableTerm (terms_of c)) C → all_nest_within C most_nested ≡ true → AllByRecursion (IsReadable most_nested) C
each_readable [] kept within = tt
each_readable (c ∷ C) kept within = let parts = and_parts (nests_within c most_nested) (all_nest_within C most_nested) within in ((parts.0, kept.0), each_readable C kept.1 parts.1)

pub conjuncts_readable : (C : List Condition) → algebra.AreConjuncts C → AllByRecursion (λ c. AllByRecursion IsReadableTerm (terms_of c)) C → all_nest_within C most_nested ≡ true → AreConjuncts C
conjuncts_readable C are kept within = let all = each_readable C kept within in (all, conjuncts_rise most_nested C all are)

pub both_nest : (C D : List Condition) → all_nest_within (C ++ D) most_nested ≡ true → (all_nest_within C most_nested ≡ true) × (all_nest_within D most_nested ≡ true)
both_nest [] D h = (refl, h)
both_nest (c ∷ C) D h =
    let parts = and_parts (nests_within c most_nested) (all_nest_within (C ++ D) most_nested) h in
    let more = both_nest C D parts.1 in
    (λ i. parts.0 i && more.0 i, more.1)
