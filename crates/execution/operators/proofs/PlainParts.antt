-- Conditions without a subquery are asked first.
use Rattle.std.proofs.Common.{◌≡◌, refl, ap, sym, ◌∙◌, ℕ, Bool, true, false, not, ◌&&◌, if◌then◌else◌, List, [], ◌∷◌, ◌++◌, filter, flat_map}
use Rattle.std.proofs.lemmas.Bool.{and_from}
use Rattle.std.proofs.lemmas.List.{append-nil}
use Rattle.values.specs.Truth.{is_true}
use Rattle.algebra.specs.declared.condition.Condition.{Condition}
use Rattle.algebra.specs.Bags.{Env, Bag}
use Rattle.algebra.specs.Columns.{rising}
use Rattle.algebra.specs.Conditions.{truth, holds, named_classes, classes_in}
use Rattle.algebra.specs.ConjunctParts.{has_no_class, part, rest}
use Rattle.algebra.proofs.ConjunctSplits.{split_passes}
use Rattle.algebra.proofs.Lists.{none-pass}
use Rattle.algebra.proofs.NamedClasses.{all-named}
use Rattle.algebra.proofs.Plain.{plain_holds}
use Rattle.laws.proofs.Ignored.{part-passes}
use Rattle.joins.proofs.FilteredJoins.{filter-twice}
use Rattle.physical.specs.Outputs.{Output, no_classes, subquery_rows}

-- a condition without a subquery names no class
no-names : (c : Condition) → has_no_class c ≡ true → named_classes c ≡ []
no-names c is = sym (append-nil (named_classes c)) ∙ none-pass (named_classes c ++ []) (sym (all-named (λ g. false) (c ∷ [])) ∙ and_from _ _ is refl)

names-of-rest : (C : List Condition) → flat_map named_classes (rest has_no_class C) ≡ flat_map named_classes C
names-of-rest [] = refl
names-of-rest (c ∷ C) = by (has_no_class c) refl (names-of-rest C)
  where
    by : (b : Bool) → has_no_class c ≡ b → flat_map named_classes (rest has_no_class C) ≡ flat_map named_classes C
        → flat_map named_classes (if not b then c ∷ rest has_no_class C else rest has_no_class C) ≡ named_classes c ++ flat_map named_classes C
    by true is more = more ∙ ap (λ l. l ++ flat_map named_classes C) (sym (no-names c is))
    by false is more = ap (λ l. named_classes c ++ l) more

holds-parts : (W : ℕ → Bag) (C : List Condition) (r : Env) → holds W C r ≡ (holds no_classes (part has_no_class C) r && holds W (rest has_no_class C) r)
holds-parts W C r =
    split_passes (λ c. is_true (truth c W r)) has_no_class C
    ∙ ap (λ b. b && holds W (rest has_no_class C) r) (plain_holds (part has_no_class C) (part-passes has_no_class C) W no_classes r)

-- the rows at which conditions are true, found in two steps
pub filtered-in-parts : (C plain others : List Condition) (inputs : List Output) (rows : List Env) → (plain ≡ part has_no_class C) × (others ≡ rest has_no_class C)
    → filter (holds (subquery_rows (classes_in others) inputs) others) (filter (holds no_classes plain) rows) ≡ filter (holds (subquery_rows (classes_in C) inputs) C) rows
filtered-in-parts C plain others inputs rows is = rw (is.0, is.1)
    (ap (λ K. filter (holds (subquery_rows (rising K) inputs) (rest has_no_class C)) (filter (holds no_classes (part has_no_class C)) rows)) (names-of-rest C)
    ∙ sym (filter-twice (holds no_classes (part has_no_class C)) (holds (subquery_rows (classes_in C) inputs) (rest has_no_class C)) (holds (subquery_rows (classes_in C) inputs) C) (holds-parts (subquery_rows (classes_in C) inputs) C) rows))
