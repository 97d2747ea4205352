-- Plans of which conditions ask only whether they have a row.
use Rattle.std.proofs.Common.{◌≡◌, refl, ap, sym, ◌∙◌, subst, ℕ, zero, suc, ◌==◌, Bool, true, false, true≢false, not, ◌&&◌, if◌then◌else◌, List, [], ◌∷◌, ◌++◌, length, get_or, map, slice_get, take, Some, arith}
use Rattle.std.specs.List.{list_all}
use Rattle.std.proofs.lemmas.Bool.{and_parts, eq-eqb, eqb-true, not_from_true}
use Rattle.values.specs.declared.truth.Comparison.TheVariants as by
use Rattle.values.specs.Truth.{negation, truth_of, is_true, compare}
use Rattle.query.specs.Meaning.{all_of, any_of}
use Rattle.algebra.specs.declared.condition.Condition.{Condition, roll-Condition, ind-Condition, map-Condition}
use Rattle.algebra.specs.declared.condition.Condition.TheVariants.{rolls-Compare, rolls-IsNull, rolls-Not, rolls-And, rolls-Or, rolls-Exists, rolls-In}
use Rattle.algebra.specs.declared.condition.Condition.TheOpen.{Condition-F}
use Rattle.algebra.specs.Bags.{Bag, Env, lay}
use Rattle.algebra.specs.Columns.{has}
use Rattle.algebra.specs.Conditions.{truth, term_value, holds}
use Rattle.algebra.proofs.Lists.{two}
use Rattle.algebra.proofs.Truths.{truth-Compare, truth-IsNull, truth-Not, truth-And, truth-Or, truth-Exists, truth-In}
use Rattle.physical.specs.Outputs.{Output, subquery_rows}
use Rattle.operators.specs.Existence.{all_looked_up, ask_existence, asks_existence, asked_output, asked_outputs, existence_output, has_some}
use Rattle.operators.specs.RowReadings.{AreReadings, IsReading}
use Rattle.operators.proofs.AskedExistence.{asks-at}
use Rattle.operators.proofs.SomeRows.{some-map, some-rows}

-- ---- what they read

one-or-none : (b c : Bool) (e d : Env) → c ≡ b → (if c then d ∷ [] else []) ≡ map (λ r. lay (has []) r d) (if b then e ∷ [] else [])
one-or-none true c e d same = ap (λ b. if b then d ∷ [] else []) same
one-or-none false c e d same = ap (λ b. if b then d ∷ [] else []) same

existence-reading : (x : Output) (K : List ℕ) → IsReading x K → IsReading (existence_output x) K
existence-reading x K fits e d same = one-or-none (has_some (x.rows e)) (has_some (x.rows d)) e d (ap has_some (fits e d same) ∙ some-map (λ r. lay (has x.columns) r d) (x.rows e))

asked-reading : (b : Bool) (x : Output) (K : List ℕ) → IsReading x K → IsReading (asked_output b x) K
asked-reading true x K is = existence-reading x K is
asked-reading false x K is = is

pub asked-readings : (only : List Bool) (inputs : List Output) (reads : List (List ℕ)) → AreReadings inputs reads → AreReadings (asked_outputs only inputs) reads
asked-readings [] inputs reads all = all
asked-readings (b ∷ only) [] reads all = all
asked-readings (b ∷ only) (x ∷ inputs) [] all = absurd all
asked-readings (b ∷ only) (x ∷ inputs) (K ∷ reads) all = (asked-reading b x K all.0, asked-readings only inputs reads all.1)

-- ---- each of them

pub asked-length : (only : List Bool) (inputs : List Output) → length (asked_outputs only inputs) ≡ length inputs
asked-length [] inputs = refl
asked-length (b ∷ only) [] = refl
asked-length (b ∷ only) (x ∷ inputs) = let rest = asked-length only inputs in omega (arith, rest)

pub asked-at : (only : List Bool) (inputs : List Output) (i : ℕ) (x : Output) → slice_get inputs i ≡ Some x → slice_get (asked_outputs only inputs) i ≡ Some (asked_output (get_or only i false) x)
asked-at [] inputs i x at = at
asked-at (b ∷ only) [] i x at = cc
asked-at (b ∷ only) (y ∷ inputs) zero x at = let same : y ≡ x = cc in ap (λ z. Some (asked_output b z)) same
asked-at (b ∷ only) (y ∷ inputs) (suc i) x at = asked-at only inputs i x at

pub take-next : {X : Type 0} (xs : List X) (i : ℕ) (x : X) → slice_get xs i ≡ Some x → take (suc i) xs ≡ take i xs ++ x ∷ []
take-next [] i x at = cc
take-next (y ∷ xs) zero x at = let same : y ≡ x = cc in ap (λ z. z ∷ []) same
take-next (y ∷ xs) (suc i) x at = ap (λ l. y ∷ l) (take-next xs i x at)

-- ---- what conditions ask

-- classes of whose rows is asked only whether there are any may have others
module _ (q : ℕ → Bool) (W V : ℕ → Bag) (r : Env) (some : (g : ℕ) → has_some (W g r) ≡ has_some (V g r)) (same : (g : ℕ) → q g ≡ false → W g r ≡ V g r) where
  abbrev Asked : Condition → Type 0
  Asked c = (g : ℕ) → q g ≡ true → asks_existence g c ≡ true

  abbrev SameAt : Condition → Type 0
  SameAt c = Asked c → truth c W r ≡ truth c V r

  abbrev Proved : Type 0
  Proved = Condition-F ((c : Condition) × SameAt c)

  abbrev plain : Proved → Condition-F Condition
  plain = map-Condition _ Condition (λ c. c.0)

  abbrev other : ℕ → ℕ → Bool
  other g h = not (h == g)

  all-parts : (cs : List ((c : Condition) × SameAt c)) → ((g : ℕ) → q g ≡ true → list_all (λ c. c (other g)) (map all_looked_up (map (λ c. c.0) cs)) ≡ true)
      → map (λ c. truth c W r) (map (λ c. c.0) cs) ≡ map (λ c. truth c V r) (map (λ c. c.0) cs)
  all-parts [] asked = refl
  all-parts (c ∷ cs) asked = two (λ x xs. x ∷ xs) (c.1 (λ g is. (and_parts _ _ (asked g is)).0)) (all-parts cs (λ g is. (and_parts _ _ (asked g is)).1))

  same-class : (g : ℕ) (b : Bool) → q g ≡ b → (q g ≡ true → not (g == g) ≡ true) → W g r ≡ V g r
  same-class g true is asked = absurd (true≢false (sym (asked is) ∙ not_from_true (g == g) (eq-eqb g g refl)))
  same-class g false is asked = same g is

  same-layer : (y : Proved) → SameAt (roll-Condition (plain y))
  same-layer (Condition-F.Compare op a b) asked = subst (λ c. truth c W r ≡ truth c V r) (sym (rolls-Compare op a b)) (truth-Compare op a b W r ∙ sym (truth-Compare op a b V r))
  same-layer (Condition-F.IsNull a) asked = subst (λ c. truth c W r ≡ truth c V r) (sym (rolls-IsNull a)) (truth-IsNull a W r ∙ sym (truth-IsNull a V r))
  same-layer (Condition-F.Not c) asked =
      let part = c.1 (λ g is. sym (asks-at (Condition-F.Not c.0) _ g refl) ∙ asked g is) in
      subst (λ c. truth c W r ≡ truth c V r) (sym (rolls-Not c.0)) (truth-Not c.0 W r ∙ ap negation part ∙ sym (truth-Not c.0 V r))
  same-layer (Condition-F.And a b cs) asked =
      let parts = all-parts (a ∷ b ∷ cs) (λ g is. sym (asks-at (Condition-F.And a.0 b.0 (map (λ c. c.0) cs)) _ g refl) ∙ asked g is) in
      subst (λ c. truth c W r ≡ truth c V r) (sym (rolls-And a.0 b.0 (map (λ c. c.0) cs))) (truth-And a.0 b.0 (map (λ c. c.0) cs) W r ∙ ap all_of parts ∙ sym (truth-And a.0 b.0 (map (λ c. c.0) cs) V r))
  same-layer (Condition-F.Or a b cs) asked =
      let parts = all-parts (a ∷ b ∷ cs) (λ g is. sym (asks-at (Condition-F.Or a.0 b.0 (map (λ c. c.0) cs)) _ g refl) ∙ asked g is) in
      subst (λ c. truth c W r ≡ truth c V r) (sym (rolls-Or a.0 b.0 (map (λ c. c.0) cs))) (truth-Or a.0 b.0 (map (λ c. c.0) cs) W r ∙ ap any_of parts ∙ sym (truth-Or a.0 b.0 (map (λ c. c.0) cs) V r))
  same-layer (Condition-F.Exists g) asked =
      subst (λ c. truth c W r ≡ truth c V r) (sym (rolls-Exists g)) (truth-Exists g W r ∙ ap truth_of (some-rows (W g r) ∙ some g ∙ sym (some-rows (V g r))) ∙ sym (truth-Exists g V r))
  same-layer (Condition-F.In a g k) asked =
      let rows = same-class g (q g) refl (λ is. sym (asks-at (Condition-F.In a g k) _ g refl) ∙ asked g is) in
      subst (λ c. truth c W r ≡ truth c V r) (sym (rolls-In a g k)) (truth-In a g k W r ∙ ap (λ rows. any_of (map (λ s. compare by.Equal (term_value a r) (s k)) rows)) rows ∙ sym (truth-In a g k V r))

  same-truth : (c : Condition) → SameAt c
  same-truth = ind-Condition SameAt (λ x y is. subst (λ z. SameAt (roll-Condition z)) is (same-layer y))

  same-all : (C : List Condition) → ((g : ℕ) → q g ≡ true → ask_existence C g ≡ true) → holds W C r ≡ holds V C r
  same-all [] asked = refl
  same-all (c ∷ C) asked = two (λ a b. a && b) (ap is_true (same-truth c (λ g is. (and_parts _ _ (asked g is)).0))) (same-all C (λ g is. (and_parts _ _ (asked g is)).1))

asked-some : (b : Bool) (x : Output) (r : Env) → has_some ((asked_output b x).rows r) ≡ has_some (x.rows r)
asked-some true x r = by (has_some (x.rows r))
  where
    by : (c : Bool) → has_some (if c then r ∷ [] else []) ≡ c
    by true = refl
    by false = refl
asked-some false x r = refl

some-class : (classes : List ℕ) (only : List Bool) (inputs : List Output) (r : Env) (g : ℕ) → has_some (subquery_rows classes (asked_outputs only inputs) g r) ≡ has_some (subquery_rows classes inputs g r)
some-class [] only inputs r g = refl
some-class (h ∷ classes) [] inputs r g = refl
some-class (h ∷ classes) (b ∷ only) [] r g = refl
some-class (h ∷ classes) (b ∷ only) (x ∷ inputs) r g = by (h == g) (some-class classes only inputs r g)
  where
    by : (c : Bool) → has_some (subquery_rows classes (asked_outputs only inputs) g r) ≡ has_some (subquery_rows classes inputs g r)
        → has_some ((if c then (asked_output b x).rows else subquery_rows classes (asked_outputs only inputs) g) r) ≡ has_some ((if c then x.rows else subquery_rows classes inputs g) r)
    by true later = asked-some b x r
    by false later = later

same-class-rows : (q : ℕ → Bool) (classes : List ℕ) (inputs : List Output) (r : Env) (g : ℕ) → q g ≡ false → subquery_rows classes (asked_outputs (map q classes) inputs) g r ≡ subquery_rows classes inputs g r
same-class-rows q [] inputs r g off = refl
same-class-rows q (h ∷ classes) [] r g off = refl
same-class-rows q (h ∷ classes) (x ∷ inputs) r g off = by (h == g) refl (same-class-rows q classes inputs r g off)
  where
    by : (c : Bool) → (h == g) ≡ c → subquery_rows classes (asked_outputs (map q classes) inputs) g r ≡ subquery_rows classes inputs g r
        → (if c then (asked_output (q h) x).rows else subquery_rows classes (asked_outputs (map q classes) inputs) g) r ≡ (if c then x.rows else subquery_rows classes inputs g) r
    by true is later = ap (λ b. (asked_output b x).rows r) (ap q (eqb-true h g is) ∙ off)
    by false is later = later

-- conditions hold where each of their classes has what they ask of it
pub asked-holds : (C : List Condition) (classes : List ℕ) (only : List Bool) (inputs : List Output) (r : Env) → only ≡ map (ask_existence C) classes → holds (subquery_rows classes (asked_outputs only inputs)) C r ≡ holds (subquery_rows classes inputs) C r
asked-holds C classes only inputs r is =
    ap (λ flags. holds (subquery_rows classes (asked_outputs flags inputs)) C r) is
    ∙ same-all (ask_existence C) (subquery_rows classes (asked_outputs (map (ask_existence C) classes) inputs)) (subquery_rows classes inputs) r (some-class classes (map (ask_existence C) classes) inputs r) (same-class-rows (ask_existence C) classes inputs r) C (λ g asked. asked)
