-- When a subquery is true at a row: by the rows of a class of which its own are a part.
use Rattle.std.proofs.Common.{◌≡◌, refl, ap, sym, ◌∙◌, ℕ, Bool, true, false, not, ◌&&◌, ◌||◌, List, [], ◌∷◌, map, fold}
use Rattle.std.specs.List.{list_any}
use Rattle.std.proofs.lemmas.Bool.{and_parts, not-true}
use Rattle.std.proofs.lemmas.List.Folds.{list_all-map}
use Rattle.values.specs.declared.truth.Comparison.TheVariants as by_
use Rattle.values.specs.declared.truth.Truth.{Truth}
use Rattle.values.specs.declared.truth.Truth.TheVariants as be
use Rattle.values.specs.Truth.{is_true, negation, disjunction, truth_of, compare}
use Rattle.query.specs.Meaning.{any_of}
use Rattle.algebra.specs.declared.condition.Condition.{Condition}
use Rattle.algebra.specs.declared.condition.Condition.TheVariants.{Compare, Not, Exists, In}
use Rattle.algebra.specs.declared.condition.Term.{Term}
use Rattle.algebra.specs.declared.condition.Term.TheVariants as term
use Rattle.algebra.specs.Bags.{Env, Bag, SameBag, lay, select}
use Rattle.algebra.specs.Columns.{has, are_disjoint}
use Rattle.algebra.specs.Conditions.{truth, holds, allows, is_empty, term_columns, term_value}
use Rattle.algebra.specs.ConjunctParts.{union}
use Rattle.algebra.proofs.ConjunctLists.{conjuncts-one}
use Rattle.algebra.proofs.ConjunctSplits.{union_holds}
use Rattle.algebra.proofs.ConnectiveParts.{conjuncts-hold}
use Rattle.algebra.proofs.SameConditions.{any_of-same, is_empty-same}
use Rattle.algebra.proofs.Truths.{truth-Compare, truth-Not, truth-And, truth-Exists, truth-In, allowed-all}
use Rattle.laws.proofs.Ignored.{off}
use Rattle.subquery_rules.specs.Unnesting.{equated}
use Rattle.subquery_rules.proofs.FoundRows.{At, some-filtered}

-- ---- OR of a list

abbrev pub isnt_false : Truth → Bool
isnt_false t = not (is_true (negation t))

-- a test that OR passes where a side does
module _ (u : Truth → Bool) (none : u be.False ≡ false) (either : (a b : Truth) → u (disjunction a b) ≡ (u a || u b)) where
  passes-from : (a : Truth) (ts : List Truth) → u (fold disjunction a ts) ≡ (u a || list_any u ts)
  passes-from a [] = by (u a)
    where
      by : (b : Bool) → b ≡ (b || false)
      by true = refl
      by false = refl
  passes-from a (t ∷ ts) = passes-from (disjunction a t) ts ∙ ap (λ b. b || list_any u ts) (either a t) ∙ by (u a)
    where
      by : (b : Bool) → ((b || u t) || list_any u ts) ≡ (b || (u t || list_any u ts))
      by true = refl
      by false = refl

  -- so it passes an OR over rows where it passes one
  pub any_of-passes : (h : Env → Truth) (rows : List Env) → u (any_of (map h rows)) ≡ list_any (λ s. u (h s)) rows
  any_of-passes h rows = passes-from be.False (map h rows) ∙ ap (λ b. b || list_any u (map h rows)) none ∙ mapped rows
    where
      mapped : (rows : List Env) → list_any u (map h rows) ≡ list_any (λ s. u (h s)) rows
      mapped [] = refl
      mapped (s ∷ rows) = ap (λ b. u (h s) || b) (mapped rows)

pub true-either : (a b : Truth) → is_true (disjunction a b) ≡ (is_true a || is_true b)
true-either be.True b = refl
true-either be.Unknown be.True = refl
true-either be.Unknown be.Unknown = refl
true-either be.Unknown be.False = refl
true-either be.False b = refl

pub isnt_false-either : (a b : Truth) → isnt_false (disjunction a b) ≡ (isnt_false a || isnt_false b)
isnt_false-either be.True b = refl
isnt_false-either be.Unknown be.True = refl
isnt_false-either be.Unknown be.Unknown = refl
isnt_false-either be.Unknown be.False = refl
isnt_false-either be.False b = refl

-- ---- the four subqueries

-- there is a row where a test that none fails finds one
pub has-row : (rows : List Env) → not (is_empty rows) ≡ list_any (λ s. true) rows
has-row [] = refl
has-row (s ∷ rows) = refl

module _ (W : ℕ → Bag) (g b : ℕ) (P : List Condition) (part : SameBag (W g) (select (holds W P) (W b))) where
  -- the rows of the class that the conditions hold with
  abbrev those : Env → List Env
  those r = select (holds W P) (W b) r

  found : (r : Env) → not (is_empty (W g r)) ≡ list_any (λ s. holds W P s && true) (W b r)
  found r = ap not (is_empty-same _ _ (part r)) ∙ has-row (those r) ∙ some-filtered (holds W P) (λ s. true) (W b r)

  abbrev pub ask_any : At
  ask_any r s = holds W P s && true

  pub exists-true : (r : Env) → is_true (truth (Exists g) W r) ≡ list_any (ask_any r) (W b r)
  exists-true r = ap is_true (truth-Exists g W r) ∙ told (not (is_empty (W g r))) ∙ found r
    where
      told : (v : Bool) → is_true (truth_of v) ≡ v
      told true = refl
      told false = refl

  pub not_exists-true : (r : Env) → is_true (truth (Not (Exists g)) W r) ≡ not (list_any (ask_any r) (W b r))
  not_exists-true r = ap is_true (truth-Not (Exists g) W r ∙ ap negation (truth-Exists g W r)) ∙ told (not (is_empty (W g r))) ∙ ap not (found r)
    where
      told : (v : Bool) → is_true (negation (truth_of v)) ≡ not v
      told true = refl
      told false = refl

  module _ (t : Term) (k : ℕ) where
    -- the term at the row, and the column in the subquery's row
    abbrev equal : Env → Env → Truth
    equal r s = compare by_.Equal (term_value t r) (s k)

    abbrev pub ask_equal : At
    ask_equal r s = holds W P s && is_true (equal r s)

    -- it may be equal: it is, or one side is Null
    abbrev pub ask_maybe : At
    ask_maybe r s = holds W P s && isnt_false (equal r s)

    among : (r : Env) → truth (In t g k) W r ≡ any_of (map (equal r) (those r))
    among r = truth-In t g k W r ∙ any_of-same (equal r) _ _ (part r)

    pub in-true : (r : Env) → is_true (truth (In t g k) W r) ≡ list_any (ask_equal r) (W b r)
    in-true r = ap is_true (among r) ∙ any_of-passes is_true refl true-either (equal r) (those r) ∙ some-filtered (holds W P) (λ s. is_true (equal r s)) (W b r)

    pub not_in-true : (r : Env) → is_true (truth (Not (In t g k)) W r) ≡ not (list_any (ask_maybe r) (W b r))
    not_in-true r =
        ap is_true (truth-Not (In t g k) W r ∙ ap negation (among r))
        ∙ twice (is_true (negation (any_of (map (equal r) (those r)))))
        ∙ ap not (any_of-passes isnt_false refl isnt_false-either (equal r) (those r) ∙ some-filtered (holds W P) (λ s. isnt_false (equal r s)) (W b r))
      where
        twice : (v : Bool) → v ≡ not (not v)
        twice true = refl
        twice false = refl

-- ---- the same of a row of the class laid over the row

-- a term that is no column of the class is read at the row
term-outside : (t : Term) (B : List ℕ) → are_disjoint (term_columns t) B ≡ true → (s r : Env) → term_value t (lay (has B) s r) ≡ term_value t r
term-outside (term.Column c) B apart s r = off (has B) s r c (not-true _ (and_parts _ _ apart).0)
term-outside (term.Literal v) B apart s r = refl

module _ (W : ℕ → Bag) (P : List Condition) (B : List ℕ) (t : Term) (k : ℕ) (apart : are_disjoint (term_columns t) B ≡ true) where
  abbrev equality : Condition
  equality = Compare by_.Equal t (term.Column k)

  laid : (r s : Env) → compare by_.Equal (term_value t r) (lay (has B) s r k) ≡ truth equality W (lay (has B) s r)
  laid r s = ap (λ v. compare by_.Equal v (lay (has B) s r k)) (sym (term-outside t B apart s r)) ∙ sym (truth-Compare by_.Equal t (term.Column k) W (lay (has B) s r))

  pub equal-laid : (r s : Env) → (holds W P (lay (has B) s r) && is_true (compare by_.Equal (term_value t r) (lay (has B) s r k))) ≡ holds W (union P (equated (t, k))) (lay (has B) s r)
  equal-laid r s =
      ap (λ v. holds W P (lay (has B) s r) && v) (ap is_true (laid r s) ∙ sym (conjuncts-hold equality W (lay (has B) s r)))
      ∙ sym (union_holds W P (equated (t, k)) (lay (has B) s r))

  allowed : (w : Env) → allows W (equated (t, k)) w ≡ isnt_false (truth equality W w)
  allowed w = conjuncts-one (λ d. isnt_false (truth d W w))
      (λ a c ds. ap isnt_false (truth-And a c ds W w) ∙ allowed-all (map (λ d. truth d W w) (a ∷ c ∷ ds)) ∙ list_all-map isnt_false (λ d. truth d W w) (a ∷ c ∷ ds)) equality

  pub maybe-laid : (r s : Env) → (holds W P (lay (has B) s r) && isnt_false (compare by_.Equal (term_value t r) (lay (has B) s r k)))
      ≡ (holds W P (lay (has B) s r) && allows W (equated (t, k)) (lay (has B) s r))
  maybe-laid r s = ap (λ v. holds W P (lay (has B) s r) && v) (ap isnt_false (laid r s) ∙ sym (allowed (lay (has B) s r)))
