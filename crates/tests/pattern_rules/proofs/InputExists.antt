-- Where a selection or a projection has a row, so has what it is made of: its laws.
use Rattle.std.proofs.Common.{◌≡◌, refl, ap, sym, ◌∙◌, Bool, true, false, not, ◌&&◌, ℕ, List, [], ◌∷◌, map, filter, Result, Ok}
use Rattle.values.specs.Faults.{wanted_if}
use Rattle.values.specs.Truth.{is_true, truth_of}
use Rattle.algebra.specs.declared.condition.Condition.{Condition}
use Rattle.algebra.specs.declared.condition.Condition.TheVariants.{Exists}
use Rattle.algebra.specs.declared.expr.Expr.TheVariants.{Select, Keep}
use Rattle.algebra.specs.Bags.{Env, Test, Bag, SameBag, lay}
use Rattle.algebra.specs.Columns.{has}
use Rattle.algebra.specs.Conditions.{truth, holds, is_empty}
use Rattle.algebra.specs.ConditionEquality.{same_condition}
use Rattle.algebra.specs.ConjunctOrder.{conjuncts}
use Rattle.algebra.specs.ConjunctParts.{union}
use Rattle.algebra.specs.Expressions.{is_query_column}
use Rattle.algebra.proofs.ConditionNames.{classes-Exists, columns-Exists}
use Rattle.algebra.proofs.ConjunctSplits.{union_holds}
use Rattle.algebra.proofs.ConnectiveParts.{conjuncts-hold, conjuncts-classes, conjuncts-columns}
use Rattle.algebra.proofs.Same.{equal_condition}
use Rattle.algebra.proofs.SameBags.{select-same}
use Rattle.algebra.proofs.SameConditions.{is_empty-same}
use Rattle.algebra.proofs.Truths.{truth-Exists}
use Rattle.props.specs.Knowledge.{Knowledge, with_rows}
use Rattle.rules.specs.declared.pattern.Operator.TheVariants as operator
use Rattle.rules.specs.declared.pattern.Operators.TheVariants.{Either}
use Rattle.rules.specs.declared.shape.Shape.{Shape}
use Rattle.rules.specs.declared.shape.Shape.TheVariants as shape
use Rattle.rules.specs.declared.unfit.Unfit.{Unfit}
use Rattle.rules.specs.declared.unfit.Unfit.TheVariants.{Pattern}
use Rattle.rules.specs.Bindings.{SubqueryPick}
use Rattle.rules.specs.Soundness.{World, IsSound}
use Rattle.rules.specs.Formed.{IsFormed}
use Rattle.rules.specs.Patterns.{KeepsTo}
use Rattle.rules.specs.Stability.{IsStable}
use Rattle.rules.proofs.BoundForms.{IsPicked, selection}
use Rattle.rules.proofs.FormedBindings.{SubqueryLineIsFormed, subquery_line-formed}
use Rattle.rules.proofs.FormedLines.{Site, MayStand, Is, given-is, first-founded, select-are, class-stands, select-stands, union-are}
use Rattle.rules.proofs.MatchedLines.{given, rows_of, shape_rows}
use Rattle.rules.proofs.PatternedBindings.{LineKeepsTo, subquery_line-keeps}
use Rattle.rules.proofs.Picks.{condition-passes}
use Rattle.rules.proofs.ShapeMeanings.{class-is, select-is, has-bag}
use Rattle.rules.proofs.SoundBindings.{SubqueryLineIsSound, subquery_line-sound}
use Rattle.rules.proofs.StableBindings.{SubqueryLineIsStable, subquery_line-stable}
use Rattle.pattern_rules.specs.InputExists as spec

-- what is given, and why
tested : (b : Bool) (t s : Shape) → wanted_if Pattern b t ≡ Ok s → (b ≡ true) × (◌≡◌ {A = Result Shape Unfit} (Ok t) (Ok s))
tested true t s is = (refl, is)
tested false t s is = cc

-- EXISTS of the class at a row
has_row : (W : ℕ → Bag) (g : ℕ) (r : Env) → is_true (truth (Exists g) W r) ≡ not (is_empty (W g r))
has_row W g r = ap is_true (truth-Exists g W r) ∙ by (not (is_empty (W g r)))
  where
    by : (b : Bool) → is_true (truth_of b) ≡ b
    by true = refl
    by false = refl

filtered : (p : Test) (xs : List Env) → not (is_empty (filter p xs)) ≡ true → not (is_empty xs) ≡ true
filtered p [] some = cc
filtered p (x ∷ xs) some = refl

mapped : (f : Env → Env) (xs : List Env) → not (is_empty (map f xs)) ≡ true → not (is_empty xs) ≡ true
mapped f [] some = cc
mapped f (x ∷ xs) some = refl

-- with what follows from it a list holds where it held
followed : (a b : Bool) → (a ≡ true → b ≡ true) → a ≡ (a && b)
followed true b follows = sym (follows refl)
followed false b follows = refl

-- the conjuncts with EXISTS of the class
abbrev more : SubqueryPick → ℕ → List Condition
more p y = union p.conjuncts (conjuncts (Exists y ∷ []))

-- each row of the subquery's class is made of one of the other
abbrev IsMadeOf : World → ℕ → ℕ → Type 0
IsMadeOf W g y = (r : Env) → not (is_empty (W.rows g r)) ≡ true → not (is_empty (W.rows y r)) ≡ true

exists-sound : (K : Knowledge) (W : World) (p : SubqueryPick) (y : ℕ) (s : Shape) → IsPicked p → IsMadeOf W p.class y → spec.exists_too p y ≡ Ok s → SameBag (rows_of K W (selection p)) (shape_rows K W s)
exists-sound K W p y s picked made is =
    given K W _ _ s done.1 (has-bag (with_rows K W.rows) _ _ _ (select-is _ (more p y) _ _ (class-is _ p.input))
    (select-same (holds W.rows p.conjuncts) (holds W.rows (more p y)) _ _ each (λ e f. refl)))
  where
    done : (same_condition p.condition (Exists p.class) ≡ true) × (◌≡◌ {A = Result Shape Unfit} (Ok (shape.Select (more p y) (shape.Class p.input))) (Ok s))
    done = tested (same_condition p.condition (Exists p.class)) _ s is

    follows : (r : Env) → holds W.rows p.conjuncts r ≡ true → is_true (truth (Exists y) W.rows r) ≡ true
    follows r all =
        let here : is_true (truth p.condition W.rows r) ≡ true = condition-passes (λ c. is_true (truth c W.rows r)) p picked all in
        has_row W.rows y r
        ∙ made r (sym (has_row W.rows p.class r) ∙ ap (λ c. is_true (truth c W.rows r)) (sym (equal_condition p.condition (Exists p.class) done.0)) ∙ here)

    each : (r : Env) → holds W.rows p.conjuncts r ≡ holds W.rows (more p y) r
    each r =
        followed (holds W.rows p.conjuncts r) (is_true (truth (Exists y) W.rows r)) (follows r)
        ∙ ap (λ b. holds W.rows p.conjuncts r && b) (sym (conjuncts-hold (Exists y) W.rows r)) ∙ sym (union_holds W.rows p.conjuncts (conjuncts (Exists y ∷ [])) r)

with_input-sound : SubqueryLineIsSound spec.with_input
with_input-sound K W p (Select D y) s stands picked of is =
    exists-sound K W p y s picked (λ r some. filtered (holds W.rows D) (W.rows y r) (ap not (sym (is_empty-same _ _ (of.rows r))) ∙ some)) is
with_input-sound K W p (Keep L y) s stands picked of is =
    exists-sound K W p y s picked (λ r some. mapped (λ t. lay (has L) t r) (W.rows y r) (ap not (sym (is_empty-same _ _ (of.rows r))) ∙ some)) is
with_input-sound K W p x s stands picked of is = cc

pub input_exists_sound : IsSound spec.input_exists
input_exists_sound = subquery_line-sound spec.with_input with_input-sound

-- ---- its pattern

with_input-keeps : LineKeepsTo (Either operator.Select operator.Keep) spec.with_input
with_input-keeps K p (Select D y) other = cc
with_input-keeps K p (Keep L y) other = cc
with_input-keeps K p x other = refl

pub input_exists_keeps : KeepsTo spec.pattern spec.input_exists
input_exists_keeps = subquery_line-keeps (Either operator.Select operator.Keep) spec.with_input with_input-keeps

-- ---- what it gives is well formed

exists-formed : (S : Site) (p : SubqueryPick) (y : ℕ) (s : Shape) → MayStand S (selection p) → S.founds y ≡ true → spec.exists_too p y ≡ Ok s → Is S s (S.classes.columns p.input)
exists-formed S p y s stands known is =
    given-is S _ s _ _ (tested (same_condition p.condition (Exists p.class)) _ s is).1 refl
    (select-stands S (more p y) _ _ (class-stands S p.input (first-founded S p.input _ stands.known))
    (union-are S p.conjuncts (conjuncts (Exists y ∷ [])) (select-are S p.conjuncts p.input stands) (record {
      known = conjuncts-classes (Exists y) S.founds ∙ classes-Exists y S.founds ∙ known;
      named = conjuncts-columns (Exists y) (is_query_column S.instances S.own) ∙ columns-Exists y (is_query_column S.instances S.own);
    })))

with_input-formed : SubqueryLineIsFormed spec.with_input
with_input-formed S p (Select D y) s stands picked of is = exists-formed S p y s stands (first-founded S y _ of.stands.known) is
with_input-formed S p (Keep L y) s stands picked of is = exists-formed S p y s stands (first-founded S y _ of.stands.known) is
with_input-formed S p x s stands picked of is = cc

pub input_exists_formed : IsFormed spec.input_exists
input_exists_formed = subquery_line-formed spec.with_input with_input-formed

-- ---- it depends on the classes that its lines name

with_input-stable : SubqueryLineIsStable spec.with_input
with_input-stable q K L agree p (Select D y) known picked next = refl
with_input-stable q K L agree p (Keep M y) known picked next = refl
with_input-stable q K L agree p x known picked next = refl

pub input_exists_stable : IsStable spec.input_exists
input_exists_stable = subquery_line-stable spec.with_input with_input-stable
