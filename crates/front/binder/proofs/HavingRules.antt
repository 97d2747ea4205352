-- A HAVING has no fault if what it names has none and what it compares goes together, and only so.
use Rattle.std.proofs.Common.{◌≡◌, refl, ap, sym, ◌∙◌, subst, ℕ, ◌+◌, true, List, [], ◌∷◌, ◌++◌, flat_map, length, map, slice_get, Option, Some, None, arith, append_assoc, append-nil, length-append}
use Rattle.std.specs.List.{AllByRecursion}
use Rattle.std.proofs.lemmas.Bool.{and_parts, and_from}
use Rattle.std.proofs.lemmas.Grind.{flat_map-append}
use Rattle.std.proofs.lemmas.List.{length-map}
use mathlib.Core.List.{map-append}
use Rattle.values.proofs.Lists.{slice_get_behind}
use Rattle.schema.specs.declared.schema.Kind.{Kind}
use Rattle.sql_parse.specs.declared.statement.HavingCondition.{HavingCondition}
use Rattle.sql_parse.specs.declared.statement.HavingCondition.TheVariants.{Compare, IsNull, Not, And, Or}
use Rattle.sql_parse.specs.declared.statement.HavingTerm.{HavingTerm}
use Rattle.sql_parse.specs.declared.statement.HavingTerm.TheVariants as written
use Rattle.sql_parse.specs.declared.statement.ItemValue.{ItemValue}
use Rattle.sql_parse.specs.declared.statement.Operator.{Operator}
use Rattle.binder.specs.declared.fault.BindReason.TheVariants.{MixedKinds}
use Rattle.binder.specs.Analyses.{condition_asked_faults, all_asked_faults, having_faults}
use Rattle.binder.specs.HavingShapes.{named, kind_at, all_fit, having_shape, having_fits, having_values}
use Rattle.binder.specs.Kinds.{are_comparable}
use Rattle.binder.specs.Parts.{asked_faults, asked_kind, item_kind, term_asked_faults, unless}
use Rattle.binder.specs.Scopes.{Scopes}
use Rattle.binder.proofs.AnalysisNumbers.{nil-parts}
use Rattle.binder.proofs.HavingEquations.{each-having, shape-Compare, shape-IsNull, shape-Not, shape-And, shape-Or, faults-Compare, faults-IsNull, faults-Not, faults-And, faults-Or}
use Rattle.binder.proofs.Requirements.{held, required, no-faults}

module _ (scopes : Scopes) (keys : List ℕ) where
  abbrev pub kinds_of : List ItemValue → List Kind
  kinds_of values = map (item_kind scopes) values

  abbrev values_of : List HavingCondition → List ItemValue
  values_of cs = flat_map (λ c. c.values) (map having_shape cs)

  -- ---- kinds by their places

  -- these values' kinds, behind some and before others
  abbrev within : List Kind → List ItemValue → List Kind → List Kind
  within front values back = front ++ (kinds_of values ++ back)

  within-left : (front : List Kind) (vs ws : List ItemValue) (back : List Kind) → within front (vs ++ ws) back ≡ within front vs (kinds_of ws ++ back)
  within-left front vs ws back = ap (λ ks. front ++ (ks ++ back)) (map-append (item_kind scopes) vs ws) ∙ ap (λ ks. front ++ ks) (append_assoc (kinds_of vs) (kinds_of ws) back)

  within-right : (front : List Kind) (vs ws : List ItemValue) (back : List Kind) → within front (vs ++ ws) back ≡ within (front ++ kinds_of vs) ws back
  within-right front vs ws back = within-left front vs ws back ∙ sym (append_assoc front (kinds_of vs) (kinds_of ws ++ back))

  behind-length : (front : List Kind) (values : List ItemValue) → length front + length values ≡ length (front ++ kinds_of values)
  behind-length front values = let long = length-append front (kinds_of values) in let same = length-map values (item_kind scopes) in omega (arith, long, same)

  kind-is : (a : HavingTerm) (front back : List Kind) → kind_at (within front (named a) back) (length front) a ≡ asked_kind scopes a
  kind-is (written.Column c) front back = slice_get_behind front (item_kind scopes (Rattle.sql_parse.specs.declared.statement.ItemValue.TheVariants.Column c)) back
  kind-is (written.Aggregate call) front back = slice_get_behind front (item_kind scopes (Rattle.sql_parse.specs.declared.statement.ItemValue.TheVariants.Aggregate call)) back
  kind-is (written.Literal v) front back = refl

  compared : (a b : HavingTerm) (front back : List Kind) → are_comparable (kind_at (within front (named a ++ named b) back) (length front) a) (kind_at (within front (named a ++ named b) back) (length front + length (named a)) b)
      ≡ are_comparable (asked_kind scopes a) (asked_kind scopes b)
  compared a b front back =
      ap (λ k. are_comparable k (kind_at (within front (named a ++ named b) back) (length front + length (named a)) b)) (ap (λ ks. kind_at ks (length front) a) (within-left front (named a) (named b) back) ∙ kind-is a front (kinds_of (named b) ++ back))
      ∙ ap (are_comparable (asked_kind scopes a)) (ap (λ ks. kind_at ks (length front + length (named a)) b) (within-right front (named a) (named b) back)
      ∙ ap (λ n. kind_at (within (front ++ kinds_of (named a)) (named b) back) n b) (behind-length front (named a)) ∙ kind-is b (front ++ kinds_of (named a)) back)

  -- ---- no fault

  abbrev Holds : HavingCondition → Type 0
  Holds c = condition_asked_faults c scopes keys ≡ []
      → (flat_map (asked_faults scopes keys) (having_shape c).values ≡ []) × ((front back : List Kind) → (having_shape c).fits (within front (having_shape c).values back) (length front) ≡ true)

  all-hold : (cs : List HavingCondition) → AllByRecursion Holds cs → all_asked_faults (map condition_asked_faults cs) scopes keys ≡ []
      → (flat_map (asked_faults scopes keys) (values_of cs) ≡ []) × ((front back : List Kind) → all_fit (map having_shape cs) (within front (values_of cs) back) (length front) ≡ true)
  all-hold [] each none = (refl, λ front back. refl)
  all-hold (c ∷ cs) each none =
      let parts = nil-parts (condition_asked_faults c scopes keys) _ none in
      let values = (having_shape c).values in
      let one = each.0 parts.0 in
      let others = all-hold cs each.1 parts.1 in (
        flat_map-append (asked_faults scopes keys) values (values_of cs) ∙ no-faults _ _ one.0 others.0,
        λ front back. and_from _ _ (ap (λ ks. (having_shape c).fits ks (length front)) (within-left front values (values_of cs) back) ∙ one.1 front (kinds_of (values_of cs) ++ back))
            (ap (λ ks. all_fit (map having_shape cs) ks (length front + length values)) (within-right front values (values_of cs) back)
            ∙ ap (all_fit (map having_shape cs) (within (front ++ kinds_of values) (values_of cs) back)) (behind-length front values) ∙ others.1 (front ++ kinds_of values) back),
      )

  pub condition-holds : (c : HavingCondition) → Holds c
  condition-holds = each-having Holds
      (λ a op b. rw (faults-Compare a op b, shape-Compare a op b) (λ none.
      let left = nil-parts (term_asked_faults scopes keys a) _ none in
      let right = nil-parts (term_asked_faults scopes keys b) _ left.1 in (
        flat_map-append (asked_faults scopes keys) (named a) (named b) ∙ no-faults _ _ left.0 right.0,
        λ front back. compared a b front back ∙ held _ _ op.at right.1,
      )))
      (λ a. rw (faults-IsNull a, shape-IsNull a) (λ none. (none, λ front back. refl)))
      (λ c is. rw (faults-Not c, shape-Not c) is)
      (λ cs each. rw (faults-And cs, shape-And cs) (all-hold cs each))
      (λ cs each. rw (faults-Or cs, shape-Or cs) (all-hold cs each))

  abbrev Only : HavingCondition → Type 0
  Only c = flat_map (asked_faults scopes keys) (having_shape c).values ≡ [] → (front back : List Kind) → (having_shape c).fits (within front (having_shape c).values back) (length front) ≡ true → condition_asked_faults c scopes keys ≡ []

  all-only : (cs : List HavingCondition) → AllByRecursion Only cs → flat_map (asked_faults scopes keys) (values_of cs) ≡ [] → (front back : List Kind) → all_fit (map having_shape cs) (within front (values_of cs) back) (length front) ≡ true
      → all_asked_faults (map condition_asked_faults cs) scopes keys ≡ []
  all-only [] each none front back fit = refl
  all-only (c ∷ cs) each none front back fit =
      let values = (having_shape c).values in
      let parts = nil-parts (flat_map (asked_faults scopes keys) values) _ (sym (flat_map-append (asked_faults scopes keys) values (values_of cs)) ∙ none) in
      let both = and_parts ((having_shape c).fits (within front (values ++ values_of cs) back) (length front)) _ fit in
      no-faults _ _ (each.0 parts.0 front (kinds_of (values_of cs) ++ back) (sym (ap (λ ks. (having_shape c).fits ks (length front)) (within-left front values (values_of cs) back)) ∙ both.0))
      (all-only cs each.1 parts.1 (front ++ kinds_of values) back
      (sym (ap (λ ks. all_fit (map having_shape cs) ks (length front + length values)) (within-right front values (values_of cs) back)
      ∙ ap (all_fit (map having_shape cs) (within (front ++ kinds_of values) (values_of cs) back)) (behind-length front values)) ∙ both.1))

  pub condition-only : (c : HavingCondition) → Only c
  condition-only = each-having Only
      (λ a op b. rw (faults-Compare a op b, shape-Compare a op b) (λ none front back fit.
      let parts = nil-parts (flat_map (asked_faults scopes keys) (named a)) _ (sym (flat_map-append (asked_faults scopes keys) (named a) (named b)) ∙ none) in
      no-faults _ _ parts.0 (no-faults _ _ parts.1 (required _ _ op.at (sym (compared a b front back) ∙ fit)))))
      (λ a. rw (faults-IsNull a, shape-IsNull a) (λ none front back fit. none))
      (λ c is. rw (faults-Not c, shape-Not c) is)
      (λ cs each. rw (faults-And cs, shape-And cs) (all-only cs each))
      (λ cs each. rw (faults-Or cs, shape-Or cs) (all-only cs each))

  -- ---- a HAVING, if there is one

  pub having-holds : (having : Option HavingCondition) → having_faults scopes keys having ≡ [] → (flat_map (asked_faults scopes keys) (having_values having) ≡ []) × (having_fits (kinds_of (having_values having)) having ≡ true)
  having-holds None none = (refl, refl)
  having-holds (Some h) none =
      let parts = condition-holds h none in
      (parts.0, ap (λ ks. (having_shape h).fits ks 0) (sym (append-nil (kinds_of (having_shape h).values))) ∙ parts.1 [] [])

  pub having-quiet : (having : Option HavingCondition) → flat_map (asked_faults scopes keys) (having_values having) ≡ [] → having_fits (kinds_of (having_values having)) having ≡ true → having_faults scopes keys having ≡ []
  having-quiet None none fit = refl
  having-quiet (Some h) none fit = condition-only h none [] [] (ap (λ ks. (having_shape h).fits ks 0) (append-nil (kinds_of (having_shape h).values)) ∙ fit)
