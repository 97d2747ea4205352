-- What a HAVING becomes names places of its row alone, and lists nothing.
use Rattle.std.proofs.Common.{◌≡◌, refl, ap, sym, ◌∙◌, ℕ, ◌+◌, ◌≤◌, true, List, [], ◌∷◌, ◌++◌, flat_map, length, map, arith, length-append}
use Rattle.std.specs.List.{AllByRecursion, list_all}
use Rattle.std.proofs.lemmas.Bool.{and_from, lt-ltb}
use Rattle.sql_parse.specs.declared.statement.HavingCondition.{HavingCondition}
use Rattle.sql_parse.specs.declared.statement.HavingCondition.TheVariants.{Compare, IsNull, Not, And, Or}
use Rattle.sql_parse.specs.declared.statement.HavingTerm.{HavingTerm}
use Rattle.sql_parse.specs.declared.statement.HavingTerm.TheVariants as written
use Rattle.sql_parse.specs.declared.statement.ItemValue.{ItemValue}
use Rattle.sql_parse.specs.declared.statement.Operator.{Operator}
use Rattle.query.specs.declared.query.Cond.{Cond}
use Rattle.query.specs.declared.query.Cond.TheVariants as cond
use Rattle.query.specs.declared.query.TableInstance.{TableInstance}
use Rattle.query.specs.Bound.{cond_scope, bound_term}
use Rattle.query.proofs.ScopeEquations.{scope-Compare, scope-IsNull, scope-Not, scope-And, scope-Or}
use Rattle.binder.specs.HavingShapes.{HavingShape, named, term_at, all_at, having_shape}
use Rattle.binder.specs.TextNumbers.{no_listing, all_listings, cond_listing}
use Rattle.binder.proofs.HavingEquations.{each-having, shape-Compare, shape-IsNull, shape-Not, shape-And, shape-Or}
use Rattle.binder.proofs.ListingEquations.{listing-Compare, listing-IsNull, listing-Not, listing-And, listing-Or}

abbrev shapes : List HavingCondition → List HavingShape
shapes cs = map having_shape cs

abbrev values_of : List HavingCondition → List ItemValue
values_of cs = flat_map (λ c. c.values) (shapes cs)

-- ---- places of the row

module _ (instances : List TableInstance) (row : List ℕ) where
  term-bound : (a : HavingTerm) (place : ℕ) → place + length (named a) ≤ length row → bound_term (row ∷ []) (term_at place a) ≡ true
  term-bound (written.Column c) place le = lt-ltb place (length row) (omega (arith, le))
  term-bound (written.Aggregate call) place le = lt-ltb place (length row) (omega (arith, le))
  term-bound (written.Literal v) place le = refl

  abbrev BoundAt : HavingCondition → Type 0
  BoundAt c = (place : ℕ) → place + length (having_shape c).values ≤ length row → (cond_scope instances ((having_shape c).at place)).bound (row ∷ []) ≡ true

  all-bound : (cs : List HavingCondition) → AllByRecursion BoundAt cs → (place : ℕ) → place + length (values_of cs) ≤ length row
      → list_all (λ s. s.bound (row ∷ [])) (map (cond_scope instances) (all_at (shapes cs) place)) ≡ true
  all-bound [] each place le = refl
  all-bound (c ∷ cs) each place le =
      let long = length-append (having_shape c).values (values_of cs) in
      and_from _ _ (each.0 place (omega (arith, le, long))) (all-bound cs each.1 (place + length (having_shape c).values) (omega (arith, le, long)))

  pub placed-bound : (c : HavingCondition) → BoundAt c
  placed-bound = each-having BoundAt
      (λ a op b. rw (shape-Compare a op b) (λ place le. rw (scope-Compare instances op.comparison (term_at place a) (term_at (place + length (named a)) b))
      (let long = length-append (named a) (named b) in and_from _ _ (term-bound a place (omega (arith, le, long))) (term-bound b (place + length (named a)) (omega (arith, le, long))))))
      (λ a. rw (shape-IsNull a) (λ place le. rw (scope-IsNull instances (term_at place a)) (term-bound a place le)))
      (λ c is. rw (shape-Not c) (λ place le. rw (scope-Not instances ((having_shape c).at place)) (is place le)))
      (λ cs each. rw (shape-And cs) (λ place le. rw (scope-And instances (all_at (shapes cs) place)) (all-bound cs each place le)))
      (λ cs each. rw (shape-Or cs) (λ place le. rw (scope-Or instances (all_at (shapes cs) place)) (all-bound cs each place le)))

-- ---- nothing is listed

abbrev ListsNone : HavingCondition → Type 0
ListsNone c = (place : ℕ) → cond_listing ((having_shape c).at place) ≡ no_listing

all-none : (cs : List HavingCondition) → AllByRecursion ListsNone cs → (place : ℕ) → all_listings (map cond_listing (all_at (shapes cs) place)) ≡ no_listing
all-none [] each place = refl
all-none (c ∷ cs) each place = rw (each.0 place, all-none cs each.1 (place + length (having_shape c).values)) refl

pub placed-none : (c : HavingCondition) → ListsNone c
placed-none = each-having ListsNone
    (λ a op b place. rw (shape-Compare a op b) (listing-Compare op.comparison (term_at place a) (term_at (place + length (named a)) b)))
    (λ a place. rw (shape-IsNull a) (listing-IsNull (term_at place a)))
    (λ c is place. rw (shape-Not c) (listing-Not ((having_shape c).at place) ∙ is place))
    (λ cs each place. rw (shape-And cs) (listing-And (all_at (shapes cs) place) ∙ all-none cs each place))
    (λ cs each place. rw (shape-Or cs) (listing-Or (all_at (shapes cs) place) ∙ all-none cs each place))
