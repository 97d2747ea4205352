-- What is named, becomes and is counted of each form of a HAVING, by the steps that compute it.
use Rattle.std.proofs.Common.{◌≡◌, refl, ◌∙◌, ℕ, ◌+◌, List, length, flat_map, map, length-append, arith}
use Rattle.std.specs.List.{sum_by}
use Rattle.sql_parse.specs.declared.statement.HavingCondition.{HavingCondition}
use Rattle.sql_parse.specs.declared.statement.HavingCondition.TheVariants.{Compare, IsNull, Not, And, Or}
use Rattle.sql_parse.specs.declared.statement.HavingTerm.{HavingTerm}
use Rattle.sql_parse.specs.declared.statement.Operator.{Operator}
use Rattle.query.specs.declared.query.Cond.{Cond}
use Rattle.query.specs.declared.query.Cond.TheVariants as cond
use Rattle.query.specs.declared.query.Term.{Term}
use Rattle.binder.specs.declared.having.Asked.{Asked}
use Rattle.binder.specs.HavingShapes.{HavingShape, named, term_at, all_at, having_shape}
use Rattle.binder.specs.Havings.{all_asked, comparison_asked, null_test_asked, condition_asked}
use Rattle.binder.specs.Scopes.{Scopes}
use Rattle.binder.proofs.HavingEquations.{shape-Compare, shape-IsNull, shape-Not, shape-And, shape-Or, asked-Compare, asked-IsNull, asked-Not, asked-And, asked-Or}

-- ---- what they name

module _ (scopes : Scopes) (keys : List ℕ) (part : HavingCondition) (x : Asked) where
  pub named-Compare : (a : HavingTerm) (op : Operator) (b : HavingTerm) → part ≡ Compare a op b → condition_asked scopes keys part x ≡ comparison_asked scopes keys a op b x
  named-Compare a op b is = rw (is, asked-Compare scopes keys a op b) refl

  pub named-IsNull : (a : HavingTerm) → part ≡ IsNull a → condition_asked scopes keys part x ≡ null_test_asked scopes keys a x
  named-IsNull a is = rw (is, asked-IsNull scopes keys a) refl

  pub named-Not : (c lent : HavingCondition) → part ≡ Not c → lent ≡ c → condition_asked scopes keys part x ≡ condition_asked scopes keys lent x
  named-Not c lent is at = rw (is, at, asked-Not scopes keys c) refl

  pub named-And : (cs lent : List HavingCondition) → part ≡ And cs → lent ≡ cs → condition_asked scopes keys part x ≡ all_asked (map (condition_asked scopes keys) lent) x
  named-And cs lent is at = rw (is, at, asked-And scopes keys cs) refl

  pub named-Or : (cs lent : List HavingCondition) → part ≡ Or cs → lent ≡ cs → condition_asked scopes keys part x ≡ all_asked (map (condition_asked scopes keys) lent) x
  named-Or cs lent is at = rw (is, at, asked-Or scopes keys cs) refl

-- ---- what they become, and their tests

abbrev shapes : List HavingCondition → List HavingShape
shapes cs = map having_shape cs

-- how many values they name
abbrev pub count_of : List HavingCondition → ℕ
count_of cs = length (flat_map (λ c. c.values) (shapes cs))

abbrev pub tests_of : List HavingCondition → ℕ
tests_of cs = sum_by (λ c. c.tests) (shapes cs)

-- ---- each form, by the steps that compute it

-- what became of a condition, and the place behind what it names
abbrev pub IsPlaced : HavingCondition → ℕ → Cond → ℕ → Type 0
IsPlaced part place x end = record { condition : x ≡ (having_shape part).at place; place : end ≡ place + length (having_shape part).values }

pub placed-Compare : (part : HavingCondition) (a : HavingTerm) (op : Operator) (b : HavingTerm) (place middle end : ℕ) (l r : Term) → part ≡ Compare a op b → l ≡ term_at place a → middle ≡ place + length (named a)
    → r ≡ term_at middle b → end ≡ middle + length (named b) → IsPlaced part place (cond.Compare op.comparison l r) end
placed-Compare part a op b place middle end l r is left first right next = rw (is, shape-Compare a op b) (record {
  condition = rw (left, right, first) refl;
  place = let long = length-append (named a) (named b) in omega (arith, first, next, long);
})

pub placed-IsNull : (part : HavingCondition) (a : HavingTerm) (place end : ℕ) (l : Term) → part ≡ IsNull a → l ≡ term_at place a → end ≡ place + length (named a) → IsPlaced part place (cond.IsNull l) end
placed-IsNull part a place end l is left next = rw (is, shape-IsNull a) (record { condition = rw left refl; place = next })

pub placed-Not : (part c lent : HavingCondition) (place end : ℕ) (x : Cond) → part ≡ Not c → lent ≡ c → x ≡ (having_shape lent).at place → end ≡ place + length (having_shape lent).values → IsPlaced part place (cond.Not x) end
placed-Not part c lent place end x is at became next = rw (is, shape-Not c) (record { condition = rw (became, at) refl; place = next ∙ rw at refl })

pub placed-And : (part : HavingCondition) (cs lent : List HavingCondition) (place end : ℕ) (xs : List Cond) → part ≡ And cs → lent ≡ cs → xs ≡ all_at (shapes lent) place → end ≡ place + count_of lent → IsPlaced part place (cond.And xs) end
placed-And part cs lent place end xs is at became next = rw (is, shape-And cs) (record { condition = rw (became, at) refl; place = next ∙ rw at refl })

pub placed-Or : (part : HavingCondition) (cs lent : List HavingCondition) (place end : ℕ) (xs : List Cond) → part ≡ Or cs → lent ≡ cs → xs ≡ all_at (shapes lent) place → end ≡ place + count_of lent → IsPlaced part place (cond.Or xs) end
placed-Or part cs lent place end xs is at became next = rw (is, shape-Or cs) (record { condition = rw (became, at) refl; place = next ∙ rw at refl })
