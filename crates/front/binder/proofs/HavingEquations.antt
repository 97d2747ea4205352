-- What is said of each form of a condition of HAVING: one equation for each, and an induction over them.
use Rattle.std.proofs.Common.{◌≡◌, ap, sym, ◌∙◌, subst, ℕ, List, [], ◌∷◌, map}
use Rattle.std.specs.List.{AllByRecursion}
use Rattle.sql_parse.specs.declared.statement.HavingCondition.{HavingCondition, roll-HavingCondition}
use Rattle.sql_parse.specs.declared.statement.HavingCondition.TheVariants.{Compare, IsNull, Not, And, Or, rolls-Compare, rolls-IsNull, rolls-Not, rolls-And, rolls-Or}
use Rattle.sql_parse.specs.declared.statement.HavingCondition.TheOpen.{HavingCondition-F}
use Rattle.sql_parse.specs.declared.statement.HavingCondition.TheFolds.{fold-roll-HavingCondition, ind-HavingCondition, map-HavingCondition}
use Rattle.sql_parse.specs.declared.statement.HavingTerm.{HavingTerm}
use Rattle.sql_parse.specs.declared.statement.Operator.{Operator}
use Rattle.binder.specs.Analyses.{HavingFaults, all_asked_faults, having_faults_layer, condition_asked_faults}
use Rattle.binder.specs.HavingShapes.{HavingShape, several, shape_layer, having_shape}
use Rattle.binder.specs.Havings.{HavingBinding, all_asked, having_layer, condition_asked}
use Rattle.binder.specs.Scopes.{Scopes}
use Rattle.query.specs.declared.query.Cond.TheVariants as cond

-- ---- induction

module _ (P : HavingCondition → Type 0) (compare : (a : HavingTerm) (op : Operator) (b : HavingTerm) → P (Compare a op b)) (is_null : (a : HavingTerm) → P (IsNull a)) (not : (c : HavingCondition) → P c → P (Not c))
    (and : (cs : List HavingCondition) → AllByRecursion P cs → P (And cs)) (or : (cs : List HavingCondition) → AllByRecursion P cs → P (Or cs)) where
  -- a layer with a proof beside each part
  abbrev Proved : Type 0
  Proved = HavingCondition-F ((c : HavingCondition) × P c)

  abbrev plain : Proved → HavingCondition-F HavingCondition
  plain = map-HavingCondition _ HavingCondition (λ c. c.0)

  all-proved : (cs : List ((c : HavingCondition) × P c)) → AllByRecursion P (map (λ c. c.0) cs)
  all-proved [] = tt
  all-proved (c ∷ cs) = (c.1, all-proved cs)

  layer : (y : Proved) → P (roll-HavingCondition (plain y))
  layer (HavingCondition-F.Compare a op b) = subst P (sym (rolls-Compare a op b)) (compare a op b)
  layer (HavingCondition-F.IsNull a) = subst P (sym (rolls-IsNull a)) (is_null a)
  layer (HavingCondition-F.Not c) = subst P (sym (rolls-Not c.0)) (not c.0 c.1)
  layer (HavingCondition-F.And cs) = subst P (sym (rolls-And (map (λ c. c.0) cs))) (and _ (all-proved cs))
  layer (HavingCondition-F.Or cs) = subst P (sym (rolls-Or (map (λ c. c.0) cs))) (or _ (all-proved cs))

  pub each-having : (c : HavingCondition) → P c
  each-having = ind-HavingCondition P (λ x y is. subst (λ z. P (roll-HavingCondition z)) is (layer y))

-- ---- shapes

shape_at : (x : HavingCondition-F HavingCondition) (c : HavingCondition) → roll-HavingCondition x ≡ c → having_shape c ≡ shape_layer (map-HavingCondition HavingCondition HavingShape having_shape x)
unfolding having_shape
shape_at x c is = ap having_shape (sym is) ∙ fold-roll-HavingCondition HavingShape shape_layer x

pub shape-Compare : (a : HavingTerm) (op : Operator) (b : HavingTerm) → having_shape (Compare a op b) ≡ shape_layer (HavingCondition-F.Compare a op b)
shape-Compare a op b = shape_at (HavingCondition-F.Compare a op b) _ (rolls-Compare a op b)

pub shape-IsNull : (a : HavingTerm) → having_shape (IsNull a) ≡ shape_layer (HavingCondition-F.IsNull a)
shape-IsNull a = shape_at (HavingCondition-F.IsNull a) _ (rolls-IsNull a)

pub shape-Not : (c : HavingCondition) → having_shape (Not c) ≡ shape_layer (HavingCondition-F.Not (having_shape c))
shape-Not c = shape_at (HavingCondition-F.Not c) _ (rolls-Not c)

pub shape-And : (cs : List HavingCondition) → having_shape (And cs) ≡ several (λ parts. cond.And parts) (map having_shape cs)
shape-And cs = shape_at (HavingCondition-F.And cs) _ (rolls-And cs)

pub shape-Or : (cs : List HavingCondition) → having_shape (Or cs) ≡ several (λ parts. cond.Or parts) (map having_shape cs)
shape-Or cs = shape_at (HavingCondition-F.Or cs) _ (rolls-Or cs)

-- ---- what is named

module _ (scopes : Scopes) (keys : List ℕ) where
  asked_at : (x : HavingCondition-F HavingCondition) (c : HavingCondition) → roll-HavingCondition x ≡ c
      → condition_asked scopes keys c ≡ having_layer scopes keys (map-HavingCondition HavingCondition HavingBinding (condition_asked scopes keys) x)
  unfolding condition_asked
  asked_at x c is = ap (condition_asked scopes keys) (sym is) ∙ fold-roll-HavingCondition HavingBinding (having_layer scopes keys) x

  pub asked-Compare : (a : HavingTerm) (op : Operator) (b : HavingTerm) → condition_asked scopes keys (Compare a op b) ≡ having_layer scopes keys (HavingCondition-F.Compare a op b)
  asked-Compare a op b = asked_at (HavingCondition-F.Compare a op b) _ (rolls-Compare a op b)

  pub asked-IsNull : (a : HavingTerm) → condition_asked scopes keys (IsNull a) ≡ having_layer scopes keys (HavingCondition-F.IsNull a)
  asked-IsNull a = asked_at (HavingCondition-F.IsNull a) _ (rolls-IsNull a)

  pub asked-Not : (c : HavingCondition) → condition_asked scopes keys (Not c) ≡ condition_asked scopes keys c
  asked-Not c = asked_at (HavingCondition-F.Not c) _ (rolls-Not c)

  pub asked-And : (cs : List HavingCondition) → condition_asked scopes keys (And cs) ≡ all_asked (map (condition_asked scopes keys) cs)
  asked-And cs = asked_at (HavingCondition-F.And cs) _ (rolls-And cs)

  pub asked-Or : (cs : List HavingCondition) → condition_asked scopes keys (Or cs) ≡ all_asked (map (condition_asked scopes keys) cs)
  asked-Or cs = asked_at (HavingCondition-F.Or cs) _ (rolls-Or cs)

-- ---- faults

faults_at : (x : HavingCondition-F HavingCondition) (c : HavingCondition) → roll-HavingCondition x ≡ c → condition_asked_faults c ≡ having_faults_layer (map-HavingCondition HavingCondition HavingFaults condition_asked_faults x)
unfolding condition_asked_faults
faults_at x c is = ap condition_asked_faults (sym is) ∙ fold-roll-HavingCondition HavingFaults having_faults_layer x

pub faults-Compare : (a : HavingTerm) (op : Operator) (b : HavingTerm) → condition_asked_faults (Compare a op b) ≡ having_faults_layer (HavingCondition-F.Compare a op b)
faults-Compare a op b = faults_at (HavingCondition-F.Compare a op b) _ (rolls-Compare a op b)

pub faults-IsNull : (a : HavingTerm) → condition_asked_faults (IsNull a) ≡ having_faults_layer (HavingCondition-F.IsNull a)
faults-IsNull a = faults_at (HavingCondition-F.IsNull a) _ (rolls-IsNull a)

pub faults-Not : (c : HavingCondition) → condition_asked_faults (Not c) ≡ condition_asked_faults c
faults-Not c = faults_at (HavingCondition-F.Not c) _ (rolls-Not c)

pub faults-And : (cs : List HavingCondition) → condition_asked_faults (And cs) ≡ all_asked_faults (map condition_asked_faults cs)
faults-And cs = faults_at (HavingCondition-F.And cs) _ (rolls-And cs)

pub faults-Or : (cs : List HavingCondition) → condition_asked_faults (Or cs) ≡ all_asked_faults (map condition_asked_faults cs)
faults-Or cs = faults_at (HavingCondition-F.Or cs) _ (rolls-Or cs)
