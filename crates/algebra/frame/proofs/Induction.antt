-- Induction over conditions, FROMs and blocks: a step for each form.
use Rattle.std.proofs.Common.{sym, subst, List, [], ◌∷◌, map, Option, Some, None}
use Rattle.std.specs.List.{AllByRecursion}
use Rattle.values.specs.declared.truth.Comparison.{Comparison}
use Rattle.query.specs.declared.query.Term.{Term}
use Rattle.query.specs.declared.query.TableReference.{TableReference}
use Rattle.query.specs.declared.query.Cond.{Cond, roll-Cond}
use Rattle.query.specs.declared.query.Cond.TheVariants as cond
use Rattle.query.specs.declared.query.Cond.TheOpen.{Cond-F, From-F, Block-F}
use Rattle.query.specs.declared.query.Cond.TheFolds.{ind-Cond, ind-From, ind-Block, map-Cond, map-From, map-Block}
use Rattle.query.specs.declared.query.From.{From, roll-From}
use Rattle.query.specs.declared.query.From.TheVariants as from
use Rattle.query.specs.declared.query.Block.{Block, roll-Block}

module _ (C : Cond → Type 0) (F : From → Type 0) (B : Block → Type 0) where
  -- of a WHERE or a HAVING, if there is one
  abbrev pub OfFilter : Option Cond → Type 0
  OfFilter None = Unit {0}
  OfFilter (Some c) = C c

  pub record Steps : Type 0 where
    pub compare : (op : Comparison) (a b : Term) → C (cond.Compare op a b)
    pub is_null : (a : Term) → C (cond.IsNull a)
    pub not : (c : Cond) → C c → C (cond.Not c)
    pub and : (cs : List Cond) → AllByRecursion C cs → C (cond.And cs)
    pub or : (cs : List Cond) → AllByRecursion C cs → C (cond.Or cs)
    pub exists : (q : Block) → B q → C (cond.Exists q)
    pub in_ : (a : Term) (q : Block) → B q → C (cond.In a q)
    pub table : (o : TableReference) → F (from.Table o)
    pub join : (f : From) (o : TableReference) (on : Cond) → F f → C on → F (from.Join f o on)
    pub left_join : (f : From) (o : TableReference) (on : Cond) → F f → C on → F (from.LeftJoin f o on)
    pub comma : (f g : From) → F f → F g → F (from.Comma f g)
    pub block : (q : Block) → F q.from → OfFilter q.filter → OfFilter q.having → B q

  abbrev ProvedCond : Type 0
  ProvedCond = (c : Cond) × C c

  abbrev ProvedFrom : Type 0
  ProvedFrom = (f : From) × F f

  abbrev ProvedBlock : Type 0
  ProvedBlock = (q : Block) × B q

  abbrev plain_cond : Cond-F ProvedCond ProvedFrom ProvedBlock → Cond-F Cond From Block
  plain_cond = map-Cond _ _ _ Cond From Block (λ c. c.0) (λ f. f.0) (λ q. q.0)

  abbrev plain_from : From-F ProvedCond ProvedFrom ProvedBlock → From-F Cond From Block
  plain_from = map-From _ _ _ Cond From Block (λ c. c.0) (λ f. f.0) (λ q. q.0)

  abbrev plain_block : Block-F ProvedCond ProvedFrom ProvedBlock → Block-F Cond From Block
  plain_block = map-Block _ _ _ Cond From Block (λ c. c.0) (λ f. f.0) (λ q. q.0)

  all-proved : (cs : List ProvedCond) → AllByRecursion C (map (λ c. c.0) cs)
  all-proved [] = tt
  all-proved (c ∷ cs) = (c.1, all-proved cs)

  module _ (steps : Steps) where
    cond-step : (y : Cond-F ProvedCond ProvedFrom ProvedBlock) → C (roll-Cond (plain_cond y))
    cond-step (Cond-F.Compare op a b) = subst C (sym (cond.rolls-Compare op a b)) (steps.compare op a b)
    cond-step (Cond-F.IsNull a) = subst C (sym (cond.rolls-IsNull a)) (steps.is_null a)
    cond-step (Cond-F.Not c) = subst C (sym (cond.rolls-Not c.0)) (steps.not c.0 c.1)
    cond-step (Cond-F.And cs) = subst C (sym (cond.rolls-And (map (λ c. c.0) cs))) (steps.and _ (all-proved cs))
    cond-step (Cond-F.Or cs) = subst C (sym (cond.rolls-Or (map (λ c. c.0) cs))) (steps.or _ (all-proved cs))
    cond-step (Cond-F.Exists q) = subst C (sym (cond.rolls-Exists q.0)) (steps.exists q.0 q.1)
    cond-step (Cond-F.In a q) = subst C (sym (cond.rolls-In a q.0)) (steps.in_ a q.0 q.1)

    from-step : (y : From-F ProvedCond ProvedFrom ProvedBlock) → F (roll-From (plain_from y))
    from-step (From-F.Table o) = subst F (sym (from.rolls-Table o)) (steps.table o)
    from-step (From-F.Join f o on) = subst F (sym (from.rolls-Join f.0 o on.0)) (steps.join f.0 o on.0 f.1 on.1)
    from-step (From-F.LeftJoin f o on) = subst F (sym (from.rolls-LeftJoin f.0 o on.0)) (steps.left_join f.0 o on.0 f.1 on.1)
    from-step (From-F.Comma f g) = subst F (sym (from.rolls-Comma f.0 g.0)) (steps.comma f.0 g.0 f.1 g.1)

    block-step : (y : Block-F ProvedCond ProvedFrom ProvedBlock) (w h : Option ProvedCond) → B (roll-Block (plain_block (record y { filter = w; having = h })))
    block-step y None None = steps.block (roll-Block (plain_block (record y { filter = None; having = None }))) y.from.1 tt tt
    block-step y None (Some d) = steps.block (roll-Block (plain_block (record y { filter = None; having = Some d }))) y.from.1 tt d.1
    block-step y (Some c) None = steps.block (roll-Block (plain_block (record y { filter = Some c; having = None }))) y.from.1 c.1 tt
    block-step y (Some c) (Some d) = steps.block (roll-Block (plain_block (record y { filter = Some c; having = Some d }))) y.from.1 c.1 d.1

    -- so it is of each condition, FROM and block
    pub each-cond : (c : Cond) → C c
    each-cond = ind-Cond C F B (λ x y is. subst (λ z. C (roll-Cond z)) is (cond-step y)) (λ x y is. subst (λ z. F (roll-From z)) is (from-step y)) (λ x y is. subst (λ z. B (roll-Block z)) is (block-step y y.filter y.having))

    pub each-from : (f : From) → F f
    each-from = ind-From C F B (λ x y is. subst (λ z. C (roll-Cond z)) is (cond-step y)) (λ x y is. subst (λ z. F (roll-From z)) is (from-step y)) (λ x y is. subst (λ z. B (roll-Block z)) is (block-step y y.filter y.having))

    pub each-block : (q : Block) → B q
    each-block = ind-Block C F B (λ x y is. subst (λ z. C (roll-Cond z)) is (cond-step y)) (λ x y is. subst (λ z. F (roll-From z)) is (from-step y)) (λ x y is. subst (λ z. B (roll-Block z)) is (block-step y y.filter y.having))
