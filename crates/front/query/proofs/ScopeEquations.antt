-- What the scope is of each form of condition, FROM and block: one equation for each.
use Rattle.std.proofs.Common.{◌≡◌, refl, ap, sym, ◌∙◌, List, map, Option, Some, None, option_map}
use Rattle.values.specs.declared.truth.Comparison.{Comparison}
use Rattle.query.specs.declared.query.Term.{Term}
use Rattle.query.specs.declared.query.TableReference.{TableReference}
use Rattle.query.specs.declared.query.TableInstance.{TableInstance}
use Rattle.query.specs.declared.query.Cond.{Cond, roll-Cond}
use Rattle.query.specs.declared.query.Cond.TheVariants as cond
use Rattle.query.specs.declared.query.Cond.TheOpen.{Cond-F, From-F, Block-F}
use Rattle.query.specs.declared.query.Cond.TheFolds.{fold-roll-Cond, fold-roll-From, fold_out-Block, map-Cond, map-From, map-Block}
use Rattle.query.specs.declared.query.From.{From, roll-From}
use Rattle.query.specs.declared.query.From.TheVariants as from
use Rattle.query.specs.declared.query.Block.{Block, out-Block}
use Rattle.query.specs.Bound.{CondScope, FromScope, BlockScope, cond_scope, from_scope, block_scope, cond_scope_layer, from_scope_layer, block_scope_layer}

module _ (instances : List TableInstance) where
  scope_roll : (x : Cond-F Cond From Block) → cond_scope instances (roll-Cond x) ≡ cond_scope_layer (map-Cond Cond From Block CondScope FromScope BlockScope (cond_scope instances) (from_scope instances) (block_scope instances) x)
  unfolding cond_scope from_scope block_scope
  scope_roll x = fold-roll-Cond CondScope FromScope BlockScope cond_scope_layer (from_scope_layer instances) (block_scope_layer instances) x

  from_scope_roll : (x : From-F Cond From Block) → from_scope instances (roll-From x) ≡ from_scope_layer instances (map-From Cond From Block CondScope FromScope BlockScope (cond_scope instances) (from_scope instances) (block_scope instances) x)
  unfolding cond_scope from_scope block_scope
  from_scope_roll x = fold-roll-From CondScope FromScope BlockScope cond_scope_layer (from_scope_layer instances) (block_scope_layer instances) x

  block_scope_roll : (q : Block) → block_scope instances q ≡ block_scope_layer instances (map-Block Cond From Block CondScope FromScope BlockScope (cond_scope instances) (from_scope instances) (block_scope instances) (out-Block q))
  unfolding cond_scope from_scope block_scope
  block_scope_roll q = fold_out-Block CondScope FromScope BlockScope cond_scope_layer (from_scope_layer instances) (block_scope_layer instances) q

  scope_at : (x : Cond-F Cond From Block) (c : Cond) → roll-Cond x ≡ c → cond_scope instances c ≡ cond_scope_layer (map-Cond Cond From Block CondScope FromScope BlockScope (cond_scope instances) (from_scope instances) (block_scope instances) x)
  scope_at x c is = ap (cond_scope instances) (sym is) ∙ scope_roll x

  from_scope_at : (x : From-F Cond From Block) (f : From) → roll-From x ≡ f → from_scope instances f ≡ from_scope_layer instances (map-From Cond From Block CondScope FromScope BlockScope (cond_scope instances) (from_scope instances) (block_scope instances) x)
  from_scope_at x f is = ap (from_scope instances) (sym is) ∙ from_scope_roll x

  pub scope-Compare : (op : Comparison) (a b : Term) → cond_scope instances (cond.Compare op a b) ≡ cond_scope_layer (Cond-F.Compare op a b)
  scope-Compare op a b = scope_at (Cond-F.Compare op a b) _ (cond.rolls-Compare op a b)

  pub scope-IsNull : (a : Term) → cond_scope instances (cond.IsNull a) ≡ cond_scope_layer (Cond-F.IsNull a)
  scope-IsNull a = scope_at (Cond-F.IsNull a) _ (cond.rolls-IsNull a)

  pub scope-Not : (c : Cond) → cond_scope instances (cond.Not c) ≡ cond_scope_layer (Cond-F.Not (cond_scope instances c))
  scope-Not c = scope_at (Cond-F.Not c) _ (cond.rolls-Not c)

  pub scope-And : (cs : List Cond) → cond_scope instances (cond.And cs) ≡ cond_scope_layer (Cond-F.And (map (cond_scope instances) cs))
  scope-And cs = scope_at (Cond-F.And cs) _ (cond.rolls-And cs)

  pub scope-Or : (cs : List Cond) → cond_scope instances (cond.Or cs) ≡ cond_scope_layer (Cond-F.Or (map (cond_scope instances) cs))
  scope-Or cs = scope_at (Cond-F.Or cs) _ (cond.rolls-Or cs)

  pub scope-Exists : (q : Block) → cond_scope instances (cond.Exists q) ≡ cond_scope_layer (Cond-F.Exists (block_scope instances q))
  scope-Exists q = scope_at (Cond-F.Exists q) _ (cond.rolls-Exists q)

  pub scope-In : (a : Term) (q : Block) → cond_scope instances (cond.In a q) ≡ cond_scope_layer (Cond-F.In a (block_scope instances q))
  scope-In a q = scope_at (Cond-F.In a q) _ (cond.rolls-In a q)

  pub scope-Table : (o : TableReference) → from_scope instances (from.Table o) ≡ from_scope_layer instances (From-F.Table o)
  scope-Table o = from_scope_at (From-F.Table o) _ (from.rolls-Table o)

  pub scope-Join : (f : From) (o : TableReference) (on : Cond) → from_scope instances (from.Join f o on) ≡ from_scope_layer instances (From-F.Join (from_scope instances f) o (cond_scope instances on))
  scope-Join f o on = from_scope_at (From-F.Join f o on) _ (from.rolls-Join f o on)

  pub scope-LeftJoin : (f : From) (o : TableReference) (on : Cond) → from_scope instances (from.LeftJoin f o on) ≡ from_scope_layer instances (From-F.LeftJoin (from_scope instances f) o (cond_scope instances on))
  scope-LeftJoin f o on = from_scope_at (From-F.LeftJoin f o on) _ (from.rolls-LeftJoin f o on)

  pub scope-Comma : (f g : From) → from_scope instances (from.Comma f g) ≡ from_scope_layer instances (From-F.Comma (from_scope instances f) (from_scope instances g))
  scope-Comma f g = from_scope_at (From-F.Comma f g) _ (from.rolls-Comma f g)

  -- a layer with the scopes of its parts, where its WHERE and its HAVING are given
  abbrev scoped_with : Block-F Cond From Block → Option Cond → Option Cond → Block-F CondScope FromScope BlockScope
  scoped_with x w h = record {
    from = from_scope instances x.from;
    filter = option_map (cond_scope instances) w;
    grouped = x.grouped;
    keys = x.keys;
    having = option_map (cond_scope instances) h;
    having_items = x.having_items;
    items = x.items;
    distinct = x.distinct;
  }

  abbrev pub scoped : Block → Block-F CondScope FromScope BlockScope
  scoped q = scoped_with (out-Block q) q.filter q.having

  scoped-is : (x : Block-F Cond From Block) (w h : Option Cond)
      → block_scope_layer instances (map-Block Cond From Block CondScope FromScope BlockScope (cond_scope instances) (from_scope instances) (block_scope instances) (record x { filter = w; having = h })) ≡ block_scope_layer instances (scoped_with x w h)
  scoped-is x None None = refl
  scoped-is x None (Some d) = refl
  scoped-is x (Some c) None = refl
  scoped-is x (Some c) (Some d) = refl

  pub scope-Block : (q : Block) → block_scope instances q ≡ block_scope_layer instances (scoped q)
  scope-Block q = block_scope_roll q ∙ scoped-is (out-Block q) (out-Block q).filter (out-Block q).having
