-- An induction over FROMs, whatever their conditions and subqueries are.
use Rattle.std.proofs.Common.{subst, sym}
use Rattle.query.specs.declared.query.Cond.{Cond}
use Rattle.query.specs.declared.query.From.{From, roll-From}
use Rattle.query.specs.declared.query.From.TheVariants.{Table, Join, LeftJoin, Comma, rolls-Table, rolls-Join, rolls-LeftJoin, rolls-Comma}
use Rattle.query.specs.declared.query.Block.{Block}
use Rattle.query.specs.declared.query.TableReference.{TableReference}
use Rattle.query.specs.declared.query.Cond.TheOpen.{From-F}
use Rattle.query.specs.declared.query.Cond.TheFolds.{ind-From, map-From}

-- what holds of tables, and of the other FROMs if it holds of those in them, holds of all
module _ (P : From → Type 0) (table : (o : TableReference) → P (Table o)) (join : (f : From) (o : TableReference) (on : Cond) → P f → P (Join f o on))
    (left_join : (f : From) (o : TableReference) (on : Cond) → P f → P (LeftJoin f o on)) (comma : (f g : From) → P f → P g → P (Comma f g)) where
  -- a layer with a proof beside each FROM in it
  abbrev Proved : Type 0
  Proved = From-F (Cond × Unit {0}) ((f : From) × P f) (Block × Unit {0})

  abbrev plain : Proved → From-F Cond From Block
  plain = map-From _ _ _ Cond From Block (λ c. c.0) (λ f. f.0) (λ q. q.0)

  layer : (y : Proved) → P (roll-From (plain y))
  layer (From-F.Table o) = subst P (sym (rolls-Table o)) (table o)
  layer (From-F.Join f o on) = subst P (sym (rolls-Join f.0 o on.0)) (join f.0 o on.0 f.1)
  layer (From-F.LeftJoin f o on) = subst P (sym (rolls-LeftJoin f.0 o on.0)) (left_join f.0 o on.0 f.1)
  layer (From-F.Comma f g) = subst P (sym (rolls-Comma f.0 g.0)) (comma f.0 g.0 f.1 g.1)

  pub each_from : (f : From) → P f
  each_from = ind-From (λ c. Unit {0}) P (λ q. Unit {0}) (λ x y is. tt) (λ x y is. subst (λ z. P (roll-From z)) is (layer y)) (λ x y is. tt)
