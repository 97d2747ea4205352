-- What the frame is of each form of condition, FROM and block: one equation for each.
use Rattle.std.proofs.Common.{◌≡◌, refl, ap, sym, ◌∙◌, List, map, Option, Some, None, option_map}
use Rattle.values.specs.declared.truth.Comparison.{Comparison}
use Rattle.query.specs.declared.query.Term.{Term}
use Rattle.query.specs.declared.query.TableReference.{TableReference}
use Rattle.query.specs.declared.query.TableInstance.{TableInstance}
use Rattle.query.specs.declared.query.Cond.{Cond, roll-Cond}
use Rattle.query.specs.declared.query.Cond.TheVariants as cond
use Rattle.query.specs.declared.query.Cond.TheOpen.{Cond-F, From-F, Block-F}
use Rattle.query.specs.declared.query.Cond.TheFolds.{fold-roll-Cond, fold-roll-From, fold_out-Block, map-Cond, map-From, map-Block}
use Rattle.query.specs.declared.query.From.{From, roll-From}
use Rattle.query.specs.declared.query.From.TheVariants as from
use Rattle.query.specs.declared.query.Block.{Block, out-Block}
use Rattle.frame.specs.Frames.{CondFrame, FromFrame, BlockFrame, cond_frame, from_frame, block_frame, cond_frame_layer, from_frame_layer, block_frame_layer}

module _ (instances : List TableInstance) where
  cond_roll : (x : Cond-F Cond From Block) → cond_frame instances (roll-Cond x) ≡ cond_frame_layer (map-Cond Cond From Block CondFrame FromFrame BlockFrame (cond_frame instances) (from_frame instances) (block_frame instances) x)
  unfolding cond_frame from_frame block_frame
  cond_roll x = fold-roll-Cond CondFrame FromFrame BlockFrame cond_frame_layer (from_frame_layer instances) block_frame_layer x

  from_roll : (x : From-F Cond From Block) → from_frame instances (roll-From x) ≡ from_frame_layer instances (map-From Cond From Block CondFrame FromFrame BlockFrame (cond_frame instances) (from_frame instances) (block_frame instances) x)
  unfolding cond_frame from_frame block_frame
  from_roll x = fold-roll-From CondFrame FromFrame BlockFrame cond_frame_layer (from_frame_layer instances) block_frame_layer x

  block_roll : (q : Block) → block_frame instances q ≡ block_frame_layer (map-Block Cond From Block CondFrame FromFrame BlockFrame (cond_frame instances) (from_frame instances) (block_frame instances) (out-Block q))
  unfolding cond_frame from_frame block_frame
  block_roll q = fold_out-Block CondFrame FromFrame BlockFrame cond_frame_layer (from_frame_layer instances) block_frame_layer q

  cond_at : (x : Cond-F Cond From Block) (c : Cond) → roll-Cond x ≡ c → cond_frame instances c ≡ cond_frame_layer (map-Cond Cond From Block CondFrame FromFrame BlockFrame (cond_frame instances) (from_frame instances) (block_frame instances) x)
  cond_at x c is = ap (cond_frame instances) (sym is) ∙ cond_roll x

  from_at : (x : From-F Cond From Block) (f : From) → roll-From x ≡ f → from_frame instances f ≡ from_frame_layer instances (map-From Cond From Block CondFrame FromFrame BlockFrame (cond_frame instances) (from_frame instances) (block_frame instances) x)
  from_at x f is = ap (from_frame instances) (sym is) ∙ from_roll x

  pub frame-Compare : (op : Comparison) (a b : Term) → cond_frame instances (cond.Compare op a b) ≡ cond_frame_layer (Cond-F.Compare op a b)
  frame-Compare op a b = cond_at (Cond-F.Compare op a b) _ (cond.rolls-Compare op a b)

  pub frame-IsNull : (a : Term) → cond_frame instances (cond.IsNull a) ≡ cond_frame_layer (Cond-F.IsNull a)
  frame-IsNull a = cond_at (Cond-F.IsNull a) _ (cond.rolls-IsNull a)

  pub frame-Not : (c : Cond) → cond_frame instances (cond.Not c) ≡ cond_frame_layer (Cond-F.Not (cond_frame instances c))
  frame-Not c = cond_at (Cond-F.Not c) _ (cond.rolls-Not c)

  pub frame-And : (cs : List Cond) → cond_frame instances (cond.And cs) ≡ cond_frame_layer (Cond-F.And (map (cond_frame instances) cs))
  frame-And cs = cond_at (Cond-F.And cs) _ (cond.rolls-And cs)

  pub frame-Or : (cs : List Cond) → cond_frame instances (cond.Or cs) ≡ cond_frame_layer (Cond-F.Or (map (cond_frame instances) cs))
  frame-Or cs = cond_at (Cond-F.Or cs) _ (cond.rolls-Or cs)

  pub frame-Exists : (q : Block) → cond_frame instances (cond.Exists q) ≡ cond_frame_layer (Cond-F.Exists (block_frame instances q))
  frame-Exists q = cond_at (Cond-F.Exists q) _ (cond.rolls-Exists q)

  pub frame-In : (a : Term) (q : Block) → cond_frame instances (cond.In a q) ≡ cond_frame_layer (Cond-F.In a (block_frame instances q))
  frame-In a q = cond_at (Cond-F.In a q) _ (cond.rolls-In a q)

  pub frame-Table : (o : TableReference) → from_frame instances (from.Table o) ≡ from_frame_layer instances (From-F.Table o)
  frame-Table o = from_at (From-F.Table o) _ (from.rolls-Table o)

  pub frame-Join : (f : From) (o : TableReference) (on : Cond) → from_frame instances (from.Join f o on) ≡ from_frame_layer instances (From-F.Join (from_frame instances f) o (cond_frame instances on))
  frame-Join f o on = from_at (From-F.Join f o on) _ (from.rolls-Join f o on)

  pub frame-LeftJoin : (f : From) (o : TableReference) (on : Cond) → from_frame instances (from.LeftJoin f o on) ≡ from_frame_layer instances (From-F.LeftJoin (from_frame instances f) o (cond_frame instances on))
  frame-LeftJoin f o on = from_at (From-F.LeftJoin f o on) _ (from.rolls-LeftJoin f o on)

  pub frame-Comma : (f g : From) → from_frame instances (from.Comma f g) ≡ from_frame_layer instances (From-F.Comma (from_frame instances f) (from_frame instances g))
  frame-Comma f g = from_at (From-F.Comma f g) _ (from.rolls-Comma f g)

  -- a layer with the frames of its parts, where its WHERE and its HAVING are given
  abbrev framed_with : Block-F Cond From Block → Option Cond → Option Cond → Block-F CondFrame FromFrame BlockFrame
  framed_with x w h = record {
    from = from_frame instances x.from;
    filter = option_map (cond_frame instances) w;
    grouped = x.grouped;
    keys = x.keys;
    having = option_map (cond_frame instances) h;
    having_items = x.having_items;
    items = x.items;
    distinct = x.distinct;
  }

  -- the layer of a block with the frames of its parts
  abbrev pub framed : Block → Block-F CondFrame FromFrame BlockFrame
  framed q = framed_with (out-Block q) q.filter q.having

  framed-is : (x : Block-F Cond From Block) (w h : Option Cond)
      → block_frame_layer (map-Block Cond From Block CondFrame FromFrame BlockFrame (cond_frame instances) (from_frame instances) (block_frame instances) (record x { filter = w; having = h })) ≡ block_frame_layer (framed_with x w h)
  framed-is x None None = refl
  framed-is x None (Some d) = refl
  framed-is x (Some c) None = refl
  framed-is x (Some c) (Some d) = refl

  pub frame-Block : (q : Block) → block_frame instances q ≡ block_frame_layer (framed q)
  frame-Block q = block_roll q ∙ framed-is (out-Block q) (out-Block q).filter (out-Block q).having
