-- What stands in each form of condition, FROM and block: one equation for each.
use Rattle.std.proofs.Common.{◌≡◌, refl, ap, sym, ◌∙◌, List, [], map, Option, Some, None, option_map}
use Rattle.values.specs.declared.truth.Comparison.{Comparison}
use Rattle.query.specs.declared.query.Term.{Term}
use Rattle.query.specs.declared.query.TableReference.{TableReference}
use Rattle.query.specs.declared.query.Cond.{Cond, roll-Cond}
use Rattle.query.specs.declared.query.Cond.TheVariants as cond
use Rattle.query.specs.declared.query.Cond.TheOpen.{Cond-F, From-F, Block-F}
use Rattle.query.specs.declared.query.Cond.TheFolds.{fold-roll-Cond, fold-roll-From, fold_out-Block, map-Cond, map-From, map-Block}
use Rattle.query.specs.declared.query.From.{From, roll-From}
use Rattle.query.specs.declared.query.From.TheVariants as from
use Rattle.query.specs.declared.query.Block.{Block, out-Block}
use Rattle.binder.specs.TextNumbers.{Listing, no_listing, one_listing, both_listings, all_listings, filter_listing, items_listing, cond_layer, from_layer, block_layer, cond_listing, from_listing, block_listing}

cond_at : (x : Cond-F Cond From Block) (c : Cond) → roll-Cond x ≡ c → cond_listing c ≡ cond_layer (map-Cond Cond From Block Listing Listing Listing cond_listing from_listing block_listing x)
unfolding cond_listing from_listing block_listing
cond_at x c is = ap cond_listing (sym is) ∙ fold-roll-Cond Listing Listing Listing cond_layer from_layer block_layer x

from_at : (x : From-F Cond From Block) (f : From) → roll-From x ≡ f → from_listing f ≡ from_layer (map-From Cond From Block Listing Listing Listing cond_listing from_listing block_listing x)
unfolding cond_listing from_listing block_listing
from_at x f is = ap from_listing (sym is) ∙ fold-roll-From Listing Listing Listing cond_layer from_layer block_layer x

pub listing-Compare : (op : Comparison) (a b : Term) → cond_listing (cond.Compare op a b) ≡ no_listing
listing-Compare op a b = cond_at (Cond-F.Compare op a b) _ (cond.rolls-Compare op a b)

pub listing-IsNull : (a : Term) → cond_listing (cond.IsNull a) ≡ no_listing
listing-IsNull a = cond_at (Cond-F.IsNull a) _ (cond.rolls-IsNull a)

pub listing-Not : (c : Cond) → cond_listing (cond.Not c) ≡ cond_listing c
listing-Not c = cond_at (Cond-F.Not c) _ (cond.rolls-Not c)

pub listing-And : (cs : List Cond) → cond_listing (cond.And cs) ≡ all_listings (map cond_listing cs)
listing-And cs = cond_at (Cond-F.And cs) _ (cond.rolls-And cs)

pub listing-Or : (cs : List Cond) → cond_listing (cond.Or cs) ≡ all_listings (map cond_listing cs)
listing-Or cs = cond_at (Cond-F.Or cs) _ (cond.rolls-Or cs)

pub listing-Exists : (q : Block) → cond_listing (cond.Exists q) ≡ block_listing q
listing-Exists q = cond_at (Cond-F.Exists q) _ (cond.rolls-Exists q)

pub listing-In : (a : Term) (q : Block) → cond_listing (cond.In a q) ≡ block_listing q
listing-In a q = cond_at (Cond-F.In a q) _ (cond.rolls-In a q)

pub listing-Table : (o : TableReference) → from_listing (from.Table o) ≡ one_listing o
listing-Table o = from_at (From-F.Table o) _ (from.rolls-Table o)

pub listing-Join : (f : From) (o : TableReference) (on : Cond) → from_listing (from.Join f o on) ≡ both_listings (from_listing f) (both_listings (one_listing o) (cond_listing on))
listing-Join f o on = from_at (From-F.Join f o on) _ (from.rolls-Join f o on)

pub listing-LeftJoin : (f : From) (o : TableReference) (on : Cond) → from_listing (from.LeftJoin f o on) ≡ both_listings (from_listing f) (both_listings (one_listing o) (cond_listing on))
listing-LeftJoin f o on = from_at (From-F.LeftJoin f o on) _ (from.rolls-LeftJoin f o on)

pub listing-Comma : (f g : From) → from_listing (from.Comma f g) ≡ both_listings (from_listing f) (from_listing g)
listing-Comma f g = from_at (From-F.Comma f g) _ (from.rolls-Comma f g)

block_roll : (q : Block) → block_listing q ≡ block_layer (map-Block Cond From Block Listing Listing Listing cond_listing from_listing block_listing (out-Block q))
unfolding cond_listing from_listing block_listing
block_roll q = fold_out-Block Listing Listing Listing cond_layer from_layer block_layer q

-- what stands in a block, where its WHERE and its HAVING are given
abbrev pub block_parts : Block-F Cond From Block → Option Cond → Option Cond → Listing
block_parts x w h = both_listings (items_listing x.items)
    (both_listings (from_listing x.from) (both_listings (filter_listing (option_map cond_listing w)) (both_listings (filter_listing (option_map cond_listing h)) (items_listing x.having_items))))

block-is : (x : Block-F Cond From Block) (w h : Option Cond) → block_layer (map-Block Cond From Block Listing Listing Listing cond_listing from_listing block_listing (record x { filter = w; having = h })) ≡ block_parts x w h
block-is x None None = refl
block-is x None (Some d) = refl
block-is x (Some c) None = refl
block-is x (Some c) (Some d) = refl

pub listing-Block : (q : Block) → block_listing q ≡ block_parts (out-Block q) q.filter q.having
listing-Block q = block_roll q ∙ block-is (out-Block q) (out-Block q).filter (out-Block q).having
