-- Which operators a frame has.
use Rattle.std.proofs.Common.{◌≡◌, refl, ap, sym, ◌∙◌, subst, Bool, true, false, ℕ, List, [], ◌∷◌, map, reverse, Option, Some, None, option_map}
use Rattle.std.specs.List.{list_all}
use Rattle.std.proofs.lemmas.Bool.{and_parts, and_from}
use Rattle.std.proofs.lemmas.Grind.{reverse_onto}
use Rattle.std.proofs.lemmas.List.Folds.{list_all-append}
use Rattle.query.specs.declared.query.Item.{Item}
use Rattle.query.specs.declared.query.TableInstance.{TableInstance}
use Rattle.query.specs.declared.query.Cond.{Cond, roll-Cond}
use Rattle.query.specs.declared.query.Cond.TheVariants as cond
use Rattle.query.specs.declared.query.Cond.TheOpen.{Cond-F, From-F, Block-F}
use Rattle.query.specs.declared.query.Cond.TheFolds.{ind-Block, map-Cond, map-From, map-Block}
use Rattle.query.specs.declared.query.From.{From, roll-From}
use Rattle.query.specs.declared.query.From.TheVariants as from
use Rattle.query.specs.declared.query.Block.{Block, roll-Block}
use Rattle.query.specs.declared.query.Query.{Query}
use Rattle.query.specs.Bound.{Scope}
use Rattle.algebra.specs.declared.expr.Expr.{Expr}
use Rattle.frame.specs.Frames.{CondFrame, all_frames, cond_frame, from_frame, block_frame, select_lines, group_lines, distinct_lines, query_frame, is_framed}
use Rattle.frame.proofs.FrameEquations.{frame-Compare, frame-IsNull, frame-Not, frame-And, frame-Or, frame-Exists, frame-In, frame-Table, frame-Join, frame-LeftJoin, frame-Comma, frame-Block}

-- lines of a frame's operators
abbrev AreFramed : List Expr → Type 0
AreFramed lines = list_all is_framed lines ≡ true

-- lines are added, all of a frame's operators
abbrev CondKeeps : CondFrame → Type 0
CondKeeps c = (scope : Scope) (E : List Expr) → AreFramed E → AreFramed (c scope E).lines

abbrev LinesKeep : (Scope → List Expr → List Expr) → Type 0
LinesKeep f = (scope : Scope) (E : List Expr) → AreFramed E → AreFramed (f scope E)

distinct-keeps : (d : Bool) (E : List Expr) → AreFramed E → AreFramed (distinct_lines d E)
distinct-keeps true E h = h
distinct-keeps false E h = h

group-keeps : (g : Bool) (numbers keys : List ℕ) (items : List Item) (E : List Expr) → AreFramed E → AreFramed (group_lines g numbers keys items E)
group-keeps true numbers keys items E h = h
group-keeps false numbers keys items E h = h

module _ (instances : List TableInstance) where
  abbrev CondPart : Type 0
  CondPart = (c : Cond) × CondKeeps (cond_frame instances c)

  abbrev FromPart : Type 0
  FromPart = (f : From) × LinesKeep (from_frame instances f).lines

  abbrev BlockPart : Type 0
  BlockPart = (q : Block) × LinesKeep (block_frame instances q).lines

  abbrev conds_of : List CondPart → List Cond
  conds_of cs = map (λ c. c.0) cs

  all-keep : (cs : List CondPart) (scope : Scope) (E : List Expr) → AreFramed E → AreFramed (all_frames (map (cond_frame instances) (conds_of cs)) scope E).lines
  all-keep [] scope E h = h
  all-keep (c ∷ cs) scope E h = all-keep cs scope (cond_frame instances c.0 scope E).lines (c.1 scope E h)

  abbrev FilterKeeps : Option Cond → Type 0
  FilterKeeps None = Unit {0}
  FilterKeeps (Some c) = CondKeeps (cond_frame instances c)

  filter-keeps : (o : Option Cond) → FilterKeeps o → LinesKeep (select_lines (option_map (cond_frame instances) o))
  filter-keeps None k scope E h = h
  filter-keeps (Some c) k scope E h = k scope E h

  -- ---- each form

  cond-keeps : (y : Cond-F CondPart FromPart BlockPart) → CondKeeps (cond_frame instances (roll-Cond (map-Cond _ _ _ Cond From Block (λ c. c.0) (λ f. f.0) (λ q. q.0) y)))
  cond-keeps (Cond-F.Compare op a b) = subst (λ c. CondKeeps (cond_frame instances c)) (sym (cond.rolls-Compare op a b)) (subst CondKeeps (sym (frame-Compare instances op a b)) (λ scope E h. h))
  cond-keeps (Cond-F.IsNull a) = subst (λ c. CondKeeps (cond_frame instances c)) (sym (cond.rolls-IsNull a)) (subst CondKeeps (sym (frame-IsNull instances a)) (λ scope E h. h))
  cond-keeps (Cond-F.Not c) = subst (λ c. CondKeeps (cond_frame instances c)) (sym (cond.rolls-Not c.0)) (subst CondKeeps (sym (frame-Not instances c.0)) (λ scope E h. c.1 scope E h))
  cond-keeps (Cond-F.And cs) = subst (λ c. CondKeeps (cond_frame instances c)) (sym (cond.rolls-And (conds_of cs))) (subst CondKeeps (sym (frame-And instances (conds_of cs))) (all-keep cs))
  cond-keeps (Cond-F.Or cs) = subst (λ c. CondKeeps (cond_frame instances c)) (sym (cond.rolls-Or (conds_of cs))) (subst CondKeeps (sym (frame-Or instances (conds_of cs))) (all-keep cs))
  cond-keeps (Cond-F.Exists q) = subst (λ c. CondKeeps (cond_frame instances c)) (sym (cond.rolls-Exists q.0)) (subst CondKeeps (sym (frame-Exists instances q.0)) (λ scope E h. q.1 scope E h))
  cond-keeps (Cond-F.In a q) = subst (λ c. CondKeeps (cond_frame instances c)) (sym (cond.rolls-In a q.0)) (subst CondKeeps (sym (frame-In instances a q.0)) (λ scope E h. q.1 scope E h))

  from-keeps : (y : From-F CondPart FromPart BlockPart) → LinesKeep (from_frame instances (roll-From (map-From _ _ _ Cond From Block (λ c. c.0) (λ f. f.0) (λ q. q.0) y))).lines
  from-keeps (From-F.Table o) = subst (λ f. LinesKeep (from_frame instances f).lines) (sym (from.rolls-Table o)) (subst (λ f. LinesKeep f.lines) (sym (frame-Table instances o)) (λ scope E h. h))
  from-keeps (From-F.Join f o on) = subst (λ f. LinesKeep (from_frame instances f).lines) (sym (from.rolls-Join f.0 o on.0)) (subst (λ f. LinesKeep f.lines) (sym (frame-Join instances f.0 o on.0)) (λ scope E h. on.1 _ _ (f.1 scope E h)))
  from-keeps (From-F.LeftJoin f o on) = subst (λ f. LinesKeep (from_frame instances f).lines) (sym (from.rolls-LeftJoin f.0 o on.0)) (subst (λ f. LinesKeep f.lines) (sym (frame-LeftJoin instances f.0 o on.0)) (λ scope E h. on.1 _ _ (f.1 scope E h)))
  from-keeps (From-F.Comma f g) = subst (λ f. LinesKeep (from_frame instances f).lines) (sym (from.rolls-Comma f.0 g.0)) (subst (λ f. LinesKeep f.lines) (sym (frame-Comma instances f.0 g.0)) (λ scope E h. g.1 scope _ (f.1 scope E h)))

  one-keeps : (q : Block) → LinesKeep (from_frame instances q.from).lines → FilterKeeps q.filter → FilterKeeps q.having → LinesKeep (block_frame instances q).lines
  one-keeps q from_ filter_ having_ = subst (λ b. LinesKeep b.lines) (sym (frame-Block instances q)) (λ scope E h.
      distinct-keeps q.distinct _ (filter-keeps q.having having_ _ _ (group-keeps q.grouped _ q.keys _ _ (filter-keeps q.filter filter_ _ _ (from_ scope E h)))))

  abbrev plain_block : Block-F CondPart FromPart BlockPart → Block-F Cond From Block
  plain_block = map-Block _ _ _ Cond From Block (λ c. c.0) (λ f. f.0) (λ q. q.0)

  block-keeps : (y : Block-F CondPart FromPart BlockPart) (w d : Option CondPart) → LinesKeep (block_frame instances (roll-Block (plain_block (record y { filter = w; having = d })))).lines
  block-keeps y None None = one-keeps (roll-Block (plain_block (record y { filter = None; having = None }))) y.from.1 tt tt
  block-keeps y None (Some d) = one-keeps (roll-Block (plain_block (record y { filter = None; having = Some d }))) y.from.1 tt d.1
  block-keeps y (Some c) None = one-keeps (roll-Block (plain_block (record y { filter = Some c; having = None }))) y.from.1 c.1 tt
  block-keeps y (Some c) (Some d) = one-keeps (roll-Block (plain_block (record y { filter = Some c; having = Some d }))) y.from.1 c.1 d.1

  blocks-keep : (q : Block) → LinesKeep (block_frame instances q).lines
  blocks-keep = ind-Block (λ c. CondKeeps (cond_frame instances c)) (λ f. LinesKeep (from_frame instances f).lines) (λ q. LinesKeep (block_frame instances q).lines)
      (λ x y is. subst (λ z. CondKeeps (cond_frame instances (roll-Cond z))) is (cond-keeps y)) (λ x y is. subst (λ z. LinesKeep (from_frame instances (roll-From z)).lines) is (from-keeps y))
      (λ x y is. subst (λ z. LinesKeep (block_frame instances (roll-Block z)).lines) is (block-keeps y y.filter y.having))

all-reverse : (lines : List Expr) → AreFramed lines → AreFramed (reverse lines)
all-reverse [] h = refl
all-reverse (x ∷ lines) h =
    let parts = and_parts _ _ h in
    ap (list_all is_framed) (reverse_onto lines x []) ∙ list_all-append is_framed (reverse lines) (x ∷ []) ∙ and_from _ _ (all-reverse lines parts.1) (and_from _ _ parts.0 refl)

-- a frame has no semijoin and no antijoin
pub frames_framed : (q : Query) → list_all is_framed (query_frame q) ≡ true
unfolding query_frame
frames_framed q = all-reverse ((block_frame q.tables q.block).lines [] []) (blocks-keep q.tables q.block [] [] refl)
