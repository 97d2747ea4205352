-- The frame of a query means the query.
use Rattle.std.proofs.Common.{◌≡◌, refl, ap, sym, ◌∙◌, ◌-◌, true, List, [], map, length, reverse}
use Rattle.std.proofs.lemmas.List.{length-reverse, reverse-reverse}
use Rattle.query.specs.declared.query.TableInstance.{TableInstance}
use Rattle.query.specs.declared.query.Block.{Block}
use Rattle.query.specs.declared.query.Query.{Query}
use Rattle.query.specs.Rows.{Tables, IsFitting, count}
use Rattle.query.specs.Bound.{is_bound}
use Rattle.algebra.specs.declared.expr.Expr.{Expr}
use Rattle.algebra.specs.Classes.{class_rows, root_rows}
use Rattle.frame.specs.Frames.{AreOver, block_frame, query_frame, query_numbers, FrameMeans, last}
use Rattle.frame.proofs.FrameBlocks.{means-Block}
use Rattle.frame.proofs.FrameConds.{means-Compare, means-IsNull, means-Not, means-And, means-Or, means-Exists, means-In}
use Rattle.frame.proofs.FrameFroms.{means-Table, means-Join, means-LeftJoin, means-Comma}
use Rattle.frame.proofs.FrameRight.{CondMeans, FromMeans, BlockMeans, last_rows}
use Rattle.frame.proofs.Growth.{last-is}
use Rattle.frame.proofs.Induction.{Steps, each-block}

module _ (instances : List TableInstance) (D : Tables) (fits : IsFitting D) (over : AreOver D instances) where
  steps : Steps (CondMeans instances D) (FromMeans instances D) (BlockMeans instances D)
  steps = record {
    compare = means-Compare instances D;
    is_null = means-IsNull instances D;
    not = means-Not instances D;
    and = means-And instances D;
    or = means-Or instances D;
    exists = means-Exists instances D;
    in_ = means-In instances D;
    table = means-Table instances D fits over;
    join = means-Join instances D fits over;
    left_join = means-LeftJoin instances D fits over;
    comma = means-Comma instances D fits over;
    block = means-Block instances D fits;
  }

  -- a block's frame means the block
  pub means-block : (q : Block) → BlockMeans instances D q
  means-block = each-block (CondMeans instances D) (FromMeans instances D) (BlockMeans instances D) steps

-- the frame of a bound query means it
pub frame_means : (q : Query) → is_bound q ≡ true → FrameMeans q (query_frame q)
unfolding query_frame query_numbers
frame_means q bound D fits over e r =
    let lines : List Expr = (block_frame q.tables q.block).lines [] [] in
    let last_is : length (reverse lines) - 1 ≡ last lines = ap (λ n. n - 1) (length-reverse lines) ∙ sym (last-is lines) in
    let root : root_rows q.tables D (reverse lines) e ≡ last_rows q.tables D lines e =
    ap (λ L. class_rows q.tables D L (length (reverse lines) - 1) e) (reverse-reverse lines) ∙ ap (λ n. class_rows q.tables D lines n e) last_is in
    ap (λ rows. count r (map (λ s. map s ((block_frame q.tables q.block).shown [])) rows)) root
    ∙ ap (count r) (means-block q.tables D fits over q.block [] [] [] e bound refl)
