-- What the shapes that rules give mean.
use Rattle.std.specs.Prelude.{ℕ, ◌&&◌, List, [], ◌∷◌, ◌++◌}
use Rattle.algebra.specs.declared.condition.Condition.{Condition}
use Rattle.algebra.specs.Bags.{Bag, select, join, left_join, semi, anti, keep, distinct, group}
use Rattle.algebra.specs.Columns.{has, rising}
use Rattle.algebra.specs.Conditions.{holds, allows}
use Rattle.algebra.specs.Expressions.{Classes, with_aggregates, aggregate_columns}
use Rattle.rules.specs.declared.shape.Shape.{Shape, fold-Shape}
use Rattle.rules.specs.declared.shape.Shape.TheOpen.{Shape-F}
use Rattle.rules.specs.declared.shape.Shape.TheVariants.{Select}

-- the columns and the rows of a shape
pub record Meant : Type 0 where
  pub columns : List ℕ
  pub rows : Bag

-- each operator has the meaning of its expression
abbrev pub shape_layer : Classes → Shape-F Meant → Meant
shape_layer W (Shape-F.Class g) = record { columns = W.columns g; rows = W.rows g }
shape_layer W (Shape-F.Select C x) = record { columns = x.columns; rows = select (holds W.rows C) x.rows }
shape_layer W (Shape-F.Join C a b) = record { columns = rising (a.columns ++ b.columns); rows = join (holds W.rows C) (has b.columns) a.rows b.rows }
shape_layer W (Shape-F.LeftJoin C a b) = record { columns = rising (a.columns ++ b.columns); rows = left_join (holds W.rows C) (has b.columns) a.rows b.rows }
shape_layer W (Shape-F.Semi C a b) = record { columns = a.columns; rows = semi (holds W.rows C) (has b.columns) a.rows b.rows }
shape_layer W (Shape-F.Anti S M a b) = record { columns = a.columns; rows = anti (λ r. holds W.rows S r && allows W.rows M r) (has b.columns) a.rows b.rows }
shape_layer W (Shape-F.Keep K x) = record { columns = K; rows = keep (has K) x.rows }
shape_layer W (Shape-F.Distinct x) = record { columns = x.columns; rows = distinct x.columns x.rows }
shape_layer W (Shape-F.Group L G x) = record { columns = rising (L ++ aggregate_columns G); rows = group L (with_aggregates G) x.rows }

unfoldable pub meant : Classes → Shape → Meant
meant W = fold-Shape Meant (shape_layer W)

-- the selection, or its input where there are no conjuncts
abbrev pub selected : List Condition → Shape → Shape
selected [] x = x
selected (c ∷ C) x = Select (c ∷ C) x
