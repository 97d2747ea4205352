-- What each form of shape means: one equation each.
use Rattle.std.proofs.Common.{◌≡◌, refl, ap, sym, ◌∙◌, subst, ℕ, true, ◌&&◌, List, [], ◌∷◌, ◌++◌, filter}
use Rattle.algebra.specs.declared.condition.Condition.{Condition}
use Rattle.algebra.specs.Columns.{has, rising}
use Rattle.algebra.specs.Bags.{Env, Bag, SameBag, select, join, left_join, semi, anti, keep, distinct, group}
use Rattle.algebra.specs.Conditions.{holds, allows}
use Rattle.algebra.specs.declared.expr.Aggregation.{Aggregation}
use Rattle.algebra.specs.Expressions.{Classes, with_aggregates, aggregate_columns}
use Rattle.algebra.proofs.Lists.{two}
use Rattle.algebra.proofs.SameBags.{same_bag-equal}
use Rattle.rules.specs.declared.shape.Shape.{Shape, roll-Shape, fold-roll-Shape, map-Shape}
use Rattle.rules.specs.declared.shape.Shape.TheOpen.{Shape-F}
use Rattle.rules.specs.declared.shape.Shape.TheVariants.{Class, Select, Join, LeftJoin, Semi, Anti, Keep, Distinct, Group, rolls-Class, rolls-Select, rolls-Join, rolls-LeftJoin, rolls-Semi, rolls-Anti, rolls-Keep, rolls-Distinct, rolls-Group}
use Rattle.rules.specs.Shapes.{Meant, shape_layer, meant, selected}

module _ (W : Classes) where
  meant-at : (x : Shape-F Shape) (s : Shape) → roll-Shape x ≡ s → meant W s ≡ shape_layer W (map-Shape Shape Meant (meant W) x)
  unfolding meant
  meant-at x s is = ap (meant W) (sym is) ∙ fold-roll-Shape Meant (shape_layer W) x

  -- a class means its rows
  pub class-is : (g : ℕ) → meant W (Class g) ≡ record { columns = W.columns g; rows = W.rows g }
  class-is g = meant-at (Shape-F.Class g) _ (rolls-Class g)

  -- an operator over inputs of which it is known what they mean
  pub select-is : (C : List Condition) (x : Shape) (m : Meant) → meant W x ≡ m → meant W (Select C x) ≡ record { columns = m.columns; rows = select (holds W.rows C) m.rows }
  select-is C x m is = meant-at (Shape-F.Select C x) _ (rolls-Select C x) ∙ ap (λ m. record { columns = m.columns; rows = select (holds W.rows C) m.rows }) is

  pub join-is : (C : List Condition) (a b : Shape) (m n : Meant) → meant W a ≡ m → meant W b ≡ n
      → meant W (Join C a b) ≡ record { columns = rising (m.columns ++ n.columns); rows = join (holds W.rows C) (has n.columns) m.rows n.rows }
  join-is C a b m n is other =
      meant-at (Shape-F.Join C a b) _ (rolls-Join C a b) ∙ two (λ m n. record { columns = rising (m.columns ++ n.columns); rows = join (holds W.rows C) (has n.columns) m.rows n.rows }) is other

  pub left_join-is : (C : List Condition) (a b : Shape) (m n : Meant) → meant W a ≡ m → meant W b ≡ n
      → meant W (LeftJoin C a b) ≡ record { columns = rising (m.columns ++ n.columns); rows = left_join (holds W.rows C) (has n.columns) m.rows n.rows }
  left_join-is C a b m n is other =
      meant-at (Shape-F.LeftJoin C a b) _ (rolls-LeftJoin C a b)
      ∙ two (λ m n. record { columns = rising (m.columns ++ n.columns); rows = left_join (holds W.rows C) (has n.columns) m.rows n.rows }) is other

  pub semi-is : (C : List Condition) (a b : Shape) (m n : Meant) → meant W a ≡ m → meant W b ≡ n
      → meant W (Semi C a b) ≡ record { columns = m.columns; rows = semi (holds W.rows C) (has n.columns) m.rows n.rows }
  semi-is C a b m n is other =
      meant-at (Shape-F.Semi C a b) _ (rolls-Semi C a b) ∙ two (λ m n. record { columns = m.columns; rows = semi (holds W.rows C) (has n.columns) m.rows n.rows }) is other

  pub anti-is : (S M : List Condition) (a b : Shape) (m n : Meant) → meant W a ≡ m → meant W b ≡ n
      → meant W (Anti S M a b) ≡ record { columns = m.columns; rows = anti (λ r. holds W.rows S r && allows W.rows M r) (has n.columns) m.rows n.rows }
  anti-is S M a b m n is other =
      meant-at (Shape-F.Anti S M a b) _ (rolls-Anti S M a b)
      ∙ two (λ m n. record { columns = m.columns; rows = anti (λ r. holds W.rows S r && allows W.rows M r) (has n.columns) m.rows n.rows }) is other

  pub keep-is : (K : List ℕ) (x : Shape) (m : Meant) → meant W x ≡ m → meant W (Keep K x) ≡ record { columns = K; rows = keep (has K) m.rows }
  keep-is K x m is = meant-at (Shape-F.Keep K x) _ (rolls-Keep K x) ∙ ap (λ m. record { columns = K; rows = keep (has K) m.rows }) is

  pub distinct-is : (x : Shape) (m : Meant) → meant W x ≡ m → meant W (Distinct x) ≡ record { columns = m.columns; rows = distinct m.columns m.rows }
  distinct-is x m is = meant-at (Shape-F.Distinct x) _ (rolls-Distinct x) ∙ ap (λ m. record { columns = m.columns; rows = distinct m.columns m.rows }) is

  pub group-is : (L : List ℕ) (G : List Aggregation) (x : Shape) (m : Meant) → meant W x ≡ m
      → meant W (Group L G x) ≡ record { columns = rising (L ++ aggregate_columns G); rows = group L (with_aggregates G) m.rows }
  group-is L G x m is =
      meant-at (Shape-F.Group L G x) _ (rolls-Group L G x) ∙ ap (λ m. record { columns = rising (L ++ aggregate_columns G); rows = group L (with_aggregates G) m.rows }) is

  -- no conjuncts select all rows
  pub selected-same : (C : List Condition) (x : Shape) (m : Meant) → meant W x ≡ m → SameBag (select (holds W.rows C) m.rows) (meant W (selected C x)).rows
  selected-same [] x m is = same_bag-equal _ _ (λ e. all (m.rows e) ∙ ap (λ m. m.rows e) (sym is))
    where
      all : (rows : List Env) → filter (λ r. true) rows ≡ rows
      all [] = refl
      all (r ∷ rows) = ap (λ rs. r ∷ rs) (all rows)
  selected-same (c ∷ C) x m is = same_bag-equal _ _ (λ e. ap (λ m. m.rows e) (sym (select-is (c ∷ C) x m is)))

  -- a shape has the bag of what it means
  pub has-bag : (b : Bag) (s : Shape) (m : Meant) → meant W s ≡ m → SameBag b m.rows → SameBag b (meant W s).rows
  has-bag b s m is same = subst (λ m. SameBag b m.rows) (sym is) same
