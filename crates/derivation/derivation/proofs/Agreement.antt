-- An expression has the same columns and bag over other classes, if those that it names have the same columns and bags there.
use Rattle.std.proofs.Common.{◌≡◌, refl, ℕ, Bool, true, ◌&&◌, List, [], ◌∷◌, ◌++◌}
use Rattle.std.specs.List.{list_all}
use Rattle.std.proofs.lemmas.Bool.{and_parts}
use Rattle.query.specs.declared.query.TableInstance.{TableInstance}
use Rattle.query.specs.Rows.{Tables}
use Rattle.algebra.specs.declared.condition.Condition.{Condition}
use Rattle.algebra.specs.declared.expr.Aggregation.{Aggregation}
use Rattle.algebra.specs.declared.expr.Expr.{Expr}
use Rattle.algebra.specs.declared.expr.Expr.TheVariants.{Get, Select, Join, LeftJoin, Semi, Anti, Keep, Distinct, Group}
use Rattle.algebra.specs.Alike.{IsSameIn, SameInputs}
use Rattle.algebra.specs.Bags.{SameBag}
use Rattle.algebra.specs.Expressions.{Classes, means, columns_of, is_formed, subqueries_pass, classes_pass, input_classes}
use Rattle.algebra.proofs.MentionedColumns.{each_has}
use Rattle.algebra.proofs.NamedClasses.{inputs-pass}
use Rattle.algebra.proofs.SameInputs.{expressions_keep_classes}

module _ (instances : List TableInstance) (own : List Aggregation) (D : Tables) (V W : Classes) (p : ℕ → Bool) (alike : (g : ℕ) → p g ≡ true → IsSameIn V W g g) where
  inputs : (x : Expr) → classes_pass p x ≡ true → SameInputs V W x
  inputs x pass g in_ = alike g (each_has p (input_classes x) (inputs-pass p x pass) g in_)

  pub means-agree : (x : Expr) → classes_pass p x ≡ true → SameBag (means instances D V x) (means instances D W x)
  means-agree x pass = (expressions_keep_classes instances D V W x (inputs x pass)).1

  pub columns-agree : (x : Expr) → classes_pass p x ≡ true → columns_of instances V.columns x ≡ columns_of instances W.columns x
  columns-agree x pass = (expressions_keep_classes instances D V W x (inputs x pass)).0

  columns-are : (g : ℕ) (others : List ℕ) (C : List Condition) → (list_all p (g ∷ others) && subqueries_pass p C) ≡ true → V.columns g ≡ W.columns g
  columns-are g others C pass = (alike g (and_parts _ _ (and_parts _ _ pass).0).0).0

  second-are : (g h : ℕ) (C : List Condition) → (list_all p (g ∷ h ∷ []) && subqueries_pass p C) ≡ true → V.columns h ≡ W.columns h
  second-are g h C pass = (alike h (and_parts _ _ (and_parts _ _ (and_parts _ _ pass).0).1).0).0

  pub formed-agree : (x : Expr) → classes_pass p x ≡ true → is_formed instances own V.columns x ≡ is_formed instances own W.columns x
  formed-agree (Get o) pass = refl
  formed-agree (Select C a) pass = refl
  formed-agree (Join C a b) pass = rw (columns-are a (b ∷ []) C pass, second-are a b C pass) refl
  formed-agree (LeftJoin C a b) pass = rw (columns-are a (b ∷ []) C pass, second-are a b C pass) refl
  formed-agree (Semi C a b) pass = rw (columns-are a (b ∷ []) C pass, second-are a b C pass) refl
  formed-agree (Anti S M a b) pass = rw (columns-are a (b ∷ []) (S ++ M) pass, second-are a b (S ++ M) pass) refl
  formed-agree (Keep K a) pass = rw (columns-are a [] [] pass) refl
  formed-agree (Distinct a) pass = refl
  formed-agree (Group K G a) pass = rw (columns-are a [] [] pass) refl
