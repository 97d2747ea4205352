-- Every expression over classes that fit has rows that fit, and so has every class.
use Rattle.std.proofs.Common.{◌≡◌, refl, ap, sym, ◌∙◌, subst, ℕ, ◌-◌, ◌==◌, Bool, true, false, not, ◌||◌, ◌&&◌, List, [], ◌∷◌, ◌++◌, length, slice_get, Option, Some, None, inl, inr, if◌then◌else◌, filter}
use Rattle.std.specs.List.{list_any, list_all}
use Rattle.std.proofs.lemmas.Bool.{and_parts, and_from, or_left, or_right, cases_Bool}
use Rattle.std.proofs.Math.Bool.{or-false}
use Rattle.query.specs.declared.query.TableInstance.{TableInstance}
use Rattle.query.specs.Rows.{Tables, value_at}
use Rattle.algebra.specs.declared.expr.Aggregation.{Aggregation}
use Rattle.algebra.specs.declared.expr.Expr.{Expr}
use Rattle.algebra.specs.declared.expr.Expr.TheVariants.{Get, Select, Join, LeftJoin, Semi, Anti, Keep, Distinct, Group}
use Rattle.algebra.specs.Columns.{ColumnSet, has, is_subset, rising}
use Rattle.algebra.specs.Bags.{Test, Bag, lay, has_match, join, left_join, group}
use Rattle.algebra.specs.Conditions.{holds, allows}
use Rattle.algebra.specs.Classes.{classes}
use Rattle.algebra.specs.Expressions.{Classes, children, conditions, means, columns_of, free_of, mentioned, is_formed, aggregate_columns, aggregation_formed, are_different, instance_columns, instance_row, get_rows, get_columns, with_aggregates}
use Rattle.algebra.proofs.Puts.{among-append}
use Rattle.algebra.proofs.Sets.{has-rising}
use Rattle.laws.specs.Fitting.{Fits, AreFitting, ClassesFit}
use Rattle.laws.proofs.Groups.{group_columns, formed-reads, group-fits}
use Rattle.laws.proofs.Mentions.{Reads, holds-reads, unsure-reads}
use Rattle.laws.proofs.Operators.{Agrees, select-fits, join-rows, left_join-rows, matched-rows, keep-fits, distinct-fits}
use Rattle.laws.proofs.Overlays.{lay-over, in_subset, mapped, more_free}

-- ---- tables

pub get-fits : (t : Option TableInstance) (D : Tables) (F : ColumnSet) → Fits (has (get_columns t)) F (get_rows t D)
get-fits None D F e d on = refl
get-fits (Some t) D F e d on =
    mapped (λ row. instance_row t row d) (λ r. lay (has (instance_columns t)) r d) (λ row. instance_row t row e)
    (λ row. sym (lay-over (has (instance_columns t)) (λ c. value_at (c - t.first_column) row) e d)) (D.rows t.table)

-- ---- expressions

pub with-columns : (K L F : ColumnSet) (x : Bag) → ((c : ℕ) → K c ≡ L c) → Fits L F x → Fits K F x
with-columns K L F x same fits = subst (λ K. Fits K F x) (λ i c. sym (same c) i) fits

pub has-both : (K L : List ℕ) (c : ℕ) → has (rising (K ++ L)) c ≡ (has K c || has L c)
has-both K L c = has-rising c (K ++ L) ∙ among-append c K L

module _ (instances : List TableInstance) (own : List Aggregation) (D : Tables) (W : Classes) (fits : AreFitting W) where
  -- the columns of an expression's classes
  abbrev inner : Expr → ColumnSet
  inner x c = list_any (λ g. has (W.columns g) c) (children x)

  -- a class whose rows an expression takes
  child-fits : (x : Expr) (g : ℕ) → ((c : ℕ) → W.free g c ≡ true → list_any (λ h. W.free h c) (children x) ≡ true) → Fits (has (W.columns g)) (free_of W.columns W.free x) (W.rows g)
  child-fits x g in_ = more_free (has (W.columns g)) (W.free g) (free_of W.columns W.free x) (W.rows g) (λ c free. or_left _ _ (in_ c free)) (fits g)

  -- a test that reads what the expression's conditions mention agrees on rows of its classes
  test-agrees : (x : Expr) (K : ColumnSet) (p : Test) → ((c : ℕ) → inner x c ≡ K c) → Reads W fits (mentioned W.columns W.free (conditions x)) p → Agrees K (free_of W.columns W.free x) p
  test-agrees x K p is reads e d on r = reads _ _ (λ c in_. elim (cases_Bool (K c)) [
    | inl there ↦ rw there refl
    | inr out ↦ rw out (sym (on c (or_right _ _ (and_from _ _ in_ (ap not (is c ∙ out))))))
  ])

  first-fits : (x : Expr) (a : ℕ) (more : List ℕ) → children x ≡ a ∷ more → Fits (has (W.columns a)) (free_of W.columns W.free x) (W.rows a)
  first-fits x a more is = child-fits x a (λ c free. ap (list_any (λ h. W.free h c)) is ∙ or_left _ _ free)

  second-fits : (x : Expr) (a b : ℕ) (more : List ℕ) → children x ≡ a ∷ b ∷ more → Fits (has (W.columns b)) (free_of W.columns W.free x) (W.rows b)
  second-fits x a b more is = child-fits x b (λ c free. ap (list_any (λ h. W.free h c)) is ∙ or_right (W.free a c) _ (or_left _ _ free))

  -- an expression over two classes, and a test that reads what its conditions mention
  module _ (x : Expr) (a b : ℕ) (are : children x ≡ a ∷ b ∷ []) (p : Test) (reads : Reads W fits (mentioned W.columns W.free (conditions x)) p) where
    abbrev left : ColumnSet
    left = has (W.columns a)

    abbrev right : ColumnSet
    right = has (W.columns b)

    abbrev free : ColumnSet
    free = free_of W.columns W.free x

    agrees : Agrees (λ c. left c || right c) free p
    agrees = test-agrees x (λ c. left c || right c) p (λ c. ap (list_any (λ g. has (W.columns g) c)) are ∙ ap (λ o. left c || o) (or-false (right c))) reads

    join-fits : Fits (has (rising (W.columns a ++ W.columns b))) free (join p right (W.rows a) (W.rows b))
    join-fits =
        with-columns _ (λ c. left c || right c) free (join p right (W.rows a) (W.rows b)) (has-both (W.columns a) (W.columns b))
        (join-rows left right free p (W.rows a) (W.rows b) agrees (first-fits x a (b ∷ []) are) (second-fits x a b [] are))

    left_join-fits : Fits (has (rising (W.columns a ++ W.columns b))) free (left_join p right (W.rows a) (W.rows b))
    left_join-fits =
        with-columns _ (λ c. left c || right c) free (left_join p right (W.rows a) (W.rows b)) (has-both (W.columns a) (W.columns b))
        (left_join-rows left right free p (W.rows a) (W.rows b) agrees (first-fits x a (b ∷ []) are) (second-fits x a b [] are))

    matched-fits : (t : Bool → Bool) → Fits left free (λ e. filter (λ r. t (has_match p right (W.rows b e) r)) (W.rows a e))
    matched-fits t e d on =
        matched-rows left right free p (W.rows a) (W.rows b) agrees (first-fits x a (b ∷ []) are) (second-fits x a b [] are) e d on t

  pub expression-fits : (x : Expr) → is_formed instances own W.columns x ≡ true → Fits (has (columns_of instances W.columns x)) (free_of W.columns W.free x) (means instances D W x)
  expression-fits (Get o) formed = get-fits (slice_get instances o) D (free_of W.columns W.free (Get o))
  expression-fits (Select C a) formed =
      select-fits (has (W.columns a)) (free_of W.columns W.free (Select C a)) (holds W.rows C) (W.rows a)
      (test-agrees (Select C a) (has (W.columns a)) (holds W.rows C) (λ c. or-false (has (W.columns a) c)) (holds-reads W fits C)) (first-fits (Select C a) a [] refl)
  expression-fits (Join C a b) formed = join-fits (Join C a b) a b refl (holds W.rows C) (holds-reads W fits C)
  expression-fits (LeftJoin C a b) formed = left_join-fits (LeftJoin C a b) a b refl (holds W.rows C) (holds-reads W fits C)
  expression-fits (Semi C a b) formed = matched-fits (Semi C a b) a b refl (holds W.rows C) (holds-reads W fits C) (λ t. t)
  expression-fits (Anti S M a b) formed = matched-fits (Anti S M a b) a b refl (λ r. holds W.rows S r && allows W.rows M r) (unsure-reads W fits S M) not
  expression-fits (Keep K a) formed =
      keep-fits (has K) (has (W.columns a)) (free_of W.columns W.free (Keep K a)) (W.rows a) (in_subset K (W.columns a) formed) (first-fits (Keep K a) a [] refl)
  expression-fits (Distinct a) formed = distinct-fits (W.columns a) (free_of W.columns W.free (Distinct a)) (W.rows a) (first-fits (Distinct a) a [] refl)
  expression-fits (Group K G a) formed =
      let parts = and_parts (is_subset K (W.columns a) && are_different (aggregate_columns G)) (list_all (aggregation_formed own (W.columns a)) G) formed in
      let keys : is_subset K (W.columns a) ≡ true = (and_parts (is_subset K (W.columns a)) (are_different (aggregate_columns G)) parts.0).0 in
      let free : ColumnSet = free_of W.columns W.free (Group K G a) in
      with-columns _ (group_columns K G) free (group K (with_aggregates G) (W.rows a)) (has-both K (aggregate_columns G))
      (group-fits K (W.columns a) G free (W.rows a) (in_subset K (W.columns a) keys) (formed-reads own (W.columns a) G parts.1) (first-fits (Group K G a) a [] refl))

-- ---- classes

pub classes_are_fitting : ClassesFit
classes_are_fitting instances own D [] formed g = λ e d on. refl
classes_are_fitting instances own D (x ∷ E) formed g =
    by (g == length E) (expression-fits instances own D W (classes_are_fitting instances own D E formed.2) x formed.1) (classes_are_fitting instances own D E formed.2 g)
  where
    W : Classes
    W = classes instances D E

    by : (b : Bool) → Fits (has (columns_of instances W.columns x)) (free_of W.columns W.free x) (means instances D W x) → Fits (has (W.columns g)) (W.free g) (W.rows g)
        → Fits (has (if b then columns_of instances W.columns x else W.columns g)) (λ c. if b then free_of W.columns W.free x c else W.free g c) (λ e. if b then means instances D W x e else W.rows g e)
    by true new old = new
    by false new old = old
