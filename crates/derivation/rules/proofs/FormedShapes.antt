-- What each form of shape asks to be well formed, and what lists of columns and of conditions keep as rules move them.
use Rattle.std.proofs.Common.{◌≡◌, refl, ap, sym, ◌∙◌, ℕ, Bool, true, false, not, ◌&&◌, ◌||◌, List, ◌++◌}
use Rattle.std.specs.List.{list_all}
use Rattle.std.specs.List.Sorted.{IsStrictlyIncreasing}
use Rattle.std.proofs.lemmas.Bool.{and_parts, and_from, or_left, or_right, not-true, not_from_false}
use Rattle.std.proofs.lemmas.List.Folds.{list_all-append}
use Rattle.std.proofs.Math.Bool.{or_comm, or_assoc}
use Rattle.query.specs.declared.query.TableInstance.{TableInstance}
use Rattle.algebra.specs.declared.condition.Condition.{Condition}
use Rattle.algebra.specs.declared.expr.Aggregation.{Aggregation}
use Rattle.algebra.specs.Columns.{has, rising, is_subset, is_same_set, are_disjoint}
use Rattle.algebra.specs.Conditions.{all_classes, all_columns}
use Rattle.algebra.specs.ConjunctParts.{union, part, rest}
use Rattle.algebra.specs.Expressions.{aggregate_columns, is_plain, is_query_column, sides_formed}
use Rattle.algebra.proofs.ConjunctLists.{conjuncts-all}
use Rattle.algebra.proofs.ConjunctSplits.{split_passes}
use Rattle.algebra.proofs.Equations.{all_columns_and, all_classes_and}
use Rattle.algebra.proofs.Lists.{two}
use Rattle.algebra.proofs.MentionedColumns.{each_has, all_has}
use Rattle.algebra.proofs.Sets.{has-rising, one-rising, rises-rising, rising-again}
use Rattle.laws.proofs.Expressions.{has-both}
use Rattle.rules.specs.declared.shape.Shape.{Shape, roll-Shape, fold-roll-Shape, map-Shape}
use Rattle.rules.specs.declared.shape.Shape.TheOpen.{Shape-F}
use Rattle.rules.specs.declared.shape.Shape.TheVariants.{Class, Select, Join, LeftJoin, Semi, Anti, Keep, Distinct, Group, rolls-Class, rolls-Select, rolls-Join, rolls-LeftJoin, rolls-Semi, rolls-Anti, rolls-Keep, rolls-Distinct, rolls-Group}
use Rattle.rules.specs.Formed.{Formed, are_formed, are_joined, formed_layer, formed, groups_formed}

-- the classes of both lists' conditions pass
pub classes-union : (p : ℕ → Bool) (C D : List Condition) → list_all (λ d. all_classes d p) C ≡ true → list_all (λ d. all_classes d p) D ≡ true → list_all (λ d. all_classes d p) (union C D) ≡ true
classes-union p C D one other = conjuncts-all (λ d. all_classes d p) (λ a b ds. all_classes_and a b ds p) (C ++ D) ∙ list_all-append (λ d. all_classes d p) C D ∙ and_from _ _ one other

module _ (instances : List TableInstance) (own : List Aggregation) (columns : ℕ → List ℕ) (founds : ℕ → Bool) where
  abbrev pub F : Shape → Formed
  F = formed instances own columns founds

  formed-at : (x : Shape-F Shape) (s : Shape) → roll-Shape x ≡ s → F s ≡ formed_layer instances own columns founds (map-Shape Shape Formed F x)
  unfolding formed
  formed-at x s is = ap (formed instances own columns founds) (sym is) ∙ fold-roll-Shape Formed (formed_layer instances own columns founds) x

  pub formed_class : (g : ℕ) → F (Class g) ≡ record { columns = columns g; is_formed = founds g }
  formed_class g = formed-at (Shape-F.Class g) _ (rolls-Class g)

  pub formed_select : (C : List Condition) (x : Shape) → F (Select C x) ≡ record { columns = (F x).columns; is_formed = (F x).is_formed && are_formed instances own columns founds C }
  formed_select C x = formed-at (Shape-F.Select C x) _ (rolls-Select C x)

  pub formed_join : (C : List Condition) (a b : Shape) → F (Join C a b) ≡ record { columns = rising ((F a).columns ++ (F b).columns); is_formed = are_joined instances own columns founds C (F a) (F b) }
  formed_join C a b = formed-at (Shape-F.Join C a b) _ (rolls-Join C a b)

  pub formed_left_join : (C : List Condition) (a b : Shape) → F (LeftJoin C a b) ≡ record { columns = rising ((F a).columns ++ (F b).columns); is_formed = are_joined instances own columns founds C (F a) (F b) }
  formed_left_join C a b = formed-at (Shape-F.LeftJoin C a b) _ (rolls-LeftJoin C a b)

  pub formed_semi : (C : List Condition) (a b : Shape) → F (Semi C a b) ≡ record { columns = (F a).columns; is_formed = are_joined instances own columns founds C (F a) (F b) }
  formed_semi C a b = formed-at (Shape-F.Semi C a b) _ (rolls-Semi C a b)

  pub formed_anti : (S M : List Condition) (a b : Shape) → F (Anti S M a b) ≡ record { columns = (F a).columns; is_formed = are_joined instances own columns founds (S ++ M) (F a) (F b) }
  formed_anti S M a b = formed-at (Shape-F.Anti S M a b) _ (rolls-Anti S M a b)

  pub formed_keep : (L : List ℕ) (x : Shape) → F (Keep L x) ≡ record { columns = L; is_formed = (F x).is_formed && is_subset L (F x).columns }
  formed_keep L x = formed-at (Shape-F.Keep L x) _ (rolls-Keep L x)

  pub formed_distinct : (x : Shape) → F (Distinct x) ≡ F x
  formed_distinct x = formed-at (Shape-F.Distinct x) _ (rolls-Distinct x)

  pub formed_group : (L : List ℕ) (G : List Aggregation) (x : Shape)
      → F (Group L G x) ≡ record { columns = rising (L ++ aggregate_columns G); is_formed = (F x).is_formed && groups_formed instances own columns founds L G (F x).columns }
  formed_group L G x = formed-at (Shape-F.Group L G x) _ (rolls-Group L G x)

  -- ---- a shape that is well formed, with its columns

  pub record IsFormed (s : Shape) (L : List ℕ) : Type 0 where
    pub formed_ : (F s).is_formed ≡ true
    pub columns_ : (F s).columns ≡ L

  -- conditions that may stand
  pub record AreFormed (C : List Condition) : Type 0 where
    pub known : list_all (λ d. all_classes d founds) C ≡ true
    pub named : list_all (λ d. all_columns d (is_query_column instances own)) C ≡ true

  pub are-formed : (C : List Condition) → AreFormed C → are_formed instances own columns founds C ≡ true
  are-formed C are = and_from _ _ are.known are.named

  pub class-formed : (g : ℕ) → founds g ≡ true → IsFormed (Class g) (columns g)
  class-formed g is = record { formed_ = ap (λ f. f.is_formed) (formed_class g) ∙ is; columns_ = ap (λ f. f.columns) (formed_class g) }

  pub select-formed : (C : List Condition) (x : Shape) (L : List ℕ) → IsFormed x L → AreFormed C → IsFormed (Select C x) L
  select-formed C x L is are = record {
    formed_ = ap (λ f. f.is_formed) (formed_select C x) ∙ and_from _ _ is.formed_ (are-formed C are);
    columns_ = ap (λ f. f.columns) (formed_select C x) ∙ is.columns_;
  }

  pub joined : (C : List Condition) (a b : Shape) (A B : List ℕ) → IsFormed a A → IsFormed b B → AreFormed C → is_plain C ≡ true → are_disjoint A B ≡ true
      → are_joined instances own columns founds C (F a) (F b) ≡ true
  joined C a b A B left right are plain apart =
      and_from _ _ (and_from _ _ left.formed_ right.formed_) (and_from _ _ (are-formed C are)
      (ap (λ X. sides_formed C X (F b).columns) left.columns_ ∙ ap (sides_formed C A) right.columns_ ∙ and_from _ _ plain apart))

  pub join-formed : (C : List Condition) (a b : Shape) (A B : List ℕ) → IsFormed a A → IsFormed b B → AreFormed C → is_plain C ≡ true → are_disjoint A B ≡ true
      → IsFormed (Join C a b) (rising (A ++ B))
  join-formed C a b A B left right are plain apart = record {
    formed_ = ap (λ f. f.is_formed) (formed_join C a b) ∙ joined C a b A B left right are plain apart;
    columns_ = ap (λ f. f.columns) (formed_join C a b) ∙ two (λ X Y. rising (X ++ Y)) left.columns_ right.columns_;
  }

  pub left_join-formed : (C : List Condition) (a b : Shape) (A B : List ℕ) → IsFormed a A → IsFormed b B → AreFormed C → is_plain C ≡ true → are_disjoint A B ≡ true
      → IsFormed (LeftJoin C a b) (rising (A ++ B))
  left_join-formed C a b A B left right are plain apart = record {
    formed_ = ap (λ f. f.is_formed) (formed_left_join C a b) ∙ joined C a b A B left right are plain apart;
    columns_ = ap (λ f. f.columns) (formed_left_join C a b) ∙ two (λ X Y. rising (X ++ Y)) left.columns_ right.columns_;
  }

  pub semi-formed : (C : List Condition) (a b : Shape) (A B : List ℕ) → IsFormed a A → IsFormed b B → AreFormed C → is_plain C ≡ true → are_disjoint A B ≡ true → IsFormed (Semi C a b) A
  semi-formed C a b A B left right are plain apart = record {
    formed_ = ap (λ f. f.is_formed) (formed_semi C a b) ∙ joined C a b A B left right are plain apart;
    columns_ = ap (λ f. f.columns) (formed_semi C a b) ∙ left.columns_;
  }

  pub anti-formed : (S M : List Condition) (a b : Shape) (A B : List ℕ) → IsFormed a A → IsFormed b B → AreFormed (S ++ M) → is_plain (S ++ M) ≡ true → are_disjoint A B ≡ true
      → IsFormed (Anti S M a b) A
  anti-formed S M a b A B left right are plain apart = record {
    formed_ = ap (λ f. f.is_formed) (formed_anti S M a b) ∙ joined (S ++ M) a b A B left right are plain apart;
    columns_ = ap (λ f. f.columns) (formed_anti S M a b) ∙ left.columns_;
  }

  pub keep-formed : (L : List ℕ) (x : Shape) (X : List ℕ) → IsFormed x X → is_subset L X ≡ true → IsFormed (Keep L x) L
  keep-formed L x X is within = record {
    formed_ = ap (λ f. f.is_formed) (formed_keep L x) ∙ and_from _ _ is.formed_ (ap (is_subset L) is.columns_ ∙ within);
    columns_ = ap (λ f. f.columns) (formed_keep L x);
  }

  pub distinct-formed : (x : Shape) (X : List ℕ) → IsFormed x X → IsFormed (Distinct x) X
  distinct-formed x X is = record { formed_ = ap (λ f. f.is_formed) (formed_distinct x) ∙ is.formed_; columns_ = ap (λ f. f.columns) (formed_distinct x) ∙ is.columns_ }

  pub group-formed : (L : List ℕ) (G : List Aggregation) (x : Shape) (X : List ℕ) → IsFormed x X → groups_formed instances own columns founds L G X ≡ true → IsFormed (Group L G x) (rising (L ++ aggregate_columns G))
  group-formed L G x X is all = record {
    formed_ = ap (λ f. f.is_formed) (formed_group L G x) ∙ and_from _ _ is.formed_ (ap (groups_formed instances own columns founds L G) is.columns_ ∙ all);
    columns_ = ap (λ f. f.columns) (formed_group L G x);
  }

  -- ---- conditions that are moved

  pub part-formed : (p : Condition → Bool) (C : List Condition) → AreFormed C → AreFormed (part p C)
  part-formed p C are = record {
    known = (and_parts _ _ (sym (split_passes (λ d. all_classes d founds) p C) ∙ are.known)).0;
    named = (and_parts _ _ (sym (split_passes (λ d. all_columns d (is_query_column instances own)) p C) ∙ are.named)).0;
  }

  pub rest-formed : (p : Condition → Bool) (C : List Condition) → AreFormed C → AreFormed (rest p C)
  rest-formed p C are = record {
    known = (and_parts _ _ (sym (split_passes (λ d. all_classes d founds) p C) ∙ are.known)).1;
    named = (and_parts _ _ (sym (split_passes (λ d. all_columns d (is_query_column instances own)) p C) ∙ are.named)).1;
  }

  pub union-formed : (C D : List Condition) → AreFormed C → AreFormed D → AreFormed (union C D)
  union-formed C D one other = record {
    known = classes-union founds C D one.known other.known;
    named = conjuncts-all (λ d. all_columns d (is_query_column instances own)) (λ a b ds. all_columns_and a b ds (is_query_column instances own)) (C ++ D)
        ∙ list_all-append (λ d. all_columns d (is_query_column instances own)) C D ∙ and_from _ _ one.named other.named;
  }

pub part-plain : (p : Condition → Bool) (C : List Condition) → is_plain C ≡ true → is_plain (part p C) ≡ true
part-plain p C plain = (and_parts _ _ (sym (split_passes (λ d. all_classes d (λ g. false)) p C) ∙ plain)).0

pub rest-plain : (p : Condition → Bool) (C : List Condition) → is_plain C ≡ true → is_plain (rest p C) ≡ true
rest-plain p C plain = (and_parts _ _ (sym (split_passes (λ d. all_classes d (λ g. false)) p C) ∙ plain)).1

-- ---- columns

-- no column is in both
abbrev pub AreApart : List ℕ → List ℕ → Type 0
AreApart A B = (k : ℕ) → has A k ≡ true → has B k ≡ false

pub apart-at : (A B : List ℕ) → are_disjoint A B ≡ true → AreApart A B
apart-at A B apart k in_ = not-true _ (each_has (λ k. not (has B k)) A apart k in_)

pub apart-from : (A B : List ℕ) → AreApart A B → are_disjoint A B ≡ true
apart-from A B apart = all_has (λ k. not (has B k)) A (λ k in_. not_from_false _ (apart k in_))

pub apart-turned : (A B : List ℕ) → AreApart A B → AreApart B A
apart-turned A B apart k in_ = by (has A k) refl
  where
    by : (b : Bool) → has A k ≡ b → has A k ≡ false
    by true also = cc (apart k also, in_)
    by false none = none

pub in-first : (A B : List ℕ) (k : ℕ) → has A k ≡ true → has (rising (A ++ B)) k ≡ true
in-first A B k in_ = has-both A B k ∙ or_left _ _ in_

pub in-second : (A B : List ℕ) (k : ℕ) → has B k ≡ true → has (rising (A ++ B)) k ≡ true
in-second A B k in_ = has-both A B k ∙ or_right _ _ in_

-- what shares nothing with two sets shares nothing with both, and the other way round
pub apart-both : (A B C : List ℕ) → AreApart A B → AreApart A C → AreApart A (rising (B ++ C))
apart-both A B C one other k in_ = has-both B C k ∙ ap (λ b. b || has C k) (one k in_) ∙ other k in_

pub apart-of_first : (A B C : List ℕ) → AreApart (rising (A ++ B)) C → AreApart A C
apart-of_first A B C apart k in_ = apart k (in-first A B k in_)

pub apart-of_second : (A B C : List ℕ) → AreApart (rising (A ++ B)) C → AreApart B C
apart-of_second A B C apart k in_ = apart k (in-second A B k in_)

-- sets with the same columns are the same rising list
pub rising-equal : (A B : List ℕ) → ((k : ℕ) → has A k ≡ has B k) → rising A ≡ rising B
rising-equal A B same = one-rising (rising A) (rising B) (rises-rising A) (rises-rising B) (λ k. has-rising k A ∙ same k ∙ sym (has-rising k B))

append-has : (A B : List ℕ) (k : ℕ) → has (A ++ B) k ≡ (has A k || has B k)
append-has A B k = sym (has-rising k (A ++ B)) ∙ has-both A B k

pub rising-turned : (A B : List ℕ) → rising (A ++ B) ≡ rising (B ++ A)
rising-turned A B = rising-equal (A ++ B) (B ++ A) (λ k. append-has A B k ∙ or_comm (has A k) (has B k) ∙ sym (append-has B A k))

pub rising-along : (A B C : List ℕ) → rising (rising (A ++ B) ++ C) ≡ rising (A ++ rising (B ++ C))
rising-along A B C = rising-equal (rising (A ++ B) ++ C) (A ++ rising (B ++ C)) (λ k.
    append-has (rising (A ++ B)) C k ∙ ap (λ b. b || has C k) (has-both A B k) ∙ or_assoc (has A k) (has B k) (has C k)
    ∙ ap (λ b. has A k || b) (sym (has-both B C k)) ∙ sym (append-has A (rising (B ++ C)) k))

pub same-increasing : (A B : List ℕ) → IsStrictlyIncreasing A → IsStrictlyIncreasing B → is_same_set A B ≡ true → A ≡ B
same-increasing A B rise grow same = sym (rising-again A rise) ∙ rising-equal A B each ∙ rising-again B grow
  where
    parts : (is_subset A B ≡ true) × (is_subset B A ≡ true)
    parts = and_parts (is_subset A B) (is_subset B A) same

    both-ways : (a b : Bool) → (a ≡ true → b ≡ true) → (b ≡ true → a ≡ true) → a ≡ b
    both-ways true true there back = refl
    both-ways true false there back = cc (there refl)
    both-ways false true there back = cc (back refl)
    both-ways false false there back = refl

    each : (k : ℕ) → has A k ≡ has B k
    each k = both-ways (has A k) (has B k) (each_has (has B) A parts.0 k) (each_has (has A) B parts.1 k)

pub subset-along : (A B C : List ℕ) → is_subset A B ≡ true → is_subset B C ≡ true → is_subset A C ≡ true
subset-along A B C one other = all_has (has C) A (λ k in_. each_has (has C) B other k (each_has (has B) A one k in_))
