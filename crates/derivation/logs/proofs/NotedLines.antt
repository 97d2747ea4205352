-- What is known once there is a line more.
use Rattle.std.proofs.Common.{◌≡◌, refl, ap, sym, ◌∙◌, subst, ℕ, ◌+◌, Bool, true, false, ◌||◌, ◌==◌, if◌then◌else◌, List, [], ◌∷◌, ◌≤◌, length, Result, Ok, Err, OnErr, OnOk, arith}
use Rattle.std.specs.declared.alloc.AllocError.{AllocError}
use Rattle.std.proofs.lemmas.Bool.{eqb-true}
use Rattle.std.proofs.lemmas.List.{length-map, get_or_past}
use Rattle.query.specs.declared.query.TableInstance.{TableInstance}
use Rattle.algebra.specs.declared.expr.Expr.{Expr}
use Rattle.algebra.specs.declared.expr.Expr.TheVariants.{Keep}
use Rattle.algebra.specs.Classes.{class_columns, class_free}
use Rattle.algebra.specs.Columns.{ColumnSet, has, columns_at}
use Rattle.algebra.specs.Expressions.{columns_of, free_of}
use Rattle.props.specs.declared.fact.Fact.{Fact}
use Rattle.props.specs.declared.fact.FactSets.{FactSets}
use Rattle.props.specs.Facts.{with_fact}
use Rattle.props.specs.Knowledge.{Knowledge}
use Rattle.derivation.specs.declared.line.Line.{Line}
use Rattle.derivation.specs.Logs.{Log, entry, entries, least, united, are_same, facts, facts_among}
use Rattle.logs.specs.declared.known.Known.{Known}
use Rattle.logs.specs.Knowledge.{expr_columns, expr_free, AreInStep, HasClass, IsAlike, IsClosed, IsKnown}
use Rattle.logs.specs.Sets.{AreUnited, AreOfBoth, root_of, facts_of}
use Rattle.logs.proofs.MovedSets.{alike-facts, alike-roots, alike-sets}
use Rattle.logs.proofs.UnitedFacts.{is_either, united-test, among-alike, among-both, turned-facts, apart-tests, one-class}

one-knowledge : {c d : ℕ → List ℕ} {f h : ℕ → ColumnSet} {r q : ℕ → ℕ} {F G : ℕ → FactSets} → c ≡ d → f ≡ h → r ≡ q → F ≡ G
    → (let first : Knowledge = record { columns = c; free = f; root = r; facts = F } in first) ≡ (let second : Knowledge = record { columns = d; free = h; root = q; facts = G } in second)
one-knowledge a b e i = rw (a, b, e, i) refl

module _ (instances : List TableInstance) (E : Log) (k l : Known) (line : Line) (is : IsKnown instances E k) where
  abbrev cols : ℕ → List ℕ
  cols = class_columns instances (entries E)

  abbrev free : ℕ → ColumnSet
  free = class_free instances (entries E)

  count : length k.columns.items ≡ length (entries E)
  count = is.count ∙ sym (length-map E entry)

  columns-are : columns_at k.columns.items ≡ cols
  columns-are = ap (λ K. K.columns) is.known

  free-are : (λ g. has (columns_at k.free.items g)) ≡ free
  free-are = ap (λ K. K.free) is.known

  roots-are : (g : ℕ) → root_of k.sets g ≡ least E g
  roots-are g = ap (λ K. K.root g) is.known

  facts-are : (g : ℕ) → facts_of k.sets g ≡ facts E g
  facts-are g = ap (λ K. K.facts g) is.known

  module _ (K : List ℕ) (F : ColumnSet) (also : HasClass k K F l) (own-columns : K ≡ columns_of instances cols (entry line)) (own-free : (c : ℕ) → F c ≡ free_of cols free (entry line) c) where
    columns-more : (g : ℕ) → columns_at l.columns.items g ≡ class_columns instances (entries (line ∷ E)) g
    columns-more g =
        also.columns_ g ∙ ap (λ n. if g == n then K else columns_at k.columns.items g) count
        ∙ ap (λ x. if g == length (entries E) then x else columns_at k.columns.items g) own-columns
        ∙ ap (λ f. if g == length (entries E) then columns_of instances cols (entry line) else f g) columns-are

    free-more : (g c : ℕ) → has (columns_at l.free.items g) c ≡ class_free instances (entries (line ∷ E)) g c
    free-more g c =
        also.free_ g c ∙ ap (λ n. if g == n then F c else has (columns_at k.free.items g) c) count
        ∙ ap (λ x. if g == length (entries E) then x else has (columns_at k.free.items g) c) (own-free c)
        ∙ ap (λ f. if g == length (entries E) then free_of cols free (entry line) c else f g c) free-are

    more-count : length l.columns.items ≡ length (line ∷ E)
    more-count = also.count ∙ ap (λ n. n + 1) is.count ∙ omega arith

    noted : AreInStep l → ((g : ℕ) → root_of l.sets g ≡ least (line ∷ E) g) → ((g : ℕ) → facts_of l.sets g ≡ facts (line ∷ E) g) → IsKnown instances (line ∷ E) l
    noted step roots facts_ = record { step = step; count = more-count; known = one-knowledge (λ i g. columns-more g i) (λ i g c. free-more g c i) (λ i g. roots g i) (λ i g. facts_ g i) }

    -- where no sets become one
    pub noted-plain : AreInStep l → ((g : ℕ) → root_of l.sets g ≡ root_of k.sets g) → ((g : ℕ) → facts_of l.sets g ≡ facts_of k.sets g)
        → ((g : ℕ) → least E g ≡ least (line ∷ E) g) → ((g : ℕ) → facts E g ≡ facts (line ∷ E) g) → IsKnown instances (line ∷ E) l
    noted-plain step roots facts_ leasts more = noted step (λ g. roots g ∙ roots-are g ∙ leasts g) (λ g. facts_ g ∙ facts-are g ∙ more g)

    -- where a fact is learnt
    pub noted-learnt : (h : ℕ) (f : Fact) → AreInStep l → ((g : ℕ) → root_of l.sets g ≡ root_of k.sets g)
        → ((g : ℕ) → facts_of l.sets g ≡ (if root_of k.sets g == root_of k.sets h then with_fact (facts_of k.sets g) f else facts_of k.sets g))
        → ((g : ℕ) → least (line ∷ E) g ≡ least E g) → ((g : ℕ) → facts (line ∷ E) g ≡ (if least E g == least E h then with_fact (facts E g) f else facts E g)) → IsKnown instances (line ∷ E) l
    noted-learnt h f step roots learnt leasts facts_ = noted step (λ g. roots g ∙ roots-are g ∙ sym (leasts g)) (λ g.
        learnt g
        ∙ ap (λ n. if n == root_of k.sets h then with_fact (facts_of k.sets g) f else facts_of k.sets g) (roots-are g)
        ∙ ap (λ n. if least E g == n then with_fact (facts_of k.sets g) f else facts_of k.sets g) (roots-are h)
        ∙ ap (λ F. if least E g == least E h then with_fact F f else F) (facts-are g) ∙ sym (facts_ g))

    -- ---- where the sets of two classes become one

    module _ (a b : ℕ) (one : AreUnited k.sets a b l.sets) where
      united-roots : (g : ℕ) → root_of l.sets g ≡ united (least E a) (least E b) (least E g)
      united-roots g =
          one.roots g ∙ ap (λ n. united n (root_of k.sets b) (root_of k.sets g)) (roots-are a) ∙ ap (λ n. united (least E a) n (root_of k.sets g)) (roots-are b) ∙ ap (united (least E a) (least E b)) (roots-are g)

      abbrev in_one : ℕ → Bool
      in_one g = is_either (least E a) (least E b) (least E g)

      test-is : (g : ℕ) → (root_of k.sets g == root_of k.sets a || root_of k.sets g == root_of k.sets b) ≡ in_one g
      test-is g =
          ap (λ n. root_of k.sets g == n || root_of k.sets g == root_of k.sets b) (roots-are a) ∙ ap (λ n. root_of k.sets g == least E a || root_of k.sets g == n) (roots-are b)
          ∙ ap (λ n. n == least E a || n == least E b) (roots-are g)

      united-facts : (g : ℕ) → facts_of l.sets g ≡ facts_among (λ h. united (least E a) (least E b) (least E g) == united (least E a) (least E b) (least E h)) E
      united-facts g = by (in_one g) refl
        where
          differ : (c : Bool) → (least E a == least E b) ≡ c → in_one g ≡ true → facts_of l.sets g ≡ facts_among (λ h. is_either (least E a) (least E b) (least E h)) E
          differ true is in-one =
              one.nothing (ap (λ n. n == root_of k.sets b) (roots-are a) ∙ ap (λ n. least E a == n) (roots-are b) ∙ is) g ∙ facts-are g ∙ one-class (least E a) (least E b) (eqb-true _ _ is) E g in-one
          differ false is in-one =
              among-both (λ h. least E h == least E a) (λ h. least E h == least E b) (apart-tests (least E a) (least E b) is E) E (facts_of l.sets g)
              (subst (λ F. AreOfBoth F (facts_among (λ h. least E h == least E b) E) (facts_of l.sets g)) (facts-are a ∙ turned-facts E a)
              (subst (λ F. AreOfBoth (facts_of k.sets a) F (facts_of l.sets g)) (facts-are b ∙ turned-facts E b)
              (one.facts (ap (λ n. n == root_of k.sets b) (roots-are a) ∙ ap (λ n. least E a == n) (roots-are b) ∙ is) g (test-is g ∙ in-one))))

          by : (c : Bool) → in_one g ≡ c → facts_of l.sets g ≡ facts_among (λ h. united (least E a) (least E b) (least E g) == united (least E a) (least E b) (least E h)) E
          by true in-one = differ (least E a == least E b) refl in-one ∙ sym (among-alike _ _ (λ h. united-test (least E a) (least E b) (least E g) (least E h) true _ in-one refl) E)
          by false in-none = one.others g (test-is g ∙ in-none) ∙ facts-are g ∙ sym (among-alike _ _ (λ h. united-test (least E a) (least E b) (least E g) (least E h) false _ in-none refl) E)

      pub noted-united : AreInStep l → ((g : ℕ) → united (least E a) (least E b) (least E g) ≡ least (line ∷ E) g) → ((same : ℕ → Bool) → facts_among same (line ∷ E) ≡ facts_among same E) → IsKnown instances (line ∷ E) l
      noted-united step roots facts_ = noted step (λ g. united-roots g ∙ roots g) (λ g.
          united-facts g ∙ among-alike _ _ (λ h. ap (λ n. n == united (least E a) (least E b) (least E h)) (roots g) ∙ ap (λ n. least (line ∷ E) g == n) (roots h)) E ∙ sym (facts_ (are_same (line ∷ E) g)))

  -- ---- what a line founds, or passes on

  pub founds-columns : (x : Expr) → expr_columns instances k x ≡ columns_of instances cols x
  founds-columns x = ap (λ f. columns_of instances f x) columns-are

  pub founds-free : (x : Expr) (c : ℕ) → expr_free k x c ≡ free_of cols free x c
  founds-free x c = ap (λ f. free_of f (λ g. has (columns_at k.free.items g)) x c) columns-are ∙ ap (λ f. free_of cols f x c) free-are

  -- a line that founds no class has no free columns
  pub idle-free : IsClosed instances E → (c : ℕ) → false ≡ free_of cols free (Keep [] 0) c
  idle-free closed c = sym (ap (λ b. (b || false) || false) (closed c))

-- what is known of lists that are the same
pub known-alike : (instances : List TableInstance) (E : Log) (k l : Known) → IsKnown instances E k → AreInStep l → l.columns.items ≡ k.columns.items → l.free.items ≡ k.free.items
    → ((g : ℕ) → root_of l.sets g ≡ root_of k.sets g) → ((g : ℕ) → facts_of l.sets g ≡ facts_of k.sets g) → IsKnown instances E l
known-alike instances E k l is step columns free roots facts_ = record {
  step = step;
  count = ap length columns ∙ is.count;
  known = one-knowledge (λ i g. columns_at (columns i) g) (λ i g. has (columns_at (free i) g)) (λ i g. roots g i) (λ i g. facts_ g i) ∙ is.known;
}

pub known-of-alike : (instances : List TableInstance) (E : Log) (k l : Known) → IsKnown instances E k → IsAlike k l → IsKnown instances E l
known-of-alike instances E k l is alike =
    let step : AreInStep l = record {
      sets = alike-sets k.sets l.sets alike.sets is.step.sets;
      columns = ap length alike.columns ∙ is.step.columns ∙ sym (ap length alike.sets.sets);
      free = let own = ap length alike.free in let others = ap length alike.sets.sets in let before = is.step.free in omega (arith, own, others, before);
    } in
    known-alike instances E k l is step alike.columns alike.free (alike-roots k.sets l.sets alike.sets) (alike-facts k.sets l.sets alike.sets)

pub on-any-err : {A X : Type 0} (r : Result A AllocError) → X → OnErr r X
on-any-err (Ok a) x = tt
on-any-err (Err e) x = x

pub on-err-both : {A X Y Z : Type 0} (r : Result A AllocError) → (X → Y → Z) → OnErr r X → OnErr r Y → OnErr r Z
on-err-both (Ok a) f x y = tt
on-err-both (Err e) f x y = f x y

-- what two clauses of a call that went well say together
pub on-ok-both : {A X Y Z : Type 0} (r : Result A AllocError) → (X → Y → Z) → OnOk r X → OnOk r Y → OnOk r Z
on-ok-both (Ok a) f x y = f x y
on-ok-both (Err e) f x y = tt

-- another spelling of what is added
pub class-as : (k l : Known) (K : List ℕ) (F G : ColumnSet) → ((c : ℕ) → F c ≡ G c) → HasClass k K F l → HasClass k K G l
class-as k l K F G same also = record {
  count = also.count;
  columns_ = also.columns_;
  free_ = λ g c. also.free_ g c ∙ ap (λ b. if g == length k.columns.items then b else has (columns_at k.free.items g) c) (same c);
}

-- ---- free columns

-- a class past the end of the list has none
free-past : (xs : List (List ℕ)) (n : ℕ) → length xs ≤ n → (g c : ℕ) → has (columns_at xs g) c ≡ (if g == n then false else has (columns_at xs g) c)
free-past xs n short g c = by (g == n) refl
  where
    by : (b : Bool) → (g == n) ≡ b → has (columns_at xs g) c ≡ (if b then false else has (columns_at xs g) c)
    by true e = ap (λ ys. has ys c) (get_or_past xs g [] (subst (λ m. length xs ≤ m) (sym (eqb-true g n e)) short))
    by false e = refl

-- a class more, without columns
pub idle-class : (k l : Known) → AreInStep k → length l.columns.items ≡ length k.columns.items + 1
    → ((g : ℕ) → columns_at l.columns.items g ≡ (if g == length k.columns.items then [] else columns_at k.columns.items g)) → l.free.items ≡ k.free.items → HasClass k [] (λ c. false) l
idle-class k l step count columns free = record {
  count = count;
  columns_ = columns;
  free_ = λ g c. ap (λ xs. has (columns_at xs g) c) free ∙ free-past k.free.items (length k.columns.items) (let short = step.free in let all = step.columns in omega (arith, short, all)) g c;
}

has-either : (b : Bool) (xs ys : List ℕ) (c : ℕ) → has (if b then xs else ys) c ≡ (if b then has xs c else has ys c)
has-either true xs ys c = refl
has-either false xs ys c = refl

-- a class more, with its columns and free columns
pub founded-class : (k l : Known) (K own : List ℕ) (n : ℕ) → n ≡ length k.columns.items → length l.columns.items ≡ length k.columns.items + 1
    → ((g : ℕ) → columns_at l.columns.items g ≡ (if g == length k.columns.items then K else columns_at k.columns.items g))
    → ((g : ℕ) → columns_at l.free.items g ≡ (if g == n then own else columns_at k.free.items g)) → HasClass k K (has own) l
founded-class k l K own n is count columns free = record {
  count = count;
  columns_ = columns;
  free_ = λ g c. ap (λ ys. has ys c) (free g) ∙ has-either (g == n) own (columns_at k.free.items g) c ∙ ap (λ m. if g == m then has own c else has (columns_at k.free.items g) c) is;
}
