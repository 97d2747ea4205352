-- Of groups that pass a test of keys alone: they are the groups of the rows that pass.
use Rattle.std.proofs.Common.{◌≡◌, refl, ap, sym, ◌∙◌, ℕ, ◌==◌, Bool, true, false, not, ◌&&◌, if◌then◌else◌, List, [], ◌∷◌, map, filter}
use Rattle.std.specs.List.{list_all, list_any}
use Rattle.std.proofs.lemmas.Bool.{and_parts, eqb-true, cases_Bool, false≢true}
use Rattle.algebra.specs.declared.expr.Aggregation.{Aggregation}
use Rattle.algebra.specs.Columns.{ColumnSet, has, is_subset}
use Rattle.algebra.specs.Bags.{Env, Test, Bag, SameBag, lay, same_on, distinct_on, select, group}
use Rattle.algebra.specs.Expressions.{with_aggregates, aggregation_formed}
use Rattle.algebra.proofs.SameBags.{same_bag-equal}
use Rattle.algebra.proofs.UniqueRows.{same_on-reads}
use Rattle.laws.specs.Rewriting.{IsBoth, ReadsOnly}

-- ---- filters

-- two filters pass in either order
filters-turned : (p q : Test) (L : List Env) → filter p (filter q L) ≡ filter q (filter p L)
filters-turned p q [] = refl
filters-turned p q (r ∷ L) = by (p r) (q r) refl refl (filters-turned p q L)
  where
    by : (a b : Bool) → p r ≡ a → q r ≡ b → filter p (filter q L) ≡ filter q (filter p L)
        → filter p (if b then r ∷ filter q L else filter q L) ≡ filter q (if a then r ∷ filter p L else filter p L)
    by true true first second later = rw (first, second, later) refl
    by true false first second later = rw second later
    by false true first second later = rw first later
    by false false first second later = later

-- of rows that pass a weaker test, those pass that pass of all rows
filter-weaker : (p q : Test) → ((r : Env) → q r ≡ true → p r ≡ true) → (L : List Env) → filter q (filter p L) ≡ filter q L
filter-weaker p q weaker [] = refl
filter-weaker p q weaker (r ∷ L) = by (p r) (q r) refl (weaker r) (filter-weaker p q weaker L)
  where
    by : (a b : Bool) → q r ≡ b → (b ≡ true → a ≡ true) → filter q (filter p L) ≡ filter q L
        → filter q (if a then r ∷ filter p L else filter p L) ≡ (if b then r ∷ filter q L else filter q L)
    by true true is weak later = rw (is, later) refl
    by true false is weak later = rw is later
    by false true is weak later = cc (weak refl)
    by false false is weak later = later

-- what is made of rows passes where the rows do and it passes the rest
made-pass : (c p q : Test) (f g : Env → Env) → ((r : Env) → c (f r) ≡ (p r && q (f r))) → ((r : Env) → p r ≡ true → g r ≡ f r) → (L : List Env) → filter c (map f L) ≡ filter q (map g (filter p L))
made-pass c p q f g both same [] = refl
made-pass c p q f g both same (r ∷ L) = by (p r) refl (both r) (made-pass c p q f g both same L)
  where
    by : (b : Bool) → p r ≡ b → c (f r) ≡ (b && q (f r)) → filter c (map f L) ≡ filter q (map g (filter p L))
        → (if c (f r) then f r ∷ filter c (map f L) else filter c (map f L)) ≡ filter q (map g (if b then r ∷ filter p L else filter p L))
    by true is pass later = rw (pass, same r is, later) refl
    by false is pass later = rw pass later

-- ---- groups

module _ (K : List ℕ) (p : Test) (goes : (r s : Env) → same_on K r s ≡ true → p r ≡ p s) where
  -- the first rows of those that pass are those first rows that pass
  first-pass : (L : List Env) → distinct_on K (filter p L) ≡ filter p (distinct_on K L)
  first-pass [] = refl
  first-pass (r ∷ L) = by (p r) refl (first-pass L)
    where
      others : Test
      others s = not (same_on K r s)

      not-same : p r ≡ false → (s : Env) → p s ≡ true → others s ≡ true
      not-same isnt s is = from (same_on K r s) refl
        where
          from : (b : Bool) → same_on K r s ≡ b → not b ≡ true
          from true alike = cc (isnt, goes r s alike, is)
          from false alike = refl

      by : (b : Bool) → p r ≡ b → distinct_on K (filter p L) ≡ filter p (distinct_on K L)
          → distinct_on K (if b then r ∷ filter p L else filter p L) ≡ (if b then r ∷ filter p (filter others (distinct_on K L)) else filter p (filter others (distinct_on K L)))
      by true is later = ap (λ M. r ∷ filter others M) later ∙ ap (λ M. r ∷ M) (filters-turned others p (distinct_on K L))
      by false isnt later = later ∙ sym (filter-weaker others p (not-same isnt) (distinct_on K L))

  -- the rows of a group are the same where its row passes
  group-passes : (r : Env) → p r ≡ true → (L : List Env) → filter (same_on K r) (filter p L) ≡ filter (same_on K r) L
  group-passes r is L = filter-weaker p (same_on K r) (λ s alike. sym (goes r s alike) ∙ is) L

-- what is made of a group's rows and its row leaves the columns as they are in that row
abbrev pub Leaves : ColumnSet → (List Env → Env → Env) → Type 0
Leaves K add = (L : List Env) (r : Env) (c : ℕ) → K c ≡ true → add L r c ≡ r c

-- a part of the conditions that reads keys alone is asked of the rows before they are grouped
pub selects_go_below_group : (k : ℕ) (K : List ℕ) (add : List Env → Env → Env) (c p q : Test) (x : Bag) → IsBoth c p q → ReadsOnly (has (k ∷ K)) p → Leaves (has (k ∷ K)) add
    → SameBag (select c (group (k ∷ K) add x)) (select q (group (k ∷ K) add (select p x)))
selects_go_below_group k K add c p q x both reads leaves = same_bag-equal _ _ (λ e.
    made-pass c p q (row (x e) e) (row (filter p (x e)) e) (λ r. both (row (x e) e r) ∙ ap (λ b. b && q (row (x e) e r)) (reads (row (x e) e r) r (kept (x e) e r)))
    (λ r is. ap (λ M. add M (lay (has keys) r e)) (group-passes keys p goes r is (x e))) (distinct_on keys (x e))
    ∙ ap (λ M. filter q (map (row (filter p (x e)) e) M)) (sym (first-pass keys p goes (x e))))
  where
    keys : List ℕ
    keys = k ∷ K

    row : List Env → Env → Env → Env
    row L e r = add (filter (same_on keys r) L) (lay (has keys) r e)

    goes : (r s : Env) → same_on keys r s ≡ true → p r ≡ p s
    goes r s alike = reads r s (λ c in_. same_on-reads keys r s c alike in_)

    kept : (L : List Env) (e r : Env) (c : ℕ) → has keys c ≡ true → row L e r c ≡ r c
    kept L e r c in_ = leaves (filter (same_on keys r) L) (lay (has keys) r e) c in_ ∙ (rw in_ refl)

-- ---- aggregates

-- an aggregate leaves the columns of the rows, since its own is new
pub aggregates-leave : (own : List Aggregation) (X : List ℕ) (G : List Aggregation) → list_all (aggregation_formed own X) G ≡ true → Leaves (has X) (with_aggregates G)
aggregates-leave own X [] formed L r c in_ = refl
aggregates-leave own X (a ∷ G) formed L r c in_ =
    let parts = and_parts (aggregation_formed own X a) (list_all (aggregation_formed own X) G) formed in
    rw (new (a.column == c) refl (and_parts _ (not (has X a.column)) parts.0).1) (aggregates-leave own X G parts.1 L r c in_)
  where
    new : (b : Bool) → (a.column == c) ≡ b → not (has X a.column) ≡ true → (a.column == c) ≡ false
    new true is none = cc (ap (has X) (eqb-true a.column c is), in_, none)
    new false isnt none = isnt
