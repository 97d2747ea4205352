-- Aggregates in order of their columns: the columns rise, and each is found as it was.
use Rattle.std.proofs.Common.{◌≡◌, refl, ap, sym, ◌∙◌, ℕ, zero, suc, ◌+◌, ◌<◌, ◌≤◌, Bool, true, false, not, ◌&&◌, ◌||◌, ◌==◌, if◌then◌else◌, List, [], ◌∷◌, map, length, arith}
use Rattle.std.specs.Prelude.{slice_index_or, slice_set}
use Rattle.std.specs.List.{list_all, insert, position_or_len}
use Rattle.std.proofs.lemmas.Bool.{cond_both, and_parts, or_parts, eqb-true, eqb-false, eq-eqb, ne_eqb, lt-ltb, le-ltb, leb-true, leb-false, not-true}
use Rattle.query.specs.Aggregates.{aggregate_of}
use Rattle.algebra.specs.declared.expr.Aggregation.{Aggregation}
use Rattle.algebra.specs.AggregateOrder.{ends_search, put_aggregate, by_column, AreByColumn}
use Rattle.algebra.specs.Bags.{Env}
use Rattle.algebra.specs.Columns as columns
use Rattle.algebra.specs.Columns.{has, rising}
use Rattle.algebra.specs.Expressions.{with_aggregates, aggregate_columns, are_different}
use Rattle.algebra.proofs.Sets.{increasing-rising, different-rising, has-rising}
use Rattle.algebra.proofs.Ordered.{and-turn}
use Rattle.values.specs.declared.value.Value.{Value}

-- ---- columns

-- where an aggregate is put, its column is put
put-columns : (a : Aggregation) (G : List Aggregation) → aggregate_columns (put_aggregate a G) ≡ columns.insert a.column (aggregate_columns G)
put-columns a [] = refl
put-columns a (b ∷ G) =
    cond_both (ends_search a b) _ _ (λ H. aggregate_columns H ≡ columns.insert a.column (b.column ∷ aggregate_columns G))
    (λ low. cond_both (b.column == a.column) _ _ (λ H. aggregate_columns H ≡ columns.insert a.column (b.column ∷ aggregate_columns G))
    (λ is. let e : b.column ≡ a.column = eqb-true _ _ is in rw (le-ltb a.column b.column (omega (arith, e)), eq-eqb a.column b.column (sym e)) (ap (λ k. k ∷ aggregate_columns G) (sym e)))
    (λ isnt.
    let le : a.column ≤ b.column = leb-true _ _ low in
    let ne : (b.column ≡ a.column → ⊥) = eqb-false _ _ isnt in
    rw (lt-ltb a.column b.column (omega (arith, le, ne))) refl))
    (λ high.
    let gt : b.column < a.column = leb-false _ _ high in
    rw (le-ltb a.column b.column (omega (arith, gt)), ne_eqb a.column b.column (λ e. absurd (omega (arith, gt, e)))) (ap (λ ks. b.column ∷ ks) (put-columns a G)))

ordered-columns : (G : List Aggregation) → aggregate_columns (by_column G) ≡ rising (aggregate_columns G)
ordered-columns [] = refl
ordered-columns (a ∷ G) = put-columns a (by_column G) ∙ ap (columns.insert a.column) (ordered-columns G)

pub are_by_column : (G : List Aggregation) → AreByColumn (by_column G)
are_by_column G = rw (ordered-columns G) (increasing-rising (aggregate_columns G))

pub has-ordered : (G : List Aggregation) (c : ℕ) → has (aggregate_columns (by_column G)) c ≡ has (aggregate_columns G) c
has-ordered G c = ap (λ ks. has ks c) (ordered-columns G) ∙ has-rising c (aggregate_columns G)

pub different-ordered : (G : List Aggregation) → are_different (aggregate_columns (by_column G)) ≡ true
different-ordered G = rw (ordered-columns G) (different-rising (aggregate_columns G))

-- a column that no aggregate writes
pub aggregates-outside : (A : List Aggregation) (rows : List Env) (r : Env) (c : ℕ) → has (aggregate_columns A) c ≡ false → with_aggregates A rows r c ≡ r c
aggregates-outside [] rows r c absent = refl
aggregates-outside (a ∷ A) rows r c absent = by (a.column == c) absent (aggregates-outside A rows r c)
  where
    here : Value
    here = aggregate_of a.aggregate (length rows) (λ k. map (λ s. s k) rows)

    by : (b : Bool) → (b || has (aggregate_columns A) c) ≡ false → (has (aggregate_columns A) c ≡ false → with_aggregates A rows r c ≡ r c) → (if b then here else with_aggregates A rows r c) ≡ r c
    by true absent later = cc
    by false absent later = later absent

-- ---- values

once : {X : Type 0} (t : Bool) (x y w : X) → (if t then x else w) ≡ (if t then x else if t then y else w)
once true x y w = refl
once false x y w = refl

turned : {X : Type 0} (s t : Bool) (x y w : X) → (s ≡ true → t ≡ true → ⊥) → (if s then y else if t then x else w) ≡ (if t then x else if s then y else w)
turned true true x y w apart = absurd (apart refl refl)
turned true false x y w apart = refl
turned false true x y w apart = refl
turned false false x y w apart = refl

-- an aggregate that is put at its place is found before those that were there
with-put : (a : Aggregation) (G : List Aggregation) (rows : List Env) (r : Env) (c : ℕ) → with_aggregates (put_aggregate a G) rows r c ≡ with_aggregates (a ∷ G) rows r c
with-put a [] rows r c = refl
with-put a (b ∷ G) rows r c =
    let P : List Aggregation → Type 0 = λ H. with_aggregates H rows r c ≡ with_aggregates (a ∷ b ∷ G) rows r c in
    cond_both (ends_search a b) _ _ P
    (λ low. cond_both (b.column == a.column) _ _ P (λ is. let e : b.column ≡ a.column = eqb-true _ _ is in rw e (once (a.column == c) _ _ _)) (λ isnt. refl))
    (λ high.
    let gt : b.column < a.column = leb-false _ _ high in
    ap (λ w. if b.column == c then aggregate_of b.aggregate (length rows) (λ k. map (λ s. s k) rows) else w) (with-put a G rows r c)
    ∙ turned (b.column == c) (a.column == c) _ _ _ (λ e f. let k : b.column ≡ c = eqb-true _ _ e in let l : a.column ≡ c = eqb-true _ _ f in omega (arith, gt, k, l)))

-- in order they are the same aggregates
pub with-ordered : (G : List Aggregation) → with_aggregates (by_column G) ≡ with_aggregates G
with-ordered G = λ i rows r c. at G rows r c i
  where
    at : (H : List Aggregation) (rows : List Env) (r : Env) (c : ℕ) → with_aggregates (by_column H) rows r c ≡ with_aggregates H rows r c
    at [] rows r c = refl
    at (a ∷ H) rows r c = with-put a (by_column H) rows r c ∙ ap (λ w. if a.column == c then aggregate_of a.aggregate (length rows) (λ k. map (λ s. s k) rows) else w) (at H rows r c)

-- ---- tests

module _ (p : Aggregation → Bool) where
  put-each : (a : Aggregation) (G : List Aggregation) → has (aggregate_columns G) a.column ≡ false → list_all p (put_aggregate a G) ≡ (p a && list_all p G)
  put-each a [] out = refl
  put-each a (b ∷ G) out =
      let parts = or_parts (b.column == a.column) _ out in
      cond_both (ends_search a b) _ _ (λ H. list_all p H ≡ (p a && (p b && list_all p G)))
      (λ low. rw parts.0 refl)
      (λ high. ap (λ t. p b && t) (put-each a G parts.1) ∙ and-turn (p b) (p a) (list_all p G))

  -- where each stands in a column of its own, a test passes them in order as it passes them
  pub each-ordered : (G : List Aggregation) → are_different (aggregate_columns G) ≡ true → list_all p (by_column G) ≡ list_all p G
  each-ordered [] differ = refl
  each-ordered (a ∷ G) differ =
      let parts = and_parts (not (has (aggregate_columns G) a.column)) _ differ in
      put-each a (by_column G) (has-ordered G a.column ∙ not-true _ parts.0) ∙ ap (λ t. p a && t) (each-ordered G parts.1)

-- ---- places

set-step : (t : Bool) (a b d : Aggregation) (G rest : List Aggregation) (n m : ℕ) → m ≡ suc n → (if not t then m else zero) < suc (length G) → b ≡ slice_index_or (d ∷ G) (if not t then m else zero) b → (b.column == a.column) ≡ true
    → (n < length G → b ≡ slice_index_or G n b → slice_set G n a ≡ rest)
    → slice_set (d ∷ G) (if not t then m else zero) a ≡ (if t then (if d.column == a.column then a ∷ G else a ∷ d ∷ G) else d ∷ rest)
set-step true a b d G rest n m up lt at same later = let is : (d.column == a.column) ≡ true = ap (λ x. x.column == a.column) (sym at) ∙ same in rw is refl
set-step false a b d G rest n m up lt at same later =
    ap (λ k. slice_set (d ∷ G) k a) up ∙ ap (λ l. d ∷ l) (later (omega (arith, lt, up)) (at ∙ ap (λ k. slice_index_or (d ∷ G) k b) up))

-- an aggregate goes in the place of one of its column
pub put-there : (a b : Aggregation) (G : List Aggregation) → position_or_len (ends_search a) G < length G → b ≡ slice_index_or G (position_or_len (ends_search a) G) b → (b.column == a.column) ≡ true
    → slice_set G (position_or_len (ends_search a) G) a ≡ put_aggregate a G
put-there a b [] lt at same = absurd (omega (arith, lt))
put-there a b (d ∷ G) lt at same =
    set-step (ends_search a d) a b d G (put_aggregate a G) (position_or_len (ends_search a) G) (1 + position_or_len (ends_search a) G) (omega arith) lt at same (λ low there. put-there a b G low there same)

new-step : (t : Bool) (a d : Aggregation) (G rest : List Aggregation) (n m : ℕ) → m ≡ suc n
    → ((b : Aggregation) → (if not t then m else zero) < suc (length G) → b ≡ slice_index_or (d ∷ G) (if not t then m else zero) b → (b.column == a.column) ≡ false)
    → (((b : Aggregation) → n < length G → b ≡ slice_index_or G n b → (b.column == a.column) ≡ false) → insert G n a ≡ rest)
    → insert (d ∷ G) (if not t then m else zero) a ≡ (if t then (if d.column == a.column then a ∷ G else a ∷ d ∷ G) else d ∷ rest)
new-step true a d G rest n m up other later = let isnt : (d.column == a.column) ≡ false = other d (omega arith) refl in rw isnt refl
new-step false a d G rest n m up other later =
    ap (λ k. insert (d ∷ G) k a) up ∙ ap (λ l. d ∷ l) (later (λ b lt at. other b (omega (arith, lt, up)) (at ∙ sym (ap (λ k. slice_index_or (d ∷ G) k b) up))))

-- or between the others
pub put-new : (a : Aggregation) (G : List Aggregation) → ((b : Aggregation) → position_or_len (ends_search a) G < length G → b ≡ slice_index_or G (position_or_len (ends_search a) G) b → (b.column == a.column) ≡ false)
    → insert G (position_or_len (ends_search a) G) a ≡ put_aggregate a G
put-new a [] other = refl
put-new a (d ∷ G) other =
    new-step (ends_search a d) a d G (put_aggregate a G) (position_or_len (ends_search a) G) (1 + position_or_len (ends_search a) G) (omega arith) other (put-new a G)
