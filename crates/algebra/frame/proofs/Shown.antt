-- What a block's last lines show: rows projected to the block's own columns, and one of each.
use Rattle.std.proofs.Common.{◌≡◌, refl, ap, sym, ◌∙◌, ℕ, Bool, true, false, ◌&&◌, not, nat_lt, ◌==◌, if◌then◌else◌, List, [], ◌∷◌, ◌++◌, map, filter}
use Rattle.std.specs.List.{list_all, AllByRecursion}
use Rattle.std.specs.declared.cmp.Ordering.{Ordering}
use Rattle.std.specs.declared.cmp.Ordering.TheVariants.{Less, Equal, Greater}
use Rattle.std.specs.Ordering.{is_eq, ordering_then}
use Rattle.std.specs.Cmp.Lexicographic.{slice_cmp}
use Rattle.std.proofs.lemmas.Bool.{eq-eqb, eqb-true, cond_both, or_left, or_right, cond-true}
use mathlib.Core.List.{map-map}
use Rattle.schema.specs.Databases.{Row}
use Rattle.values.specs.declared.value.Value.{Value}
use Rattle.values.specs.Order.{order, same}
use Rattle.values.proofs.Orders.{same_itself}
use Rattle.query.specs.declared.query.Item.{Item}
use Rattle.query.specs.Rows as rows
use Rattle.query.specs.Rows.{same_rows}
use Rattle.query.specs.Bound.{Scope, item_number}
use Rattle.algebra.specs.Columns.{has, insert, rising}
use Rattle.algebra.specs.Bags.{Env, lay, same_on, distinct_on}
use Rattle.frame.specs.Frames.{is_block_item, own_numbers}
use Rattle.algebra.proofs.Sets.{has-rising}
use Rattle.algebra.proofs.Lists.{two, map-same, distinct_by, distinct-map, distinct-same, all-distinct, cons-same}
use Rattle.algebra.proofs.Puts.{lay-lay}
use Rattle.algebra.proofs.Ordered.{and-turn, and-twice}
use Rattle.algebra.proofs.UniqueRows.{distinct_on-by}
use Rattle.algebra.proofs.MentionedColumns.{all-rising}

-- ---- the same rows

same-first : (o p : Ordering) → is_eq (ordering_then o p) ≡ (is_eq o && is_eq p)
same-first Less p = refl
same-first Equal p = refl
same-first Greater p = refl

pub same_rows-cons : (v w : Value) (r s : Row) → same_rows (v ∷ r) (w ∷ s) ≡ (same v w && same_rows r s)
same_rows-cons v w r s = same-first (order v w) (slice_cmp order r s)

pub distinct-by : (L : List Row) → rows.distinct L ≡ distinct_by same_rows L
distinct-by [] = refl
distinct-by (r ∷ L) = ap (λ ys. r ∷ filter (λ s. not (same_rows r s)) ys) (distinct-by L)

-- ---- items

-- what holds of each of two lists' items holds of each of either
pub all_parts : {X : Type 0} (P : X → Type 0) (xs ys : List X) → AllByRecursion P (xs ++ ys) → AllByRecursion P xs × AllByRecursion P ys
all_parts P [] ys all = (tt, all)
all_parts P (x ∷ xs) ys all = let rest = all_parts P xs ys all.1 in ((all.0, rest.0), rest.1)

-- the rows h of things x, in the environment e, show each item as sh does; and e itself shows what isn't the block's own
pub record Reads {X : Type 0} (scope : Scope) (e : Env) (h : X → Env) (sh : X → Item → Value) (P : X → Type 0) (i : Item) : Type 0 where
  pub own : (x : X) → P x → h x (item_number scope i) ≡ sh x i
  pub around : is_block_item i ≡ false → (x : X) → P x → e (item_number scope i) ≡ sh x i

module _ {X : Type 0} (scope : Scope) (e : Env) (h : X → Env) (sh : X → Item → Value) (P : X → Type 0) where
  -- rows that read as they show have the items' row in their columns
  pub reads-row : (items : List Item) (x : X) → P x → AllByRecursion (Reads scope e h sh P) items → map (h x) (map (item_number scope) items) ≡ map (sh x) items
  reads-row [] x px all = refl
  reads-row (i ∷ items) x px all = cons-same (all.0.own x px) (reads-row items x px all.1)

  own-has : (i : Item) (items : List Item) → is_block_item i ≡ true → has (own_numbers scope (i ∷ items)) (item_number scope i) ≡ true
  own-has i items is = ap (λ ks. has ks (item_number scope i)) (cond-true _ _ _ is) ∙ or_left _ _ (eq-eqb (item_number scope i) (item_number scope i) refl)

  more-has : (i : Item) (items : List Item) (c : ℕ) → has (own_numbers scope items) c ≡ true → has (own_numbers scope (i ∷ items)) c ≡ true
  more-has i items c h = cond_both (is_block_item i) _ _ (λ ks. has ks c ≡ true) (λ is. or_right (item_number scope i == c) (has (own_numbers scope items) c) h) (λ isnt. h)

  -- an item of a row that was projected to columns that have the block's own
  projected-reads : (K : ℕ → Bool) (i : Item) (x : X) → P x → Reads scope e h sh P i → (is_block_item i ≡ true → K (item_number scope i) ≡ true) → lay K (h x) e (item_number scope i) ≡ sh x i
  projected-reads K i x px reads kept = by (is_block_item i) refl (K (item_number scope i)) refl
    where
      by : (o : Bool) → is_block_item i ≡ o → (b : Bool) → K (item_number scope i) ≡ b → (if b then h x (item_number scope i) else e (item_number scope i)) ≡ sh x i
      by o is true in_ = reads.own x px
      by true is false out = cc (kept is, out)
      by false is false out = reads.around is x px

  -- the items of such a row
  pub projected-shows : (K : ℕ → Bool) (items : List Item) (x : X) → P x → AllByRecursion (Reads scope e h sh P) items → ((c : ℕ) → has (own_numbers scope items) c ≡ true → K c ≡ true)
      → map (lay K (h x) e) (map (item_number scope) items) ≡ map (sh x) items
  projected-shows K [] x px all kept = refl
  projected-shows K (i ∷ items) x px all kept =
      cons-same (projected-reads K i x px all.0 (λ is. kept (item_number scope i) (own-has i items is))) (projected-shows K items x px all.1 (λ c in_. kept c (more-has i items c in_)))

  -- whether two rows that were projected read as the same in a column
  abbrev alike : (ℕ → Bool) → X → X → ℕ → Bool
  alike K x y c = same (lay K (h x) e c) (lay K (h y) e c)

  -- two such rows are the same in the block's own columns where they show the same
  same-own : (K : ℕ → Bool) (items : List Item) (x y : X) → P x → P y → AllByRecursion (Reads scope e h sh P) items → ((c : ℕ) → has (own_numbers scope items) c ≡ true → K c ≡ true)
      → list_all (alike K x y) (own_numbers scope items) ≡ same_rows (map (sh x) items) (map (sh y) items)
  same-own K [] x y px py all kept = refl
  same-own K (i ∷ items) x y px py all kept =
      by (is_block_item i) refl (same-own K items x y px py all.1 (λ c in_. kept c (more-has i items c in_))) ∙ sym (same_rows-cons (sh x i) (sh y i) (map (sh x) items) (map (sh y) items))
    where
      own-kept : is_block_item i ≡ true → K (item_number scope i) ≡ true
      own-kept is = kept (item_number scope i) (own-has i items is)

      by : (o : Bool) → is_block_item i ≡ o → list_all (alike K x y) (own_numbers scope items) ≡ same_rows (map (sh x) items) (map (sh y) items)
          → list_all (alike K x y) (if o then item_number scope i ∷ own_numbers scope items else own_numbers scope items) ≡ (same (sh x i) (sh y i) && same_rows (map (sh x) items) (map (sh y) items))
      by true is rest = two (λ a b. a && b) (two same (projected-reads K i x px all.0 own-kept) (projected-reads K i y py all.0 own-kept)) rest
      by false is rest =
          let one : same (sh x i) (sh y i) ≡ true = two same (sym (all.0.around is x px)) (sym (all.0.around is y py)) ∙ same_itself (e (item_number scope i)) in
          rest ∙ ap (λ b. b && same_rows (map (sh x) items) (map (sh y) items)) (sym one)

  abbrev K_of : List Item → ℕ → Bool
  K_of items = has (rising (own_numbers scope items))

  kept-own : (items : List Item) (c : ℕ) → has (own_numbers scope items) c ≡ true → K_of items c ≡ true
  kept-own items c in_ = has-rising c (own_numbers scope items) ∙ in_

  -- rows that were projected show the items
  pub shows : (items : List Item) (xs : List X) → AllByRecursion P xs → AllByRecursion (Reads scope e h sh P) items
      → map (λ r. map r (map (item_number scope) items)) (map (λ r. lay (K_of items) r e) (map h xs)) ≡ map (λ x. map (sh x) items) xs
  shows items xs px all =
      map-map (λ r. map r (map (item_number scope) items)) (λ r. lay (K_of items) r e) (map h xs) ∙ map-map (λ r. map (lay (K_of items) r e) (map (item_number scope) items)) h xs
      ∙ map-same P _ _ xs (λ x p. projected-shows (K_of items) items x p all (kept-own items)) px

  -- one of each that were projected show each row of items once
  pub shows-once : (items : List Item) (xs : List X) → AllByRecursion P xs → AllByRecursion (Reads scope e h sh P) items
      → map (λ r. map r (map (item_number scope) items)) (map (λ r. lay (K_of items) r e) (distinct_on (rising (own_numbers scope items)) (map (λ r. lay (K_of items) r e) (map h xs))))
      ≡ rows.distinct (map (λ x. map (sh x) items) xs)
  shows-once items xs px all =
      let K : List ℕ = rising (own_numbers scope items) in
      let projected : X → Env = λ x. lay (K_of items) (h x) e in
      let shown : X → Row = λ x. map (sh x) items in
      let alike : (x y : X) → P x → P y → same_on K (projected x) (projected y) ≡ same_rows (shown x) (shown y) =
      λ x y p q. all-rising (λ c. same (projected x c) (projected y c)) (own_numbers scope items) ∙ same-own (K_of items) items x y p q all (kept-own items) in
      let firsts : List X = distinct_by (λ x y. same_rows (shown x) (shown y)) xs in
      let read : Env → Row = λ r. map r (map (item_number scope) items) in
      ap (λ L. map read (map (λ r. lay (K_of items) r e) (distinct_on K L))) (map-map (λ r. lay (K_of items) r e) h xs)
      ∙ ap (λ L. map read (map (λ r. lay (K_of items) r e) L)) (distinct_on-by K (map projected xs) ∙ distinct-map projected (same_on K) xs ∙ ap (map projected) (distinct-same P (λ x y. same_on K (projected x) (projected y)) (λ x y. same_rows (shown x) (shown y)) xs alike px))
      ∙ map-map read (λ r. lay (K_of items) r e) (map projected firsts) ∙ map-map (λ r. read (lay (K_of items) r e)) projected firsts
      ∙ map-same P _ shown firsts (λ x p. ap read (lay-lay (K_of items) (h x) e) ∙ projected-shows (K_of items) items x p all (kept-own items)) (all-distinct P _ xs px)
      ∙ sym (distinct-by (map shown xs) ∙ distinct-map shown same_rows xs)
