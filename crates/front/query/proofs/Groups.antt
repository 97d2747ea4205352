-- What a block shows depends on how often each row comes alone, and on no order of the rows.
use Rattle.std.proofs.Common.{◌≡◌, refl, ℕ, suc, ◌+◌, Bool, true, false, if◌then◌else◌, min, List, [], ◌∷◌, length, map, filter, ap, sym, ◌∙◌, arith, pos}
use Rattle.std.proofs.lemmas.Int.{ints}
use Rattle.std.proofs.lemmas.Cmp.{upto, then_total, on_total, back_total, nat_cmp_total}
use Rattle.std.specs.declared.cmp.Ordering.{Ordering}
use Rattle.std.specs.declared.cmp.Ordering.TheVariants.{Less, Equal, Greater}
use Rattle.std.specs.Ordering.{is_gt, nat_cmp, on, then_cmp, flip_args, ordering_then, ordering_reverse}
use Rattle.std.specs.Cmp.{IsTotalOrder}
use Rattle.std.specs.FinMap.{IsAntisymmetric}
use mathlib.Core.List.{map-map}
use Rattle.values.specs.declared.value.Value.{Value}
use Rattle.values.specs.declared.value.Value.TheVariants.{Null, Int, Text}
use Rattle.values.specs.Order.{order}
use Rattle.values.specs.Truth.{is_null}
use Rattle.values.proofs.Lists.{filter-map}
use Rattle.values.proofs.Orders.{order_antisymmetric, order_total, not_gt-reverse}
use Rattle.schema.specs.Databases.{Row, values_at}
use Rattle.query.specs.declared.query.Aggregate.{Aggregate}
use Rattle.query.specs.declared.query.Aggregate.TheVariants as by
use Rattle.query.specs.declared.query.Item.{Item}
use Rattle.query.specs.declared.query.Item.TheVariants as item
use Rattle.query.specs.declared.query.Block.{Block}
use Rattle.query.specs.Rows.{Env, value_at, same_rows, count, distinct}
use Rattle.query.specs.Aggregates.{Group, plus, lesser, greater, together, known, aggregate, group_of}
use Rattle.query.specs.Meaning.{item_of_group, row_of_row, row_of_group, all_shown, shown}
use Rattle.query.specs.Laws.{number_shown}
use Rattle.query.proofs.Counting.{count-distinct}
use Rattle.query.proofs.SameCounts.{SameCounts, same-fold, same-map, same-filter, same-distinct}

-- ---- the steps of aggregates may be exchanged

pub plus-swap : (a x m : Value) → plus a (plus x m) ≡ plus x (plus a m)
plus-swap Null x m = refl
plus-swap (Text t) x m = refl
plus-swap (Int a) Null m = refl
plus-swap (Int a) (Text t) m = refl
plus-swap (Int a) (Int b) Null = ap Int (omega (arith, ints))
plus-swap (Int a) (Int b) (Text t) = ap Int (omega (arith, ints))
plus-swap (Int a) (Int b) (Int c) = ap Int (omega (arith, ints))

-- the first of two values in an order
abbrev first_by : (Value → Value → Ordering) → Value → Value → Value
first_by R v w = if is_gt (R v w) then w else v

module _ (R : Value → Value → Ordering) (total : IsTotalOrder R) (anti : IsAntisymmetric R) where
  not-both : (a b : Value) → is_gt (R a b) ≡ true → is_gt (R b a) ≡ false
  not-both a b h = rw (total.antisymm b a) (not_gt-reverse (R a b) h)

  neither-equal : (a b : Value) → is_gt (R a b) ≡ false → is_gt (R b a) ≡ false → a ≡ b
  neither-equal a b h g = anti a b (neither (R a b) h (rw (total.antisymm b a) at g))
    where
      neither : (o : Ordering) → is_gt o ≡ false → is_gt (ordering_reverse o) ≡ false → o ≡ Equal
      neither Less h g = cc
      neither Equal h g = refl
      neither Greater h g = cc

  first-second : (a b : Value) → is_gt (R b a) ≡ false → first_by R a b ≡ b
  first-second a b h = by (is_gt (R a b)) refl
    where
      by : (c : Bool) → is_gt (R a b) ≡ c → (if c then b else a) ≡ b
      by true e = refl
      by false e = neither-equal a b e h

  first-comm : (a b : Value) → first_by R a b ≡ first_by R b a
  first-comm a b = by (is_gt (R a b)) refl
    where
      by : (c : Bool) → is_gt (R a b) ≡ c → (if c then b else a) ≡ first_by R b a
      by true e = sym (ap (λ d. if d then a else b) (not-both a b e))
      by false e = sym (first-second b a e)

  first-swap : (a x m : Value) → first_by R a (first_by R x m) ≡ first_by R x (first_by R a m)
  first-swap a x m = by (is_gt (R x m)) refl (is_gt (R a m)) refl
    where
      by : (b : Bool) → is_gt (R x m) ≡ b → (c : Bool) → is_gt (R a m) ≡ c → first_by R a (if b then m else x) ≡ first_by R x (if c then m else a)
      by true e true f = ap (λ d. if d then m else a) f ∙ sym (ap (λ d. if d then m else x) e)
      by true e false f = ap (λ d. if d then m else a) f ∙ sym (first-second x a (upto total a m x f (not-both x m e)))
      by false e true f = first-second a x (upto total x m a e (not-both a m f)) ∙ sym (ap (λ d. if d then m else x) e)
      by false e false f = first-comm a x

-- the order of values, but Null is last
null_rank : Value → ℕ
null_rank Null = 1
null_rank (Int n) = 0
null_rank (Text t) = 0

abbrev null_last : Value → Value → Ordering
null_last = then_cmp (on null_rank nat_cmp) order

null_last-antisymmetric : IsAntisymmetric null_last
null_last-antisymmetric a b h = order_antisymmetric a b (second (on null_rank nat_cmp a b) (order a b) h)
  where
    second : (o p : Ordering) → ordering_then o p ≡ Equal → p ≡ Equal
    second Less p h = cc
    second Equal p h = h
    second Greater p h = cc

lesser-first : (v w : Value) → lesser v w ≡ first_by null_last v w
unfolding null_rank
lesser-first Null Null = refl
lesser-first Null (Int n) = refl
lesser-first Null (Text t) = refl
lesser-first (Int m) Null = refl
lesser-first (Int m) (Int n) = refl
lesser-first (Int m) (Text t) = refl
lesser-first (Text s) Null = refl
lesser-first (Text s) (Int n) = refl
lesser-first (Text s) (Text t) = refl

back-antisymmetric : IsAntisymmetric (flip_args order)
back-antisymmetric a b h = sym (order_antisymmetric b a h)

greater-first : (v w : Value) → greater v w ≡ first_by (flip_args order) v w
greater-first v w = first-comm (flip_args order) (back_total order_total) back-antisymmetric w v

swap-by : (f : Value → Value → Value) (R : Value → Value → Ordering) → IsTotalOrder R → IsAntisymmetric R → ((v w : Value) → f v w ≡ first_by R v w)
    → (a x m : Value) → f a (f x m) ≡ f x (f a m)
swap-by f R total anti is a x m =
    is a (f x m) ∙ ap (first_by R a) (is x m) ∙ first-swap R total anti a x m ∙ sym (is x (f a m) ∙ ap (first_by R x) (is a m))

pub lesser-swap : (a x m : Value) → lesser a (lesser x m) ≡ lesser x (lesser a m)
lesser-swap = swap-by lesser null_last (then_total (on_total null_rank nat_cmp_total) order_total) null_last-antisymmetric lesser-first

pub greater-swap : (a x m : Value) → greater a (greater x m) ≡ greater x (greater a m)
greater-swap = swap-by greater (flip_args order) (back_total order_total) back-antisymmetric greater-first

-- ---- a group's row

same-together : (f : Value → Value → Value) → ((a x m : Value) → f a (f x m) ≡ f x (f a m)) → (place : ℕ) (G H : List Row) → SameCounts G H → together f (map (value_at place) G) ≡ together f (map (value_at place) H)
same-together f swap place G H h = same-fold (λ L. together f (map (value_at place) L)) (λ x v. f (value_at place x) v) (record { first = λ x L. refl; swap = λ a x v. swap (value_at place a) (value_at place x) v }) G H h

pub same-aggregate : (a : Aggregate) (G H : List Row) → SameCounts G H → aggregate a G ≡ aggregate a H
same-aggregate by.CountRows G H h = ap (λ n. Int (pos n)) (same-fold length (λ x n. suc n) (record { first = λ x L. refl; swap = λ a x n. refl }) G H h)
same-aggregate (by.Count c) G H h = ap (λ n. Int (pos n)) (same-fold (λ L. known (map (value_at c) L)) (λ x n. (if is_null (value_at c x) then 0 else 1) + n) (record { first = λ x L. refl; swap = λ a x n. omega arith }) G H h)
same-aggregate (by.Sum c) G H h = same-together plus plus-swap c G H h
same-aggregate (by.Min c) G H h = same-together lesser lesser-swap c G H h
same-aggregate (by.Max c) G H h = same-together greater greater-swap c G H h

same-item : (keys : List ℕ) (e : Env) (key : Row) (G H : List Row) → SameCounts G H → (i : Item) → item_of_group keys e (record { key = key; rows = G }) i ≡ item_of_group keys e (record { key = key; rows = H }) i
same-item keys e key G H h (item.Column c) = refl
same-item keys e key G H h (item.Aggregate n a) = same-aggregate a G H h

same-group : (keys : List ℕ) (items : List Item) (e : Env) (key : Row) (G H : List Row) → SameCounts G H
    → map (item_of_group keys e (record { key = key; rows = G })) items ≡ map (item_of_group keys e (record { key = key; rows = H })) items
same-group keys [] e key G H h = refl
same-group keys (i ∷ items) e key G H h = cc (same-item keys e key G H h i, same-group keys items e key G H h)

-- ---- what a block shows

-- the row that items show of a key's group
abbrev row_of_key : List ℕ → Env → List Item → List Row → Row → Row
row_of_key keys e items L key = row_of_group keys e items (group_of keys L key)

module _ (asked : List Item) (keeps : Row → Bool) (items : List Item) (e : Env) where
  -- what the groups of these keys show, key by key
  by-keys : (keys : List ℕ) (L : List Row) (ks : List Row) → map (row_of_group keys e items) (filter (λ g. keeps (row_of_group keys e asked g)) (map (group_of keys L) ks))
      ≡ map (row_of_key keys e items L) (filter (λ key. keeps (row_of_key keys e asked L key)) ks)
  by-keys keys L ks = ap (map (row_of_group keys e items)) (filter-map (λ g. keeps (row_of_group keys e asked g)) (group_of keys L) ks) ∙ map-map (row_of_group keys e items) (group_of keys L) _

  same-all_shown : (grouped : Bool) (keys : List ℕ) (L M : List Row) → SameCounts L M → SameCounts (all_shown grouped keys asked keeps items e L) (all_shown grouped keys asked keeps items e M)
  same-all_shown false keys L M h r = same-map (row_of_row e items) _ _ (same-filter (λ s. keeps (row_of_row e asked s)) L M h) r
  same-all_shown true [] L M h r = by _ _ (ap keeps (same-group [] asked e [] L M h))
    where
      by : (b c : Bool) → b ≡ c → count r (map (row_of_group [] e items) (if b then record { key = []; rows = L } ∷ [] else [])) ≡ count r (map (row_of_group [] e items) (if c then record { key = []; rows = M } ∷ [] else []))
      by true true same = ap (λ s. count r (s ∷ [])) (same-group [] items e [] L M h)
      by false false same = refl
      by true false same = cc
      by false true same = cc
  same-all_shown true (k ∷ ks) L M h r =
      let keys : List ℕ = k ∷ ks in
      let keys_of : List Row → List Row = λ X. distinct (map (values_at keys) X) in
      let same_keys : SameCounts (keys_of L) (keys_of M) = same-distinct _ _ (same-map (values_at keys) L M h) in
      let same_row : (shown : List Item) (key : Row) → row_of_key keys e shown L key ≡ row_of_key keys e shown M key =
      λ shown key. same-group keys shown e key _ _ (same-filter (λ s. same_rows key (values_at keys s)) L M h) in
      ap (count r) (by-keys keys L (keys_of L)
      ∙ ap (λ (f : Row → Row). map f (filter (λ key. keeps (row_of_key keys e asked L key)) (keys_of L))) (λ i key. same_row items key i)
      ∙ ap (λ (f : Row → Row). map (row_of_key keys e items M) (filter (λ key. keeps (f key)) (keys_of L))) (λ i key. same_row asked key i))
      ∙ same-map (row_of_key keys e items M) _ _ (same-filter (λ key. keeps (row_of_key keys e asked M key)) (keys_of L) (keys_of M) same_keys) r
      ∙ ap (count r) (sym (by-keys keys M (keys_of M)))

pub same-number : (q : Block) (keeps : Row → Bool) (e : Env) (L M : List Row) → SameCounts L M → (r : Row) → number_shown q keeps e L r ≡ number_shown q keeps e M r
same-number q keeps e L M h r = ap (λ n. if q.distinct then min 1 n else n) (same-all_shown q.having_items keeps q.items e q.grouped q.keys L M h r)

pub count-shown : (distinct' grouped : Bool) (keys : List ℕ) (asked : List Item) (keeps : Row → Bool) (items : List Item) (e : Env) (L : List Row) (r : Row)
    → count r (shown distinct' grouped keys asked keeps items e L) ≡ (let number = count r (all_shown grouped keys asked keeps items e L) in if distinct' then min 1 number else number)
count-shown false grouped keys asked keeps items e L r = refl
count-shown true grouped keys asked keeps items e L r = count-distinct r (all_shown grouped keys asked keeps items e L)
