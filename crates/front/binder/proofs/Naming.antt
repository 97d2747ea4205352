-- Outputs by hash, as loops find them.
use Rattle.std.proofs.Common.{◌≡◌, refl, ℕ, suc, ◌+◌, ◌<◌, List, [], ◌∷◌, ◌++◌, length, Bool, true, false, ◌&&◌, ltb, cond, take, drop, get_or, filter, map, position, Option, Some, None, bytes_eq, ap, sym, ◌∙◌, arith, if◌then◌else◌, Result, Ok, Err, not, inl, inr}
use Rattle.std.specs.List.{list_all, position_or_len}
use Rattle.std.proofs.lemmas.Bool.Decides.{nat_tests}
use Rattle.std.proofs.lemmas.List.{append-nil, map-append}
use Rattle.std.proofs.lemmas.List.Elements.{filter-append}
use Rattle.std.proofs.lemmas.List.Folds.{list_all-append}
use Rattle.std.specs.Borrow.{Bor}
use Rattle.std.specs.HashMap as hash
use Rattle.std.specs.HashMap.{HashMap}
use Rattle.values.proofs.Lists.{drop_next, take_next}
use Rattle.binder.specs.contracts.named.IdentityPartialEq.TheImpl.{eq-value}
use Rattle.binder.specs.declared.fault.BindReason.TheVariants.{NoOutputColumn}
use Rattle.binder.specs.declared.fault.BindRefusal.{BindRefusal}
use Rattle.binder.specs.Lookups.{refusal}
use Rattle.query.specs.declared.query.Column.{Column}
use Rattle.query.specs.declared.query.Item.{Item}
use Rattle.query.specs.declared.query.Item.TheVariants as item
use Rattle.binder.specs.declared.output.Output.{Output}
use Rattle.binder.specs.declared.named.Identity.{Identity}
use Rattle.binder.specs.declared.named.Sense.{Sense}
use Rattle.binder.specs.declared.named.Sense.TheVariants.{One, Several}
use Rattle.binder.specs.Ordering.{same_item, one_column}
use Rattle.binder.specs.Named.{identity_of, sense_of, one_more, items_named, items_showing, HasSenses}
use Rattle.binder.proofs.NameKeys.{after-insert}

-- ---- by column

same-identity : (a b : Item) → eq-value.it (identity_of a) (identity_of b) ≡ same_item a b
same-identity (item.Column c) (item.Column d) = refl
same-identity (item.Column c) (item.Aggregate n a) = refl
same-identity (item.Aggregate m a) (item.Column d) = refl
same-identity (item.Aggregate m a) (item.Aggregate n b) = refl

-- the first output that passes, counted on from n
abbrev pub first_at : (Output → Bool) → ℕ → List Output → Option ℕ
first_at p n [] = None
first_at p n (o ∷ os) = if p o then Some n else first_at p (n + 1) os

one-on : (n a l : ℕ) → cond (ltb a l) (Some ((n + 1) + a)) None ≡ cond (ltb (1 + a) (suc l)) (Some (n + (1 + a))) None
one-on n a l =
    let place : (n + 1) + a ≡ n + (1 + a) = omega arith in
    let test : ltb a l ≡ ltb (1 + a) (suc l) = grind (arith, nat_tests) in
    rw (place, test) refl

here : (n l : ℕ) → Some n ≡ cond (ltb 0 (suc l)) (Some (n + 0)) None
here n l =
    let place : n + 0 ≡ n = omega arith in
    let test : ltb 0 (suc l) ≡ true = grind (arith, nat_tests) in
    rw (place, test) refl

first-step : (b : Bool) (n a l : ℕ) (rest : Option ℕ) → rest ≡ cond (ltb a l) (Some ((n + 1) + a)) None
    → (if b then Some n else rest) ≡ cond (ltb (cond (not b) (1 + a) 0) (suc l)) (Some (n + cond (not b) (1 + a) 0)) None
first-step true n a l rest h = here n l
first-step false n a l rest h = h ∙ one-on n a l

first-place : (p : Output → Bool) (n : ℕ) (os : List Output) → first_at p n os ≡ cond (ltb (position_or_len p os) (length os)) (Some (n + position_or_len p os)) None
first-place p n [] = refl
first-place p n (o ∷ os) = first-step (p o) n (position_or_len p os) (length os) (first_at p (n + 1) os) (first-place p (n + 1) os)

pub position-first : (p : Output → Bool) (os : List Output) → position p os ≡ first_at p 0 os
position-first p os =
    let place : position_or_len p os ≡ 0 + position_or_len p os = omega arith in
    ap (λ k. cond (ltb (position_or_len p os) (length os)) (Some k) None) place ∙ sym (first-place p 0 os)

pub firsts-step : {S : Type 0} (m n : HashMap Identity ℕ S) (os : List Output) (i : ℕ) (o : Output) → i < length os → o ≡ get_or os i o → hash.Updates eq-value.it m n (identity_of o.item) (Some i)
    → ((q : Item) → hash.get eq-value.it m (identity_of q) ≡ first_at (λ o. same_item o.item q) (i + 1) (drop (i + 1) os))
    → (q : Item) → hash.get eq-value.it n (identity_of q) ≡ first_at (λ o. same_item o.item q) i (drop i os)
firsts-step m n os i o lt at up h q =
    up.0 (identity_of q)
    ∙ ap (λ b. cond b (Some i) (hash.get eq-value.it m (identity_of q))) (same-identity o.item q)
    ∙ ap (cond (same_item o.item q) (Some i)) (h q)
    ∙ sym (ap (first_at (λ o. same_item o.item q) i) (drop_next os i o lt at))

same-is : (i : Item) (c : Column) → same_item i (item.Column c) ≡ true → i ≡ item.Column c
same-is (item.Column d) c h =
    let level : d.level ≡ c.level = grind (arith, nat_tests) in
    let place : d.place ≡ c.place = grind (arith, nat_tests) in
    ap (λ l. item.Column (record { level = l; place = d.place })) level ∙ ap (λ p. item.Column (record { level = c.level; place = p })) place
same-is (item.Aggregate n a) c h = cc h

same-self : (c : Column) → same_item (item.Column c) (item.Column c) ≡ true
same-self c = grind (arith, nat_tests)

-- all outputs that are a column are the same
all-same : (c : Column) (os : List Output) → list_all (λ j. same_item (item.Column c) j) (items_showing c os) ≡ true
all-same c [] = refl
all-same c (o ∷ os) = step (same_item o.item (item.Column c)) refl (all-same c os)
  where
    step : (same : Bool) → same_item o.item (item.Column c) ≡ same → list_all (λ j. same_item (item.Column c) j) (items_showing c os) ≡ true
        → list_all (λ j. same_item (item.Column c) j) (map (λ o. o.item) (if same then o ∷ filter (λ o. same_item o.item (item.Column c)) os else filter (λ o. same_item o.item (item.Column c)) os)) ≡ true
    step true h others = rw (same-is o.item c h, same-self c) others
    step false h others = others

-- a column that an output may be
abbrev pub shown_at : ℕ → Column → Option ℕ → Result Item BindRefusal
shown_at at c None = Err (refusal NoOutputColumn at)
shown_at at c (Some place) = Ok (item.Column c)

shown-first : (at : ℕ) (c : Column) (n : ℕ) (os : List Output) → one_column at (items_showing c os) ≡ shown_at at c (first_at (λ o. same_item o.item (item.Column c)) n os)
shown-first at c n [] = refl
shown-first at c n (o ∷ os) = step (same_item o.item (item.Column c)) refl (shown-first at c (n + 1) os)
  where
    step : (same : Bool) → same_item o.item (item.Column c) ≡ same → one_column at (items_showing c os) ≡ shown_at at c (first_at (λ o. same_item o.item (item.Column c)) (n + 1) os)
        → one_column at (map (λ o. o.item) (if same then o ∷ filter (λ o. same_item o.item (item.Column c)) os else filter (λ o. same_item o.item (item.Column c)) os))
        ≡ shown_at at c (if same then Some n else first_at (λ o. same_item o.item (item.Column c)) (n + 1) os)
    step true h others = rw (same-is o.item c h, all-same c os) refl
    step false h others = others

pub shown-place : (at : ℕ) (c : Column) (os : List Output) → one_column at (items_showing c os) ≡ shown_at at c (position (λ o. same_item o.item (item.Column c)) os)
shown-place at c os = shown-first at c 0 os ∙ ap (shown_at at c) (sym (position-first (λ o. same_item o.item (item.Column c)) os))

-- ---- by name

sense-push : (is : List Item) (i : Item) → sense_of (is ++ i ∷ []) ≡ Some (one_more (sense_of is) i)
sense-push [] i = refl
sense-push (j ∷ others) i = rw (list_all-append (same_item j) others (i ∷ [])) (step (list_all (same_item j) others))
  where
    first : (same : Bool) → Some (if same && true then One j else Several) ≡ Some (if same then One j else Several)
    first true = refl
    first false = refl

    step : (all : Bool) → Some (if all && (same_item j i && true) then One j else Several) ≡ Some (one_more (Some (if all then One j else Several)) i)
    step true = first (same_item j i)
    step false = refl

items-push : (q : List ℕ) (os : List Output) (i : ℕ) (o : Output) → i < length os → o ≡ get_or os i o
    → items_named q (take (i + 1) os) ≡ (if bytes_eq o.name q then items_named q (take i os) ++ o.item ∷ [] else items_named q (take i os))
items-push q os i o lt at =
    let is_named : Output → Bool = λ o. bytes_eq o.name q in
    ap (items_named q) (take_next os i o lt at)
    ∙ ap (map (λ o. o.item)) (filter-append is_named (take i os) (o ∷ []))
    ∙ map-append (λ o. o.item) (filter is_named (take i os)) (filter is_named (o ∷ []))
    ∙ last (bytes_eq o.name q)
  where
    last : (same : Bool) → items_named q (take i os) ++ map (λ o. o.item) (if same then o ∷ [] else []) ≡ (if same then items_named q (take i os) ++ o.item ∷ [] else items_named q (take i os))
    last true = refl
    last false = append-nil _

pub senses-step : {S : Type 0} (m n : HashMap (Bor (List ℕ)) Sense S) (os : List Output) (i : ℕ) (o : Output) → i < length os → o ≡ get_or os i o
    → hash.UpdatesBy (λ a b. bytes_eq a.now b.now) (λ k. bytes_eq o.name k.now) m n (Some (one_more (hash.get_by (λ k. bytes_eq o.name k.now) m) o.item))
    → HasSenses (take i os) m → HasSenses (take (i + 1) os) n
senses-step m n os i o lt at up h q = elim (after-insert o.name m n (one_more (hash.get_by (λ k. bytes_eq o.name k.now) m) o.item) up q) [
  | inl new ↦
      let before : hash.get_by (λ k. bytes_eq o.name k.now) m ≡ sense_of (items_named q (take i os)) = h o.name ∙ ap (λ w. sense_of (items_named w (take i os))) (sym new.0) in
      new.1
      ∙ ap (λ s. Some (one_more s o.item)) before
      ∙ sym (sense-push (items_named q (take i os)) o.item)
      ∙ ap (λ b. sense_of (if b then items_named q (take i os) ++ o.item ∷ [] else items_named q (take i os))) (sym new.3)
      ∙ sym (ap sense_of (items-push q os i o lt at))
  | inr old ↦
      old.0
      ∙ h q
      ∙ ap (λ b. sense_of (if b then items_named q (take i os) ++ o.item ∷ [] else items_named q (take i os))) (sym old.2)
      ∙ sym (ap sense_of (items-push q os i o lt at))
]
