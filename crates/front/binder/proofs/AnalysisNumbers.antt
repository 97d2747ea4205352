-- Where a statement has no fault, its query is numbered in the order of the text.
use Rattle.std.proofs.Common.{◌≡◌, refl, sym, ◌∙◌, ap, ℕ, zero, suc, ◌+◌, Bool, true, false, if◌then◌else◌, List, [], ◌∷◌, ◌++◌, filter, length, map, arith, append_assoc, append-nil}
use Rattle.std.specs.List.{range_with_len}
use Rattle.schema.specs.declared.schema.Column as entries
use Rattle.schema.specs.declared.schema.Schema.{Schema}
use Rattle.sql_parse.specs.declared.statement.ItemValue.{ItemValue}
use Rattle.sql_parse.specs.declared.statement.ItemValue.TheVariants as text
use Rattle.sql_parse.specs.declared.statement.JoinKind.{JoinKind}
use Rattle.sql_parse.specs.declared.statement.JoinKind.TheVariants as by
use Rattle.sql_parse.specs.declared.statement.SelectItem.{SelectItem}
use Rattle.sql_parse.specs.declared.statement.SelectList.{SelectList}
use Rattle.sql_parse.specs.declared.statement.SelectList.TheVariants as list
use Rattle.sql_parse.specs.declared.statement.TableName.{TableName}
use Rattle.query.specs.declared.query.Cond.{Cond}
use Rattle.query.specs.declared.query.From.{From}
use Rattle.query.specs.declared.query.Item.{Item}
use Rattle.query.specs.declared.query.TableReference.{TableReference}
use Rattle.query.specs.Bound.{aggregate_numbers}
use Rattle.binder.specs.Meanings.{columns_of}
use Rattle.binder.specs.Outputs.{aggregates, columns_from, is_aggregate, is_call}
use Rattle.binder.specs.Scopes.{Scope, Scopes}
use Rattle.binder.specs.Selects.{joined}
use Rattle.binder.specs.Parts.{the_item, the_reference, the_outputs, shown}
use Rattle.binder.specs.Analyses.{Before, Content, behind, both}
use Rattle.binder.specs.TextNumbers.{Listing, no_listing, one_listing, both_listings, cond_listing, from_listing}
use Rattle.binder.proofs.PartAnswers.{star-columns}
use Rattle.binder.proofs.ListingEquations.{listing-Join, listing-LeftJoin}

-- ---- lists

pub nil-parts : {A : Type 0} (xs ys : List A) → xs ++ ys ≡ [] → (xs ≡ []) × (ys ≡ [])
nil-parts [] ys none = (refl, none)
nil-parts (x ∷ xs) ys none = cc none

range-append : (n a b : ℕ) → range_with_len n (a + b) ≡ range_with_len n a ++ range_with_len (n + a) b
range-append n zero b =
    let none : zero + b ≡ b = omega arith in
    let same : n + zero ≡ n = omega arith in
    rw (none, same) refl
range-append n (suc a) b =
    let more : suc a + b ≡ suc (a + b) = omega arith in
    let next : n + suc a ≡ (n + 1) + a = omega arith in
    rw (more, next) (ap (λ ks. n ∷ ks) (range-append (n + 1) a b))

-- ---- listed

abbrev listing_of : List TableReference → List ℕ → Listing
listing_of os ns = record { references = os; aggregates = ns }

listing-is : (os ps : List TableReference) (ms ns : List ℕ) → os ≡ ps → ms ≡ ns → listing_of os ms ≡ listing_of ps ns
listing-is os ps ms ns same also = ap (λ x. listing_of x ms) same ∙ ap (λ x. listing_of ps x) also

pub both-assoc : (a b c : Listing) → both_listings (both_listings a b) c ≡ both_listings a (both_listings b c)
both-assoc a b c = listing-is _ _ _ _ (append_assoc a.references b.references c.references) (append_assoc a.aggregates b.aggregates c.aggregates)

pub both-none : (a : Listing) → both_listings a no_listing ≡ a
both-none a = listing-is _ _ _ _ (append-nil a.references) (append-nil a.aggregates)

pub listing-joined : (k : JoinKind) (f : From) (o : TableReference) (on : Cond) → from_listing (joined k f o on) ≡ both_listings (from_listing f) (both_listings (one_listing o) (cond_listing on))
listing-joined by.Inner f o on = listing-Join f o on
listing-joined by.Left f o on = listing-LeftJoin f o on

module _ (S : Schema) where
  abbrev pub references_behind : List TableName → List TableName → List TableReference
  references_behind before [] = []
  references_behind before (t ∷ ts) = the_reference S before t ∷ references_behind (before ++ t ∷ []) ts

  references-append : (before xs ys : List TableName) → references_behind before (xs ++ ys) ≡ references_behind before xs ++ references_behind (before ++ xs) ys
  references-append before [] ys = ap (λ b. references_behind b ys) (sym (append-nil before))
  references-append before (t ∷ xs) ys =
      ap (λ os. the_reference S before t ∷ os) (references-append (before ++ t ∷ []) xs ys
      ∙ ap (λ b. references_behind (before ++ t ∷ []) xs ++ references_behind b ys) (append_assoc before (t ∷ []) xs))

  -- what is listed of such a part
  abbrev pub of_content : Before → Content → Listing
  of_content b c = record { references = references_behind b.tables c.tables; aggregates = range_with_len b.aggregates c.aggregates }

  pub both-listed : (b : Before) (c d : Content) → both_listings (of_content b c) (of_content (behind b c) d) ≡ of_content b (both c d)
  both-listed b c d = listing-is _ _ _ _ (sym (references-append b.tables c.tables d.tables)) (sym (range-append b.aggregates c.aggregates d.aggregates))

-- ---- items

item-numbers : (scopes : Scopes) (number : ℕ) (v : ItemValue) (others : List Item) (n : ℕ) (count : ℕ)
    → aggregate_numbers others ≡ range_with_len (if is_call v then number + 1 else number) count
    → n ≡ (if is_call v then suc count else count) → aggregate_numbers (the_item scopes number v ∷ others) ≡ range_with_len number n
item-numbers scopes number (text.Column c) others n count more is = rw is more
item-numbers scopes number (text.Aggregate call) others n count more is = rw is (ap (λ ns. number ∷ ns) more)

items-count : (b : Bool) (i : SelectItem) (others : List SelectItem) → length (if b then i ∷ others else others) ≡ (if b then suc (length others) else length others)
items-count true i others = refl
items-count false i others = refl

outputs-numbers : (scopes : Scopes) (number : ℕ) (items : List SelectItem) → aggregate_numbers (map (λ o. o.item) (the_outputs scopes number items)) ≡ range_with_len number (length (filter is_aggregate items))
outputs-numbers scopes number [] = refl
outputs-numbers scopes number (i ∷ items) =
    item-numbers scopes number i.value _ _ (length (filter is_aggregate items)) (outputs-numbers scopes (if is_aggregate i then number + 1 else number) items) (items-count (is_aggregate i) i (filter is_aggregate items))

columns-numbers : (n : ℕ) (cs : List entries.Column) → aggregate_numbers (map (λ o. o.item) (columns_from n cs)) ≡ []
columns-numbers n [] = refl
columns-numbers n (c ∷ cs) = columns-numbers (n + 1) cs

-- the aggregates of a SELECT have the next numbers
pub shown-numbers : (scope : Scope) (scopes : Scopes) (number : ℕ) (l : SelectList) → aggregate_numbers (map (λ o. o.item) (shown scope scopes number l)) ≡ range_with_len number (aggregates l)
shown-numbers scope scopes number (list.Items items) = outputs-numbers scopes number items
shown-numbers scope scopes number (list.Star at) = ap (λ os. aggregate_numbers (map (λ o. o.item) os)) (star-columns scope) ∙ columns-numbers 0 (columns_of scope)
