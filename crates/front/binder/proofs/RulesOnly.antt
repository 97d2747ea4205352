-- What a statement is by the rules, numbered in the order of the text, is what it means, and there is no fault.
use Rattle.std.proofs.Common.{◌≡◌, refl, sym, ◌∙◌, ap, ℕ, ◌+◌, ◌==◌, Bool, true, false, not, if◌then◌else◌, List, [], ◌∷◌, ◌++◌, flat_map, length, map, is_some, unwrap_or, Option, Some, None, arith, length-append}
use Rattle.std.specs.List.{list_all, range_with_len}
use Rattle.std.proofs.lemmas.Bool.{eq-eqb}
use Rattle.std.proofs.lemmas.List.{length-map, map-append}
use Rattle.std.proofs.lemmas.List.FromFn.{length-range_with_len}
use Rattle.schema.specs.declared.schema.Kind.{Kind}
use Rattle.schema.specs.declared.schema.Table.{Table}
use Rattle.schema.specs.declared.schema.Schema.{Schema}
use Rattle.schema.specs.Each.{Pairs}
use Rattle.sql_parse.specs.declared.statement.AggregateFunction.{AggregateFunction}
use Rattle.sql_parse.specs.declared.statement.ColumnName.{ColumnName}
use Rattle.sql_parse.specs.declared.statement.HavingCondition.{HavingCondition}
use Rattle.sql_parse.specs.declared.statement.ItemValue.{ItemValue}
use Rattle.sql_parse.specs.declared.statement.ItemValue.TheVariants as text
use Rattle.sql_parse.specs.declared.statement.SelectItem.{SelectItem}
use Rattle.sql_parse.specs.declared.statement.SelectList.{SelectList}
use Rattle.sql_parse.specs.declared.statement.SelectList.TheVariants as list
use Rattle.sql_parse.specs.declared.statement.TableName.{TableName}
use Rattle.sql_parse.specs.declared.statement.Term as terms
use Rattle.sql_parse.specs.declared.statement.Term.TheVariants as written
use Rattle.query.specs.declared.query.Aggregate.{Aggregate}
use Rattle.query.specs.declared.query.Item.{Item}
use Rattle.query.specs.declared.query.Item.TheVariants as item
use Rattle.query.specs.declared.query.TableReference.{TableReference}
use Rattle.query.specs.Bound.{aggregate_numbers}
use Rattle.binder.specs.declared.fault.BindReason.{BindReason}
use Rattle.binder.specs.declared.fault.BindRefusal.{BindRefusal}
use Rattle.binder.specs.declared.output.Output.{Output}
use Rattle.binder.specs.declared.scope.TypedColumn.{TypedColumn}
use Rattle.binder.specs.declared.selects.BoundTerm.{BoundTerm}
use Rattle.binder.specs.Analyses.{Before, Content, behind, having_faults}
use Rattle.binder.specs.Lookups.{find_table}
use Rattle.binder.specs.Meanings.{HasInstance, IsFirst, Means}
use Rattle.binder.specs.Outputs.{is_aggregate, is_call, is_shown, shows}
use Rattle.binder.specs.Parts.{unless, fault_in, value_in, name_faults, the_column, term_faults, the_term, no_table, the_table, known, table_faults, the_reference, key_faults, the_key, has_aggregate, aggregate_faults, the_aggregate, aggregate_kind, item_faults, the_item, item_kind, the_output, the_outputs, all_columns, list_faults, shown, asked_faults, the_asked}
use Rattle.binder.specs.Rules.{BindsTerm, BindsKey, BindsAggregate, BindsValue, BindsItem, BindsList, BindsTable, BindsAsked, BindsHaving}
use Rattle.binder.specs.Scopes.{Known, Scope, Scopes, is_taken, known_name, instance_named}
use Rattle.binder.specs.TextNumbers.{Listing, one_listing, both_listings}
use Rattle.binder.specs.HavingShapes.{having_fits, having_values}
use Rattle.binder.specs.Havings.{is_key}
use Rattle.binder.proofs.AnalysisNumbers.{of_content}
use Rattle.binder.proofs.FirstOnes.{first-once}
use Rattle.binder.proofs.Indexes.{taken-instance}
use Rattle.binder.proofs.NameMeanings.{names_mean, FoundInstance, found-instance}
use Rattle.binder.proofs.RulesHold.{FoundTable, found-table}
use Rattle.binder.proofs.Requirements.{required, no-faults}
use Rattle.binder.proofs.HavingRules.{having-quiet}

-- ---- names

pub name-only : (scopes : Scopes) (c : ColumnName) (found : TypedColumn) → Means c scopes found → (name_faults scopes c ≡ []) × (found ≡ the_column scopes c)
name-only scopes c found means =
    let is = (names_mean c scopes found).1 means in
    (ap fault_in is, sym (ap (value_in _) is))

-- ---- terms and items

pub term-only : (scopes : Scopes) (a : terms.Term) (x : BoundTerm) → BindsTerm scopes a x → (term_faults scopes a ≡ []) × (x ≡ the_term scopes a)
term-only scopes (written.Column c) x (found, means, is) =
    let name = name-only scopes c found means in
    (name.0, is ∙ ap (λ (f : TypedColumn). as_term f) name.1)
  where
    as_term : TypedColumn → BoundTerm
    as_term f = record { term = Rattle.query.specs.declared.query.Term.TheVariants.Column f.column; kind = Some f.kind }
term-only scopes (written.Literal v) x is = (refl, is)

level-only : (c : TypedColumn) (d : TypedColumn) → c ≡ d → c.column.level ≡ 0 → (d.column.level == 0) ≡ true
level-only c d same is = eq-eqb _ _ (sym (ap (λ (f : TypedColumn). f.column.level) same) ∙ is)

pub key-only : (scopes : Scopes) (c : ColumnName) (place : ℕ) → BindsKey scopes c place → (key_faults scopes c ≡ []) × (place ≡ the_key scopes c)
key-only scopes c place (found, means, level, is) =
    let name = name-only scopes c found means in
    (no-faults _ _ name.0 (required _ _ _ (level-only found _ name.1 level)), is ∙ ap (λ (f : TypedColumn). f.column.place) name.1)

pub keys-only : (scopes : Scopes) (cs : List ColumnName) (places : List ℕ) → Pairs (BindsKey scopes) cs places → (flat_map (key_faults scopes) cs ≡ []) × (places ≡ map (the_key scopes) cs)
keys-only scopes [] [] pairs = (refl, refl)
keys-only scopes [] (p ∷ places) pairs = absurd pairs
keys-only scopes (c ∷ cs) [] pairs = absurd pairs
keys-only scopes (c ∷ cs) (p ∷ places) pairs =
    let one = key-only scopes c p pairs.0 in
    let others = keys-only scopes cs places pairs.1 in
    let first = one.1 in
    let rest = others.1 in
    let all : p ∷ places ≡ the_key scopes c ∷ map (the_key scopes) cs = cc in
    (no-faults _ _ one.0 others.0, all)

aggregate-only : (scopes : Scopes) (f : AggregateFunction) (at : ℕ) (o : Option ColumnName) (a : Aggregate) (k : Kind) → BindsAggregate scopes f o a k
    → (aggregate_faults scopes f at o ≡ []) × (a ≡ the_aggregate scopes f o) × (k ≡ aggregate_kind scopes f o)
aggregate-only scopes f at None a k (is, kind) = (refl, is, kind)
aggregate-only scopes f at (Some c) a k (found, means, level, has, is, kind) =
    let name = name-only scopes c found means in
    let same = name.1 in
    let may : has_aggregate f (the_column scopes c).kind ≡ true = sym (ap (λ (x : TypedColumn). has_aggregate f x.kind) same) ∙ has in (
      no-faults _ _ name.0 (no-faults _ _ (required _ _ at (level-only found _ same level)) (required _ _ at may)),
      is ∙ ap (λ (x : TypedColumn). Rattle.binder.specs.Parts.aggregate_by f x.column.place) same,
      kind ∙ ap (λ (x : TypedColumn). Rattle.binder.specs.Parts.kind_by f x.kind) same,
    )

abbrev output_of : List ℕ → Item → Kind → Output
output_of name i k = record { name = name; item = i; kind = k }

-- how many of the numbers an item takes
abbrev next_of : ℕ → SelectItem → ℕ
next_of number i = if is_aggregate i then number + 1 else number

-- an item, and that the numbers behind it go on
value-only : (scopes : Scopes) (grouped : Bool) (keys : List ℕ) (number : ℕ) (v : ItemValue) (i : Item) (k : Kind) (others : List Item) → BindsValue scopes grouped keys v i k
    → aggregate_numbers (i ∷ others) ≡ range_with_len number (length (aggregate_numbers (i ∷ others)))
    → (item_faults scopes grouped keys v ≡ []) × (i ≡ the_item scopes number v) × (k ≡ item_kind scopes v)
    × (aggregate_numbers others ≡ range_with_len (if is_call v then number + 1 else number) (length (aggregate_numbers others)))
value-only scopes grouped keys number (text.Column c) i k others (found, means, may, is, kind) runs =
    let name = name-only scopes c found means in
    let same = name.1 in
    let sees : shows grouped keys (the_column scopes c).column ≡ true = sym (ap (λ (x : TypedColumn). shows grouped keys x.column) same) ∙ may in
    let more = rw is at runs in
    (no-faults _ _ name.0 (required _ _ _ sees), is ∙ ap (λ (x : TypedColumn). item.Column x.column) same, kind ∙ ap (λ (x : TypedColumn). x.kind) same, more)
value-only scopes grouped keys number (text.Aggregate call) i k others (n, a, binds, is) runs =
    let one = aggregate-only scopes call.function call.at call.column a k binds in
    let more = rw is at runs in
    let first : n ≡ number = cc in
    let rest : aggregate_numbers others ≡ range_with_len (number + 1) (length (aggregate_numbers others)) = cc in
    (one.0, is ∙ ap (λ m. item.Aggregate m a) first ∙ ap (item.Aggregate number) one.1, one.2, rest)

-- what a HAVING names, and that the numbers behind it go on
asked-only : (scopes : Scopes) (keys : List ℕ) (number : ℕ) (v : ItemValue) (i : Item) (k : Kind) (others : List Item) → BindsAsked scopes keys v (i, k)
    → aggregate_numbers (i ∷ others) ≡ range_with_len number (length (aggregate_numbers (i ∷ others)))
    → (asked_faults scopes keys v ≡ []) × (i ≡ the_item scopes number v) × (k ≡ item_kind scopes v)
    × (aggregate_numbers others ≡ range_with_len (if is_call v then number + 1 else number) (length (aggregate_numbers others)))
asked-only scopes keys number (text.Column c) i k others (found, means, key, is, kind) runs =
    let name = name-only scopes c found means in
    let same = name.1 in
    let own : is_key keys (the_column scopes c).column ≡ true = sym (ap (λ (x : TypedColumn). is_key keys x.column) same) ∙ key in
    let more = rw is at runs in
    (no-faults _ _ name.0 (required _ _ _ own), is ∙ ap (λ (x : TypedColumn). item.Column x.column) same, kind ∙ ap (λ (x : TypedColumn). x.kind) same, more)
asked-only scopes keys number (text.Aggregate call) i k others binds runs = value-only scopes true keys number (text.Aggregate call) i k others binds runs

all-asked-only : (scopes : Scopes) (keys : List ℕ) (number : ℕ) (values : List ItemValue) (found : List (Item × Kind)) → Pairs (BindsAsked scopes keys) values found
    → aggregate_numbers (map (λ f. f.0) found) ≡ range_with_len number (length (aggregate_numbers (map (λ f. f.0) found)))
    → (flat_map (asked_faults scopes keys) values ≡ []) × (map (λ f. f.0) found ≡ the_asked scopes number values) × (map (λ f. f.1) found ≡ map (item_kind scopes) values)
all-asked-only scopes keys number [] [] pairs runs = (refl, refl, refl)
all-asked-only scopes keys number [] (f ∷ found) pairs runs = absurd pairs
all-asked-only scopes keys number (v ∷ values) [] pairs runs = absurd pairs
all-asked-only scopes keys number (v ∷ values) ((i, k) ∷ found) pairs runs =
    let one = asked-only scopes keys number v i k (map (λ f. f.0) found) pairs.0 runs in
    let others = all-asked-only scopes keys (if is_call v then number + 1 else number) values found pairs.1 one.3 in (
      no-faults _ _ one.0 others.0,
      ap (λ j. j ∷ map (λ f. f.0) found) one.1 ∙ ap (λ items. the_item scopes number v ∷ items) others.1,
      ap (λ j. j ∷ map (λ f. f.1) found) one.2 ∙ ap (λ ks. item_kind scopes v ∷ ks) others.2,
    )

pub having-only : (scopes : Scopes) (keys : List ℕ) (number : ℕ) (having : Option HavingCondition) (items : List Item) → BindsHaving scopes keys having items → aggregate_numbers items ≡ range_with_len number (length (aggregate_numbers items))
    → (having_faults scopes keys having ≡ []) × (items ≡ the_asked scopes number (having_values having))
having-only scopes keys number having items (found, pairs, fit, are) runs =
    let all = all-asked-only scopes keys number (having_values having) found pairs (rw are at runs) in
    (having-quiet scopes keys having all.0 (sym (ap (λ ks. having_fits ks having) all.2) ∙ fit), are ∙ all.1)

items-only : (scopes : Scopes) (grouped : Bool) (keys : List ℕ) (items : List SelectItem) (outputs : List Output) (number : ℕ) → Pairs (BindsItem scopes grouped keys) items outputs
    → aggregate_numbers (map (λ o. o.item) outputs) ≡ range_with_len number (length (aggregate_numbers (map (λ o. o.item) outputs)))
    → (flat_map (λ i. item_faults scopes grouped keys i.value) items ≡ []) × (outputs ≡ the_outputs scopes number items)
items-only scopes grouped keys [] [] number pairs runs = (refl, refl)
items-only scopes grouped keys [] (o ∷ outputs) number pairs runs = absurd pairs
items-only scopes grouped keys (i ∷ items) [] number pairs runs = absurd pairs
items-only scopes grouped keys (i ∷ items) (o ∷ outputs) number pairs runs =
    let one = value-only scopes grouped keys number i.value o.item o.kind (map (λ o. o.item) outputs) pairs.0.1 runs in
    let others = items-only scopes grouped keys items outputs (next_of number i) pairs.1 one.3 in
    let name = pairs.0.0 in
    let shown_item = one.1 in
    let kind = one.2 in
    let rest = others.1 in
    let first : output_of o.name o.item o.kind ≡ the_output scopes number i = cc in
    let all : output_of o.name o.item o.kind ∷ outputs ≡ the_output scopes number i ∷ the_outputs scopes (next_of number i) items = cc in
    (no-faults _ _ one.0 others.0, all)

pub list-only : (scope : Scope) (scopes : Scopes) (grouped : Bool) (keys : List ℕ) (l : SelectList) (outputs : List Output) (number : ℕ) → BindsList scope scopes grouped keys l outputs
    → aggregate_numbers (map (λ o. o.item) outputs) ≡ range_with_len number (length (aggregate_numbers (map (λ o. o.item) outputs)))
    → (list_faults scope scopes grouped keys l ≡ []) × (outputs ≡ shown scope scopes number l)
list-only scope scopes grouped keys (list.Items items) outputs number binds runs = items-only scopes grouped keys items outputs number binds runs
list-only scope scopes grouped keys (list.Star at) outputs number (is, may) runs =
    (required _ _ at (sym (ap (λ os. list_all (λ o. is_shown grouped keys o.item) os) is) ∙ may), is)

-- ---- numbers, one after the other

split-range : (n : ℕ) (xs ys : List ℕ) → xs ++ ys ≡ range_with_len n (length (xs ++ ys)) → (xs ≡ range_with_len n (length xs)) × (ys ≡ range_with_len (n + length xs) (length ys))
split-range n [] ys is = let none : n ≡ n + 0 = omega arith in (refl, is ∙ ap (λ m. range_with_len m (length ys)) none)
split-range n (x ∷ xs) ys is =
    let first : x ≡ n = cc in
    let rest : xs ++ ys ≡ range_with_len (n + 1) (length (xs ++ ys)) = cc in
    let more = split-range (n + 1) xs ys rest in
    let left = more.0 in
    let next : (n + 1) + length xs ≡ n + length (x ∷ xs) = omega arith in
    let all : x ∷ xs ≡ n ∷ range_with_len (n + 1) (length xs) = cc in
    (all, more.1 ∙ ap (λ m. range_with_len m (length ys)) next)

-- the instances and aggregates have the next numbers
abbrev pub Runs : Before → Listing → Type 0
Runs b l = (map (λ o. o.number) l.references ≡ range_with_len (length b.tables) (length l.references)) × (l.aggregates ≡ range_with_len b.aggregates (length l.aggregates))

references-split : (b : Before) (p q : Listing) → Runs b (both_listings p q)
    → (map (λ o. o.number) p.references ≡ range_with_len (length b.tables) (length (map (λ o. o.number) p.references)))
    × (map (λ o. o.number) q.references ≡ range_with_len (length b.tables + length (map (λ o. o.number) p.references)) (length (map (λ o. o.number) q.references)))
references-split b p q runs =
    let numbers : List TableReference → List ℕ = map (λ o. o.number) in
    let whole : numbers p.references ++ numbers q.references ≡ numbers (p.references ++ q.references) = sym (map-append (λ o. o.number) p.references q.references) in
    let count : length (p.references ++ q.references) ≡ length (numbers p.references ++ numbers q.references) = sym (length-map (p.references ++ q.references) (λ o. o.number)) ∙ sym (ap length whole) in
    split-range (length b.tables) (numbers p.references) (numbers q.references) (whole ∙ runs.0 ∙ ap (range_with_len (length b.tables)) count)

pub runs-left : (b : Before) (p q : Listing) → Runs b (both_listings p q) → Runs b p
runs-left b p q runs = (
  (references-split b p q runs).0 ∙ ap (range_with_len (length b.tables)) (length-map p.references (λ o. o.number)),
  (split-range b.aggregates p.aggregates q.aggregates runs.1).0,
)

module _ (S : Schema) where
  references-length : (before ts : List TableName) → length (Rattle.binder.proofs.AnalysisNumbers.references_behind S before ts) ≡ length ts
  references-length before [] = refl
  references-length before (t ∷ ts) = let rest = references-length (before ++ t ∷ []) ts in omega (arith, rest)

  pub runs-right : (b : Before) (p q : Listing) (c : Content) → Runs b (both_listings p q) → p ≡ of_content S b c → Runs (behind b c) q
  runs-right b p q c runs is =
      let numbers : List TableReference → List ℕ = map (λ o. o.number) in
      let many = ap (λ (l : Listing). length l.references) is in
      let count = references-length b.tables c.tables in
      let mapped = length-map p.references (λ o. o.number) in
      let place : length b.tables + length (numbers p.references) ≡ length (b.tables ++ c.tables) = omega (arith, many, count, mapped, length-append b.tables c.tables) in
      let calls = ap (λ (l : Listing). length l.aggregates) is in
      let called = length-range_with_len b.aggregates c.aggregates in
      let number : b.aggregates + length p.aggregates ≡ b.aggregates + c.aggregates = omega (arith, calls, called) in (
        (references-split b p q runs).1 ∙ ap (λ n. range_with_len n (length (numbers q.references))) place ∙ ap (range_with_len (length (b.tables ++ c.tables))) (length-map q.references (λ o. o.number)),
        (split-range b.aggregates p.aggregates q.aggregates runs.1).1 ∙ ap (λ n. range_with_len n (length q.aggregates)) number,
      )

  -- ---- tables

  find-only : (t : TableName) (o : TableReference) (e : Table) → IsFirst (λ (e : Table). e.name ≡ t.name.text) S.tables o.table e → find_table 0 S.tables t.name.text ≡ Some (o.table, e)
  unfolding FoundTable
  find-only t o e first = by (find_table 0 S.tables t.name.text) (found-table t.name.text 0 S.tables) where
    by : (f : Option (ℕ × Table)) → FoundTable t.name.text 0 S.tables f → f ≡ Some (o.table, e)
    by None none = absurd (none (o.table, e, first.stands))
    by (Some (place, entry)) (i, is, at) =
        let same = first-once (λ (e : Table). e.name ≡ t.name.text) S.tables i o.table entry e is first in
        let here : place ≡ o.table = omega (arith, at, same.0) in
        let there = same.1 in
        let both : (place, entry) ≡ (o.table, e) = cc in
        ap (λ x. Some x) both

  not-taken : (name : Rattle.sql_parse.specs.declared.name.Name.Name) (others : Scope) → (HasInstance name others → ⊥) → not (is_taken name.text others) ≡ true
  unfolding FoundInstance
  not-taken name others free = ap not (taken-instance name.text 0 others) ∙ by (instance_named name.text 0 others) (found-instance name 0 others) where
    by : (o : Option (ℕ × Table)) → FoundInstance name 0 others o → not (is_some o) ≡ true
    by None found = refl
    by (Some p) (i, k, first, entry, at) = absurd (free (i, k, first.stands))

  abbrev instance_of : ℕ → ℕ → TableReference
  instance_of number table = record { number = number; table = table }

  abbrev known_of : List ℕ → Table → Known
  known_of name entry = record { name = name; entry = entry }

  pub table-only : (others : Scope) (t : TableName) (o : TableReference) (k : Known) (b : Before) → BindsTable S others t o k → Runs b (one_listing o)
      → (table_faults S others t ≡ []) × (o ≡ the_reference S b.tables t) × (k ≡ known S t)
  table-only others t o k b binds runs =
      let found = find-only t o k.entry binds.entry in
      let number : o.number ≡ length b.tables = let listed = runs.0 in cc in
      let place : o.table ≡ (the_table S t).0 = sym (ap (λ x. (unwrap_or x no_table).0) found) in
      let entry : k.entry ≡ (the_table S t).1 = sym (ap (λ x. (unwrap_or x no_table).1) found) in
      let name = binds.name in
      let free = not-taken (known_name t) others (λ (i, other, (at, is)). binds.free (i, other, (at, is ∙ sym name))) in
      let reference : instance_of o.number o.table ≡ the_reference S b.tables t = cc in
      let instance : known_of k.name k.entry ≡ known S t = cc in
      (no-faults _ _ (required _ _ t.name.at (ap is_some found)) (required _ _ (known_name t).at free), reference, instance)
