-- What is computed of names, terms, tables, items and keys is what they mean, or their first fault.
use Rattle.std.proofs.Common.{◌≡◌, refl, sym, ◌∙◌, ap, ℕ, ◌+◌, ◌==◌, Bool, true, false, not, if◌then◌else◌, List, [], ◌∷◌, ◌++◌, flat_map, length, map, is_some, unwrap_or, zip, Option, Some, None, Result, Ok, Err, arith, append_assoc, append-nil}
use Rattle.std.specs.List.{list_all, range_with_len}
use Rattle.values.specs.Faults.{◌>>=◌, wanted, wanted_if}
use Rattle.schema.specs.Each.{each}
use Rattle.schema.specs.declared.schema.Column as entries
use Rattle.schema.specs.declared.schema.Kind.{Kind}
use Rattle.schema.specs.declared.schema.Kind.TheVariants as kind
use Rattle.schema.specs.declared.schema.Table.{Table}
use Rattle.schema.specs.declared.schema.Schema.{Schema}
use Rattle.sql_parse.specs.declared.statement.AggregateFunction.{AggregateFunction}
use Rattle.sql_parse.specs.declared.statement.AggregateFunction.TheVariants as function
use Rattle.sql_parse.specs.declared.statement.ColumnName.{ColumnName}
use Rattle.sql_parse.specs.declared.statement.ItemValue.{ItemValue}
use Rattle.sql_parse.specs.declared.statement.ItemValue.TheVariants as text
use Rattle.sql_parse.specs.declared.statement.Operator.{Operator}
use Rattle.sql_parse.specs.declared.statement.OrderKey.{OrderKey}
use Rattle.sql_parse.specs.declared.statement.SelectItem.{SelectItem}
use Rattle.sql_parse.specs.declared.statement.SelectList.{SelectList}
use Rattle.sql_parse.specs.declared.statement.SelectList.TheVariants as list
use Rattle.sql_parse.specs.declared.statement.TableName.{TableName}
use Rattle.sql_parse.specs.declared.statement.Term as tree
use Rattle.sql_parse.specs.declared.statement.Term.TheVariants as written
use Rattle.query.specs.declared.query.Cond.TheVariants as cond
use Rattle.query.specs.declared.query.Item.{Item}
use Rattle.query.specs.declared.query.Item.TheVariants as item
use Rattle.query.specs.declared.query.SortKey.{SortKey}
use Rattle.query.specs.declared.query.TableInstance.{TableInstance}
use Rattle.query.specs.declared.query.Term.TheVariants as term
use Rattle.binder.specs.declared.fault.BindReason.{BindReason}
use Rattle.binder.specs.declared.fault.BindReason.TheVariants.{UnknownTable, AmbiguousName, RepeatedName, MixedKinds, UngroupedColumn, SumOfText, NotOneColumn, NoOutputColumn, OuterAggregate}
use Rattle.binder.specs.declared.fault.BindRefusal.{BindRefusal}
use Rattle.binder.specs.declared.output.Output.{Output}
use Rattle.binder.specs.declared.scope.TypedColumn.{TypedColumn}
use Rattle.binder.specs.declared.selects.BoundSelect.{BoundSelect}
use Rattle.binder.specs.declared.selects.BoundTerm.{BoundTerm}
use Rattle.binder.specs.declared.tables.Numbered.{Numbered}
use Rattle.binder.specs.Lookups.{find_table, refusal, table_in}
use Rattle.binder.specs.Meanings.{columns_of}
use Rattle.binder.specs.Numbers.{enter, entered, with_table}
use Rattle.binder.specs.Ordering.{first_place, one_column, order_in, sort_key_in, without_repeats}
use Rattle.binder.specs.Outputs.{aggregate_in, aggregate_of, all_columns as all_columns_from, columns_from, is_aggregate, is_shown, item_in, items_in, key_in, output_in, output_name, outputs_in, shows}
use Rattle.binder.specs.Scopes.{Scope, Scopes, is_taken, known_name, meant, place_in_text}
use Rattle.binder.specs.Kinds.{are_comparable}
use Rattle.binder.specs.Selects.{comparison_in, membership_in, one_output, term_in}
use Rattle.binder.specs.Parts.{all_columns, output_at, unless, fault_in, value_in, name_faults, the_column, term_faults, the_term, no_table, the_table, known, table_faults, widths, the_reference, the_instance, instances_behind, key_faults, the_key, aggregate_by, kind_by, has_aggregate, aggregate_faults, the_aggregate, aggregate_kind, item_faults, the_item, item_kind, the_output, the_outputs, list_faults, shown, kinds_shown, is_one, first_kind, is_empty, are_one, place_of, items_meant, order_faults, the_sort_key}

-- ---- answers

-- refused with the first fault, if there is any
abbrev pub answer : {A : Type 0} → List BindRefusal → A → Result A BindRefusal
answer [] x = Ok x
answer (r ∷ faults) x = Err r

module _ {A B : Type 0} where
  -- one after the other
  pub then-answer : (r : Result A BindRefusal) (fs : List BindRefusal) (x : A) (f : A → Result B BindRefusal) (gs : List BindRefusal) (y : B) → r ≡ answer fs x → f x ≡ answer gs y → (r >>= f) ≡ answer (fs ++ gs) y
  then-answer r [] x f gs y is next = ap (λ z. z >>= f) is ∙ next
  then-answer r (e ∷ fs) x f gs y is next = ap (λ z. z >>= f) is

  -- made into something else
  pub made-answer : (r : Result A BindRefusal) (fs : List BindRefusal) (x : A) (f : A → B) → r ≡ answer fs x → (r >>= λ z. Ok (f z)) ≡ answer fs (f x)
  made-answer r [] x f is = ap (λ z. z >>= λ z. Ok (f z)) is
  made-answer r (e ∷ fs) x f is = ap (λ z. z >>= λ z. Ok (f z)) is

pub each-answer : {A B : Type 0} (f : A → Result B BindRefusal) (faults : A → List BindRefusal) (value : A → B) → ((x : A) → f x ≡ answer (faults x) (value x)) → (xs : List A)
    → each f xs ≡ answer (flat_map faults xs) (map value xs)
unfolding each
each-answer f faults value one [] = refl
each-answer f faults value one (x ∷ xs) =
    then-answer (f x) (faults x) (value x) (λ first. each f xs >>= λ others. Ok (first ∷ others)) (flat_map faults xs) (value x ∷ map value xs) (one x)
    (made-answer (each f xs) (flat_map faults xs) (map value xs) (λ others. value x ∷ others) (each-answer f faults value one xs))

pub if-answer : {A : Type 0} (b : Bool) (reason : BindReason) (at : ℕ) (x : A) → wanted_if (refusal reason at) b x ≡ answer (unless b reason at) x
if-answer true reason at x = refl
if-answer false reason at x = refl

read-answer : {A : Type 0} (r : Result A BindRefusal) (other : A) → r ≡ answer (fault_in r) (value_in other r)
read-answer (Ok x) other = refl
read-answer (Err r) other = refl

-- ---- names and terms

pub name-answer : (scopes : Scopes) (c : ColumnName) → meant c scopes ≡ answer (name_faults scopes c) (the_column scopes c)
name-answer scopes c = read-answer (meant c scopes) _

pub term-answer : (scopes : Scopes) (a : tree.Term) → term_in scopes a ≡ answer (term_faults scopes a) (the_term scopes a)
term-answer scopes (written.Column c) =
    made-answer (meant c scopes) (name_faults scopes c) (the_column scopes c) (λ found. record { term = term.Column found.column; kind = Some found.kind }) (name-answer scopes c)
term-answer scopes (written.Literal v) = refl

pub comparison-answer : (scopes : Scopes) (a : tree.Term) (op : Operator) (b : tree.Term) → comparison_in scopes a op b
    ≡ answer (term_faults scopes a ++ (term_faults scopes b ++ unless (are_comparable (the_term scopes a).kind (the_term scopes b).kind) MixedKinds op.at)) (cond.Compare op.comparison (the_term scopes a).term (the_term scopes b).term)
comparison-answer scopes a op b =
    then-answer (term_in scopes a) (term_faults scopes a) (the_term scopes a) _ _ _ (term-answer scopes a)
    (then-answer (term_in scopes b) (term_faults scopes b) (the_term scopes b) _ _ _ (term-answer scopes b)
    (if-answer (are_comparable (the_term scopes a).kind (the_term scopes b).kind) MixedKinds op.at _))

abbrev kinds_of : List Output → List Kind
kinds_of = map (λ o. o.kind)

membership-by : (left : BoundTerm) (at : ℕ) (query : BoundSelect) (outputs : List Output)
    → (one_output at outputs >>= λ output. wanted_if (refusal MixedKinds at) (are_comparable left.kind (Some output.kind)) (cond.In left.term query.block))
    ≡ answer (unless (is_one (kinds_of outputs)) NotOneColumn at ++ unless (are_comparable left.kind (first_kind (kinds_of outputs))) MixedKinds at) (cond.In left.term query.block)
membership-by left at query [] = refl
membership-by left at query (o ∷ []) = if-answer (are_comparable left.kind (Some o.kind)) MixedKinds at _
membership-by left at query (o ∷ p ∷ others) = refl

pub membership-answer : (left : BoundTerm) (at : ℕ) (query : BoundSelect) (kinds : List Kind) → map (λ o. o.kind) query.outputs ≡ kinds → membership_in left at query
    ≡ answer (unless (is_one kinds) NotOneColumn at ++ unless (are_comparable left.kind (first_kind kinds)) MixedKinds at) (cond.In left.term query.block)
membership-answer left at query kinds same =
    membership-by left at query query.outputs
    ∙ ap (λ ks. answer (unless (is_one ks) NotOneColumn at ++ unless (are_comparable left.kind (first_kind ks)) MixedKinds at) (cond.In left.term query.block)) same

-- ---- items

columns-from-append : (n : ℕ) (cs ds : List entries.Column) → columns_from n (cs ++ ds) ≡ columns_from n cs ++ columns_from (n + length cs) ds
columns-from-append n [] ds = ap (λ m. columns_from m ds) (omega arith)
columns-from-append n (c ∷ cs) ds =
    ap (λ os. output_at (n, c) ∷ os) (columns-from-append (n + 1) cs ds ∙ ap (λ m. columns_from (n + 1) cs ++ columns_from m ds) (omega arith))

columns-placed : (n : ℕ) (cs : List entries.Column) → columns_from n cs ≡ map output_at (zip (range_with_len n (length cs)) cs)
columns-placed n [] = refl
columns-placed n (c ∷ cs) = ap (λ os. output_at (n, c) ∷ os) (columns-placed (n + 1) cs)

all-from : (n : ℕ) (scope : Scope) → all_columns_from n scope ≡ columns_from n (columns_of scope)
all-from n [] = refl
all-from n (o ∷ scope) =
    ap (λ os. columns_from n o.entry.columns ++ os) (all-from (n + length o.entry.columns) scope) ∙ sym (columns-from-append n o.entry.columns (columns_of scope))

-- the columns of a FROM are all of them, by their places
star-is : (scope : Scope) → all_columns_from 0 scope ≡ all_columns scope
star-is scope = all-from 0 scope ∙ columns-placed 0 (columns_of scope)

pub star-columns : (scope : Scope) → all_columns scope ≡ columns_from 0 (columns_of scope)
star-columns scope = sym (columns-placed 0 (columns_of scope))

pub key-answer : (scopes : Scopes) (c : ColumnName) → key_in scopes c ≡ answer (key_faults scopes c) (the_key scopes c)
key-answer scopes c =
    then-answer (meant c scopes) (name_faults scopes c) (the_column scopes c) _ _ _ (name-answer scopes c)
    (if-answer ((the_column scopes c).column.level == 0) UngroupedColumn (place_in_text c) (the_column scopes c).column.place)

aggregate-by : (f : AggregateFunction) (at : ℕ) (c : TypedColumn) (k : Kind) → c.kind ≡ k → aggregate_of f at c ≡ answer (unless (has_aggregate f k) SumOfText at) (aggregate_by f c.column.place, kind_by f k)
aggregate-by function.Count at c k is = refl
aggregate-by function.Sum at c kind.Int is = rw is refl
aggregate-by function.Sum at c kind.Text is = rw is refl
aggregate-by function.Min at c k is = rw is refl
aggregate-by function.Max at c k is = rw is refl

pub aggregate-answer : (scopes : Scopes) (f : AggregateFunction) (at : ℕ) (o : Option ColumnName) → aggregate_in scopes f at o
    ≡ answer (aggregate_faults scopes f at o) (the_aggregate scopes f o, aggregate_kind scopes f o)
aggregate-answer scopes f at None = refl
aggregate-answer scopes f at (Some c) =
    let found = the_column scopes c in
    then-answer (meant c scopes) (name_faults scopes c) found _ _ _ (name-answer scopes c)
    (then-answer (wanted_if (refusal OuterAggregate at) (found.column.level == 0) found) (unless (found.column.level == 0) OuterAggregate at) found (aggregate_of f at) _ _
    (if-answer (found.column.level == 0) OuterAggregate at found) (aggregate-by f at found found.kind refl))

module _ (scopes : Scopes) (grouped : Bool) (keys : List ℕ) where
  item-answer : (number : ℕ) (v : ItemValue) → item_in scopes grouped keys number v ≡ answer (item_faults scopes grouped keys v) (the_item scopes number v, item_kind scopes v)
  item-answer number (text.Column c) =
      then-answer (meant c scopes) (name_faults scopes c) (the_column scopes c) _ _ _ (name-answer scopes c)
      (if-answer (shows grouped keys (the_column scopes c).column) UngroupedColumn (place_in_text c) _)
  item-answer number (text.Aggregate call) =
      made-answer (aggregate_in scopes call.function call.at call.column) (aggregate_faults scopes call.function call.at call.column) (the_aggregate scopes call.function call.column, aggregate_kind scopes call.function call.column)
      (λ found. (item.Aggregate number found.0, found.1)) (aggregate-answer scopes call.function call.at call.column)

  output-answer : (number : ℕ) (i : SelectItem) → output_in scopes grouped keys number i ≡ answer (item_faults scopes grouped keys i.value) (the_output scopes number i)
  output-answer number i =
      made-answer (item_in scopes grouped keys number i.value) (item_faults scopes grouped keys i.value) (the_item scopes number i.value, item_kind scopes i.value)
      (λ found. record { name = output_name i.alias i.value; item = found.0; kind = found.1 }) (item-answer number i.value)

  items-answer : (number : ℕ) (items : List SelectItem) → items_in scopes grouped keys number items ≡ answer (flat_map (λ i. item_faults scopes grouped keys i.value) items) (the_outputs scopes number items)
  unfolding items_in
  items-answer number [] = refl
  items-answer number (i ∷ items) =
      let next : ℕ = if is_aggregate i then number + 1 else number in
      then-answer (output_in scopes grouped keys number i) (item_faults scopes grouped keys i.value) (the_output scopes number i) _ _ _ (output-answer number i)
      (made-answer (items_in scopes grouped keys next items) (flat_map (λ i. item_faults scopes grouped keys i.value) items) (the_outputs scopes next items)
      (λ others. the_output scopes number i ∷ others) (items-answer next items))

  pub list-answer : (scope : Scope) (number : ℕ) (l : SelectList) → outputs_in scope scopes grouped keys number l ≡ answer (list_faults scope scopes grouped keys l) (shown scope scopes number l)
  list-answer scope number (list.Items items) = items-answer number items
  list-answer scope number (list.Star at) =
      ap (λ os. wanted_if (refusal UngroupedColumn at) (list_all (λ o. is_shown grouped keys o.item) os) os) (star-is scope)
      ∙ if-answer (list_all (λ o. is_shown grouped keys o.item) (all_columns scope)) UngroupedColumn at (all_columns scope)

outputs-kinds : (scopes : Scopes) (number : ℕ) (items : List SelectItem) → kinds_of (the_outputs scopes number items) ≡ map (λ i. item_kind scopes i.value) items
outputs-kinds scopes number [] = refl
outputs-kinds scopes number (i ∷ items) = ap (λ ks. item_kind scopes i.value ∷ ks) (outputs-kinds scopes (if is_aggregate i then number + 1 else number) items)

pub shown-kinds : (scope : Scope) (scopes : Scopes) (number : ℕ) (l : SelectList) → map (λ o. o.kind) (shown scope scopes number l) ≡ kinds_shown scope scopes l
shown-kinds scope scopes number (list.Items items) = outputs-kinds scopes number items
shown-kinds scope scopes number (list.Star at) = refl

-- ---- ORDER BY

abbrev keyed : List Output → Bool → Item → SortKey
keyed outputs descending i = record { item = first_place i outputs; descending = descending }

one-column : (at : ℕ) (items : List Item) (outputs : List Output) (descending : Bool) → (one_column at items >>= λ i. Ok (keyed outputs descending i))
    ≡ answer (unless (not (is_empty items)) NoOutputColumn at ++ unless (are_one items) AmbiguousName at) (record { item = place_of items outputs; descending = descending })
one-column at [] outputs descending = refl
one-column at (i ∷ others) outputs descending = made-answer (wanted_if (refusal AmbiguousName at) (are_one (i ∷ others)) i) (unless (are_one (i ∷ others)) AmbiguousName at) i (keyed outputs descending) (if-answer (are_one (i ∷ others)) AmbiguousName at i)

pub order-answer : (scope : Scope) (outputs : List Output) (keys : List OrderKey) → order_in scope outputs keys
    ≡ answer (flat_map (order_faults scope outputs) keys) (without_repeats (map (the_sort_key scope outputs) keys))
unfolding order_in
order-answer scope outputs keys =
    made-answer (each (sort_key_in scope outputs) keys) (flat_map (order_faults scope outputs) keys) (map (the_sort_key scope outputs) keys) without_repeats
    (each-answer (sort_key_in scope outputs) (order_faults scope outputs) (the_sort_key scope outputs) (λ key. one-column (place_in_text key.column) (items_meant scope outputs key) outputs key.descending) keys)

-- ---- table instances

module _ (S : Schema) where
  -- what has numbers behind these table instances
  abbrev pub numbered : List TableName → ℕ → Numbered
  numbered before number = record { tables = instances_behind S [] before; next_column = widths S before; next_aggregate = number }

  pub instances-append : (before xs ys : List TableName) → instances_behind S before (xs ++ ys) ≡ instances_behind S before xs ++ instances_behind S (before ++ xs) ys
  instances-append before [] ys = ap (λ b. instances_behind S b ys) (sym (append-nil before))
  instances-append before (t ∷ xs) ys =
      ap (λ is. the_instance S before t ∷ is) (instances-append (before ++ t ∷ []) xs ys
      ∙ ap (λ b. instances_behind S (before ++ t ∷ []) xs ++ instances_behind S b ys) (append_assoc before (t ∷ []) xs))

  pub instances-length : (before xs : List TableName) → length (instances_behind S before xs) ≡ length xs
  instances-length before [] = refl
  instances-length before (t ∷ xs) = let rest = instances-length (before ++ t ∷ []) xs in omega (arith, rest)

  pub widths-append : (xs ys : List TableName) → widths S (xs ++ ys) ≡ widths S xs + widths S ys
  widths-append [] ys = omega arith
  widths-append (t ∷ xs) ys = let rest = widths-append xs ys in omega (arith, rest)

  -- one more
  numbered-next : (before : List TableName) (number : ℕ) (t : TableName) → with_table (numbered before number) (the_table S t).0 (the_table S t).1 (known_name t).text ≡ numbered (before ++ t ∷ []) number
  numbered-next before number t =
      let tables : instances_behind S [] before ++ the_instance S before t ∷ [] ≡ instances_behind S [] (before ++ t ∷ []) = sym (instances-append [] before (t ∷ [])) in
      let width = widths-append before (t ∷ []) in
      let columns : widths S before + length (the_table S t).1.columns ≡ widths S (before ++ t ∷ []) = omega (arith, width) in
      ap (λ (ts : List TableInstance). record { tables = ts; next_column = widths S before + length (the_table S t).1.columns; next_aggregate = number }) tables
      ∙ ap (λ c. record { tables = instances_behind S [] (before ++ t ∷ []); next_column = c; next_aggregate = number }) columns

  find-answer : (o : Option (ℕ × Table)) (at : ℕ) → wanted (refusal UnknownTable at) o ≡ answer (unless (is_some o) UnknownTable at) (unwrap_or o no_table)
  find-answer None at = refl
  find-answer (Some found) at = refl

  pub enter-answer : (others chain : Scope) (t : TableName) (before : List TableName) (number : ℕ) → enter S others chain t (numbered before number)
      ≡ answer (table_faults S (others ++ chain) t) (the_reference S before t, chain ++ known S t ∷ [], numbered (before ++ t ∷ []) number)
  unfolding enter
  enter-answer others chain t before number =
      then-answer (table_in S t.name) (unless (is_some (find_table 0 S.tables t.name.text)) UnknownTable t.name.at) (the_table S t) _ _ _ (find-answer (find_table 0 S.tables t.name.text) t.name.at)
      (if-answer (not (is_taken (known_name t).text (others ++ chain))) RepeatedName (known_name t).at (entered chain t (numbered before number) (the_table S t))
      ∙ ap (λ x. answer (unless (not (is_taken (known_name t).text (others ++ chain))) RepeatedName (known_name t).at) x) entered-is)
    where
      entered-is : entered chain t (numbered before number) (the_table S t) ≡ (the_reference S before t, chain ++ known S t ∷ [], numbered (before ++ t ∷ []) number)
      entered-is =
          ap (λ n. (record { number = n; table = (the_table S t).0 }, chain ++ known S t ∷ [], with_table (numbered before number) (the_table S t).0 (the_table S t).1 (known_name t).text)) (instances-length [] before)
          ∙ ap (λ (m : Numbered). (the_reference S before t, chain ++ known S t ∷ [], m)) (numbered-next before number t)
