-- Scopes by hash: one more table keeps the maps in step with the list.
use Rattle.std.proofs.Common.{inl, inr, ◌≡◌, refl, ℕ, ◌+◌, List, [], ◌∷◌, ◌++◌, length, Bool, true, false, ◌||◌, Option, Some, None, option_map, is_some, bytes_eq, ap, sym, ◌∙◌, arith, append_assoc, ◌<◌, drop, get_or, if◌then◌else◌, Ok, Err}
use Rattle.std.proofs.lemmas.List.{append-nil}
use Rattle.std.proofs.lemmas.Slice.Eq.{bytes_eq-Decides}
use Rattle.std.specs.Borrow.{Bor}
use Rattle.std.specs.HashMap as hash
use Rattle.std.specs.HashMap.{HashMap}
use Rattle.values.proofs.Lists.{drop_next}
use Rattle.schema.specs.declared.schema.Kind.{Kind}
use Rattle.schema.specs.declared.schema.Column as entries
use Rattle.schema.specs.declared.schema.Table.{Table}
use Rattle.sql_parse.specs.declared.name.Name.{Name}
use Rattle.binder.specs.declared.scope.Placed.{Placed}
use Rattle.binder.specs.declared.scope.Meaning.{Meaning}
use Rattle.binder.specs.declared.scope.Meaning.TheVariants.{Several}
use Rattle.binder.specs.declared.fault.BindReason.TheVariants.{UnknownColumn}
use Rattle.binder.specs.Lookups.{find_column, refusal}
use Rattle.binder.specs.Scopes.{Known, Scope, is_taken, columns_named, named_in, instance_named, at_level, column_of}
use Rattle.binder.specs.Lent.{IsIndexed, width, placed_of, meaning_of, one_more, with_more}
use Rattle.binder.proofs.NameKeys.{after-insert}

pub width-append : (a b : Scope) → width (a ++ b) ≡ width a + width b
width-append [] b = omega arith
width-append (o ∷ a) b = rw (width-append a b) (omega arith)

-- the columns of a name in two FROMs side by side
pub named-append : (q : List ℕ) (n : ℕ) (a b : Scope) → named_in q n (a ++ b) ≡ named_in q n a ++ named_in q (n + width a) b
named-append q n [] b = ap (λ m. named_in q m b) (omega arith)
named-append q n (o ∷ a) b =
    let m : (n + length o.entry.columns) + width a ≡ n + (length o.entry.columns + width a) = omega arith in
    rw (named-append q (n + length o.entry.columns) a b, m) (simp append_assoc)

pub named-push : (q : List ℕ) (a : Scope) (o : Known) → named_in q 0 (a ++ o ∷ []) ≡ named_in q 0 a ++ columns_named q (width a) o.entry.columns
named-push q a o =
    let at : 0 + width a ≡ width a = omega arith in
    named-append q 0 a (o ∷ [])
    ∙ ap (λ n. named_in q 0 a ++ (columns_named q n o.entry.columns ++ [])) at
    ∙ ap (λ xs. named_in q 0 a ++ xs) (append-nil (columns_named q (width a) o.entry.columns))

abbrev pub or_first : Option (ℕ × Table) → Option (ℕ × Table) → Option (ℕ × Table)
or_first None second = second
or_first (Some p) second = Some p

pub reference-append : (q : List ℕ) (n : ℕ) (a b : Scope) → instance_named q n (a ++ b) ≡ or_first (instance_named q n a) (instance_named q (n + width a) b)
reference-append q n [] b = ap (λ m. instance_named q m b) (omega arith)
reference-append q n (o ∷ a) b =
    let m : (n + length o.entry.columns) + width a ≡ n + (length o.entry.columns + width a) = omega arith in
    step (bytes_eq q o.name) (reference-append q (n + length o.entry.columns) a b ∙ ap (λ k. or_first (instance_named q (n + length o.entry.columns) a) (instance_named q k b)) m)
  where
    step : (same : Bool) → instance_named q (n + length o.entry.columns) (a ++ b) ≡ or_first (instance_named q (n + length o.entry.columns) a) (instance_named q (n + (length o.entry.columns + width a)) b)
        → (if same then Some (n, o.entry) else instance_named q (n + length o.entry.columns) (a ++ b))
        ≡ or_first (if same then Some (n, o.entry) else instance_named q (n + length o.entry.columns) a) (instance_named q (n + (length o.entry.columns + width a)) b)
    step true h = refl
    step false h = h

pub taken-instance : (q : List ℕ) (n : ℕ) (a : Scope) → is_taken q a ≡ is_some (instance_named q n a)
taken-instance q n [] = refl
taken-instance q n (o ∷ a) = step (bytes_eq q o.name) (taken-instance q (n + length o.entry.columns) a)
  where
    step : (same : Bool) → is_taken q a ≡ is_some (instance_named q (n + length o.entry.columns) a)
        → (same || is_taken q a) ≡ is_some (if same then Some (n, o.entry) else instance_named q (n + length o.entry.columns) a)
    step true h = refl
    step false h = h

pub is_some-map : {A B : Type 0} (f : A → B) (o : Option A) → is_some (option_map f o) ≡ is_some o
is_some-map f None = refl
is_some-map f (Some x) = refl

-- ---- columns by name, in short

more-append : (m : Option Meaning) (xs ys : List (ℕ × Kind)) → with_more m (xs ++ ys) ≡ with_more (with_more m xs) ys
more-append m [] ys = refl
more-append m (x ∷ xs) ys = more-append (one_more m x) xs ys

several : (xs : List (ℕ × Kind)) → with_more (Some Several) xs ≡ Some Several
several [] = refl
several (x ∷ xs) = several xs

meaning-more : (xs : List (ℕ × Kind)) → meaning_of xs ≡ with_more None xs
meaning-more [] = refl
meaning-more (x ∷ []) = refl
meaning-more (x ∷ y ∷ xs) = sym (several xs)

-- the columns of a name with those of one more table
pub meaning-push : (xs ys : List (ℕ × Kind)) → meaning_of (xs ++ ys) ≡ with_more (meaning_of xs) ys
meaning-push xs ys = meaning-more (xs ++ ys) ∙ more-append None xs ys ∙ ap (λ m. with_more m ys) (sym (meaning-more xs))

-- a column's place may be counted on from where its table's columns begin
pub find-shift : (n k : ℕ) (cs : List entries.Column) (name : List ℕ) → find_column (n + k) cs name ≡ option_map (λ found. (n + found.0, found.1)) (find_column k cs name)
find-shift n k [] name = refl
find-shift n k (c ∷ cs) name =
    let next : (n + k) + 1 ≡ n + (k + 1) = omega arith in
    step (bytes_eq c.name name) (ap (λ j. find_column j cs name) next ∙ find-shift n (k + 1) cs name)
  where
    step : (same : Bool) → find_column ((n + k) + 1) cs name ≡ option_map (λ found. (n + found.0, found.1)) (find_column (k + 1) cs name)
        → (if same then Some (n + k, c) else find_column ((n + k) + 1) cs name) ≡ option_map (λ found. (n + found.0, found.1)) (if same then Some (k, c) else find_column (k + 1) cs name)
    step true h = refl
    step false h = h

find-from : (n : ℕ) (cs : List entries.Column) (name : List ℕ) → find_column n cs name ≡ option_map (λ found. (n + found.0, found.1)) (find_column 0 cs name)
find-from n cs name =
    let at : n + 0 ≡ n = omega arith in
    ap (λ k. find_column k cs name) (sym at) ∙ find-shift n 0 cs name

pub column-none : (table name : Name) (level n : ℕ) (entry : Table) → find_column 0 entry.columns name.text ≡ None
    → column_of table name level (n, entry) ≡ Err (refusal UnknownColumn table.at)
column-none table name level n entry h = rw (find-from n entry.columns name.text, h) refl

pub column-some : (table name : Name) (level n place : ℕ) (entry : Table) (c : entries.Column) → find_column 0 entry.columns name.text ≡ Some (place, c)
    → column_of table name level (n, entry) ≡ Ok (at_level level (n + place, c.kind))
column-some table name level n place entry c h = rw (find-from n entry.columns name.text, h) refl

-- ---- one more column

pub column-push : {S : Type 0} (m n : HashMap (Bor (List ℕ)) Meaning S) (cs : List entries.Column) (i : ℕ) (c : entries.Column) (place : ℕ) (meaning : Meaning)
    → i < length cs → c ≡ get_or cs i c → hash.UpdatesBy (λ a b. bytes_eq a.now b.now) (λ k. bytes_eq c.name k.now) m n (Some meaning)
    → Some meaning ≡ one_more (hash.get_by (λ k. bytes_eq c.name k.now) m) (place, c.kind)
    → (q : List ℕ) → with_more (hash.get_by (λ k. bytes_eq q k.now) n) (columns_named q (place + 1) (drop (i + 1) cs)) ≡ with_more (hash.get_by (λ k. bytes_eq q k.now) m) (columns_named q place (drop i cs))
column-push m n cs i c place meaning lt at up is q =
    let more : List (ℕ × Kind) = columns_named q (place + 1) (drop (i + 1) cs) in
    let old : Option Meaning = hash.get_by (λ k. bytes_eq q k.now) m in
    elim (after-insert c.name m n meaning up q) [
      | inl here ↦
          let now : hash.get_by (λ k. bytes_eq q k.now) n ≡ one_more old (place, c.kind) = here.1 ∙ is ∙ ap (λ w. one_more (hash.get_by (λ k. bytes_eq w k.now) m) (place, c.kind)) (sym here.0) in
          rw (drop_next cs i c lt at, here.2) (ap (λ o. with_more o more) now)
      | inr there ↦ rw (drop_next cs i c lt at, there.1) (ap (λ o. with_more o more) there.0)
    ]

-- ---- one more table

or-none : (first : Option (ℕ × Table)) → or_first first None ≡ first
or-none None = refl
or-none (Some p) = refl

gone : {A : Type 0} (o : Option A) → is_some o ≡ false → o ≡ None
gone None h = refl
gone (Some x) h = cc h

-- of two tables with one name the first is kept
pub name-new : {S : Type 0} (m n : HashMap (Bor (List ℕ)) Placed S) (name : List ℕ) (placed : Placed) → hash.UpdatesBy (λ a b. bytes_eq a.now b.now) (λ k. bytes_eq name k.now) m n (Some placed)
    → is_some (hash.get_by (λ k. bytes_eq name k.now) m) ≡ false
    → (q : List ℕ) → option_map placed_of (hash.get_by (λ k. bytes_eq q k.now) n)
    ≡ or_first (option_map placed_of (hash.get_by (λ k. bytes_eq q k.now) m)) (if bytes_eq q name then Some (placed.first_place, placed.entry.now) else None)
name-new m n name placed up none q = elim (after-insert name m n placed up q) [
  | inl here ↦ let old : hash.get_by (λ k. bytes_eq q k.now) m ≡ None = gone _ (ap (λ w. is_some (hash.get_by (λ k. bytes_eq w k.now) m)) here.0 ∙ none) in rw (here.2, here.1, old) refl
  | inr there ↦ rw (there.1, there.0) (sym (or-none _))
]

pub name-kept : {S : Type 0} (m : HashMap (Bor (List ℕ)) Placed S) (name : List ℕ) (found : ℕ × Table) → is_some (hash.get_by (λ k. bytes_eq name k.now) m) ≡ true
    → (q : List ℕ) → option_map placed_of (hash.get_by (λ k. bytes_eq q k.now) m)
    ≡ or_first (option_map placed_of (hash.get_by (λ k. bytes_eq q k.now) m)) (if bytes_eq q name then Some found else None)
name-kept m name found some q = step (bytes_eq q name) refl (hash.get_by (λ k. bytes_eq q k.now) m) refl
  where
    step : (b : Bool) → bytes_eq q name ≡ b → (o : Option Placed) → hash.get_by (λ k. bytes_eq q k.now) m ≡ o → option_map placed_of o ≡ or_first (option_map placed_of o) (if b then Some found else None)
    step b e (Some p) at = refl
    step false e None at = refl
    step true e None at =
        let bad : is_some (hash.get_by (λ k. bytes_eq q k.now) m) ≡ true = ap (λ w. is_some (hash.get_by (λ k. bytes_eq w k.now) m)) ((bytes_eq-Decides q name).0 e) ∙ some in
        let none : is_some (hash.get_by (λ k. bytes_eq q k.now) m) ≡ false = ap is_some at in
        cc (bad, none)

pub indexed-push : {S T : Type 0} (scope : Scope) (o : Known) (tables new_tables : HashMap (Bor (List ℕ)) Placed S) (columns new_columns : HashMap (Bor (List ℕ)) Meaning T) (w new_w : ℕ)
    → IsIndexed scope tables columns w
    → ((q : List ℕ) → option_map placed_of (hash.get_by (λ k. bytes_eq q k.now) new_tables)
    ≡ or_first (option_map placed_of (hash.get_by (λ k. bytes_eq q k.now) tables)) (if bytes_eq q o.name then Some (w, o.entry) else None))
    → ((q : List ℕ) → hash.get_by (λ k. bytes_eq q k.now) new_columns ≡ with_more (hash.get_by (λ k. bytes_eq q k.now) columns) (columns_named q w o.entry.columns))
    → new_w ≡ w + length o.entry.columns
    → IsIndexed (scope ++ o ∷ []) new_tables new_columns new_w
indexed-push scope o tables new_tables columns new_columns w new_w i named columned counted =
    let at : 0 + width scope ≡ w = let c = i.counts in omega arith in
    record {
      finds_tables = λ q.
          named q
          ∙ ap (λ found. or_first found (if bytes_eq q o.name then Some (w, o.entry) else None)) (i.finds_tables q)
          ∙ ap (λ n. or_first (instance_named q 0 scope) (instance_named q n (o ∷ []))) (sym at)
          ∙ sym (reference-append q 0 scope (o ∷ []));
      finds_columns = λ q.
          columned q
          ∙ ap (λ m. with_more m (columns_named q w o.entry.columns)) (i.finds_columns q)
          ∙ sym (meaning-push (named_in q 0 scope) (columns_named q w o.entry.columns))
          ∙ ap (λ n. meaning_of (named_in q 0 scope ++ columns_named q n o.entry.columns)) i.counts
          ∙ sym (ap meaning_of (named-push q scope o));
      counts = let more = width-append scope (o ∷ []) in let c = i.counts in omega arith;
    }
