-- What gets numbers while a statement is bound: table instances are added behind those before, each of a table of the
-- schema, and so are columns and aggregates.
use Rattle.std.proofs.Common.{◌≡◌, refl, ap, sym, ◌∙◌, ℕ, ◌+◌, ◌≤◌, Bool, true, false, not, if◌then◌else◌, List, [], ◌∷◌, ◌++◌, length, Some, bytes_eq, arith, append_assoc}
use Rattle.std.proofs.lemmas.List.{append-nil}
use Prim.Native.Nat.{zero, suc}
use Rattle.std.specs.List.{AllByRecursion, slice_get}
use Rattle.std.proofs.lemmas.Bool.{and_from, or_from, not_from_false, eq-eqb}
use Rattle.std.proofs.lemmas.List.FromFn.{length-range_with_len}
use Rattle.values.proofs.Lists.{all_append, slice_get_behind}
use Rattle.schema.specs.declared.schema.Table.{Table}
use Rattle.schema.specs.declared.schema.Schema.{Schema}
use Rattle.sql_parse.specs.declared.statement.TableName.{TableName}
use Rattle.query.specs.declared.query.TableInstance.{TableInstance}
use Rattle.query.specs.declared.query.TableReference.{TableReference}
use Rattle.binder.specs.declared.tables.Numbered.{Numbered}
use Rattle.binder.specs.declared.fault.BindReason.TheVariants.{RepeatedName, UnknownTable}
use Rattle.binder.specs.Lookups.{find_table, table_in, refusal}
use Rattle.binder.specs.Scopes.{Scope, is_taken, known_name}
use Rattle.binder.specs.Numbers.{next_reference, entered, enter}
use Rattle.binder.specs.Extents.{width_of, one_table}
use Rattle.binder.specs.Lent.{width}
use Rattle.query.specs.Bound.{numbers_of_instance, instance_numbers, is_of_tables, none_of_tables, names_instance, is_named_by, IsOver}
use Rattle.binder.proofs.Indexes.{width-append}
use Rattle.binder.proofs.Given.{Given, and-then, given-wanted, given-if}
use Rattle.binder.proofs.Rising.{Rising, AreBelow, rising-below, rising-range}

-- ---- table instances

-- the list goes on from the other
abbrev pub Begins : {A : Type 0} → List A → List A → Type 0
Begins xs front = (more : List _) × (xs ≡ front ++ more)

pub begins-again : {A : Type 0} (xs ys zs : List A) → Begins xs ys → Begins ys zs → Begins xs zs
begins-again xs ys zs left right = (right.0 ++ left.0, left.1 ∙ ap (λ l. l ++ left.0) right.1 ∙ append_assoc zs right.0 left.0)

-- ---- columns of table instances

-- the columns of each have numbers below this one
abbrev pub AllBelow : ℕ → List TableInstance → Type 0
AllBelow b instances = AllByRecursion (λ t. AreBelow b (numbers_of_instance (Some t))) instances

all-wider : (a b : ℕ) → a ≤ b → (instances : List TableInstance) → AllBelow a instances → AllBelow b instances
all-wider a b le [] all = tt
all-wider a b le (t ∷ instances) all = (λ j high. all.0 j (omega arith), all-wider a b le instances all.1)

off-tables : (b k : ℕ) (instances : List TableInstance) → b ≤ k → AllBelow b instances → is_of_tables instances k ≡ false
off-tables b k [] le all = refl
off-tables b k (t ∷ instances) le all = or_from _ _ (all.0 k le) (off-tables b k instances le all.1)

-- so numbers that rise from there on are those of none
pub rising-off : (b c d : ℕ) (instances : List TableInstance) (xs : List ℕ) → Rising c d xs → b ≤ c → AllBelow b instances → none_of_tables instances xs ≡ true
rising-off b c d instances [] rises le all = refl
rising-off b c d instances (k ∷ xs) rises le all =
    let first = rises.0 in
    and_from _ _ (not_from_false _ (off-tables b k instances (omega arith) all)) (rising-off b (k + 1) d instances xs rises.1 (omega arith) all)

-- ---- growth

-- what has numbers after a part of so many columns
pub record Grown (S : Schema) (n m : Numbered) (more : ℕ) : Type 0 where
  pub tables : Begins m.tables n.tables
  pub over : AllByRecursion (IsOver S) n.tables → AllByRecursion (IsOver S) m.tables
  pub low : AllBelow n.next_column n.tables → AllBelow m.next_column m.tables
  pub columns : m.next_column ≡ n.next_column + more
  pub aggregates : n.next_aggregate ≤ m.next_aggregate

pub grown-none : (S : Schema) (n : Numbered) → Grown S n n 0
grown-none S n = record { tables = ([], sym (append-nil n.tables)); over = λ all. all; low = λ all. all; columns = omega arith; aggregates = omega arith }

pub grown-more : (S : Schema) (n k m : Numbered) (a b c : ℕ) → Grown S n k a → Grown S k m b → a + b ≡ c → Grown S n m c
grown-more S n k m a b c first next sum = record {
  tables = begins-again m.tables k.tables n.tables next.tables first.tables;
  over = λ all. next.over (first.over all);
  low = λ all. next.low (first.low all);
  columns = let x = first.columns in let y = next.columns in omega (arith, x, y, sum);
  aggregates = let x = first.aggregates in let y = next.aggregates in omega (arith, x, y);
}

-- the part from n to m is one of a text whose instances are these, and whose aggregates are numbered from T on
pub record Within (instances : List TableInstance) (T : ℕ) (n m : Numbered) : Type 0 where
  pub tables : Begins instances m.tables
  pub low : AllBelow T instances
  pub columns : m.next_column ≤ T
  pub aggregates : T ≤ n.next_aggregate

module _ (S : Schema) (instances : List TableInstance) (T : ℕ) (n k m : Numbered) (a b : ℕ) where
  pub within-first : Grown S k m b → Within instances T n m → Within instances T n k
  within-first next all = record {
    tables = begins-again instances m.tables k.tables all.tables next.tables;
    low = all.low;
    columns = let x = next.columns in let y = all.columns in omega (arith, x, y);
    aggregates = all.aggregates;
  }

  pub within-next : Grown S n k a → Within instances T n m → Within instances T k m
  within-next first all = record {
    tables = all.tables;
    low = all.low;
    columns = all.columns;
    aggregates = let x = first.aggregates in let y = all.aggregates in omega (arith, x, y);
  }

-- ---- one table

find-there : (n : ℕ) (ts : List Table) (name : List ℕ) (found : ℕ × Table) → find_table n ts name ≡ Some found → (i : ℕ) × (found.0 ≡ n + i) × (slice_get ts i ≡ Some found.1)
find-there n [] name found is = cc is
find-there n (t ∷ ts) name found is = by (bytes_eq t.name name) is (find-there (n + 1) ts name found)
  where
    by : (b : Bool) → (if b then Some (n, t) else find_table (n + 1) ts name) ≡ Some found
        → (find_table (n + 1) ts name ≡ Some found → (i : ℕ) × (found.0 ≡ (n + 1) + i) × (slice_get ts i ≡ Some found.1))
        → (i : ℕ) × (found.0 ≡ n + i) × (slice_get (t ∷ ts) i ≡ Some found.1)
    by true e more = let same : (n, t) ≡ found = cc e in (zero, rw (← same) (omega arith), rw (← same) refl)
    by false e more = let rest = more e in let at = rest.1 in (suc rest.0, omega (arith, at), rest.2)

find-is : (ts : List Table) (name : List ℕ) (found : ℕ × Table) → find_table 0 ts name ≡ Some found → slice_get ts found.0 ≡ Some found.1
find-is ts name found is =
    let there = find-there 0 ts name found is in
    let at : found.0 ≡ there.0 = there.1 ∙ omega arith in
    rw at there.2

-- a table that has entered a FROM
pub record Entered (S : Schema) (instances : List TableInstance) (T : ℕ) (chain : Scope) (t : TableName) (n : Numbered) (r : TableReference × Scope × Numbered) : Type 0 where
  pub grown : Grown S n r.2 (one_table S t).columns
  pub used : Within instances T n r.2 → names_instance instances r.0 ≡ true
  pub rises : Within instances T n r.2 → Rising n.next_column r.2.next_column (instance_numbers instances r.0)
  pub wide : Within instances T n r.2 → width r.1 ≡ width chain + length (instance_numbers instances r.0)

-- the instance that gets the next number
abbrev next_instance : Numbered → ℕ → Table → List ℕ → TableInstance
next_instance n place entry name = record { table = place; entry = entry; name = name; first_column = n.next_column }

used-next : (instances : List TableInstance) (n : Numbered) (t : TableInstance) → Begins instances (n.tables ++ t ∷ []) → slice_get instances (length n.tables) ≡ Some t
used-next instances n t begins = ap (λ l. slice_get l (length n.tables)) (begins.1 ∙ append_assoc n.tables (t ∷ []) begins.0) ∙ slice_get_behind n.tables t begins.0

module _ (S : Schema) (instances : List TableInstance) (T : ℕ) (chain : Scope) (t : TableName) (n : Numbered) where
  enters : (found : ℕ × Table) → find_table 0 S.tables t.name.text ≡ Some found → Entered S instances T chain t n (entered chain t n found)
  enters found is =
      let next = next_instance n found.0 found.1 (known_name t).text in
      let at : Within instances T n (entered chain t n found).2 → slice_get instances (length n.tables) ≡ Some next = λ within. used-next instances n next within.tables in
      record {
        grown = record {
          tables = (next ∷ [], refl);
          over = λ all. all_append (IsOver S) n.tables (next ∷ []) all (find-is S.tables t.name.text found is, tt);
          low = λ all. let wide : ℕ = length found.1.columns in
              all_append (λ t. AreBelow (n.next_column + wide) (numbers_of_instance (Some t))) n.tables (next ∷ []) (all-wider n.next_column (n.next_column + wide) (omega arith) n.tables all)
              (rising-below n.next_column (n.next_column + wide) _ (rising-range n.next_column wide), tt);
          columns = ap (λ o. n.next_column + width_of o) (sym is);
          aggregates = omega arith;
        };
        used = λ within. ap (λ o. is_named_by o (next_reference n found.0)) (at within) ∙ eq-eqb found.0 found.0 refl;
        rises = λ within. rw (at within) (rising-range n.next_column (length found.1.columns));
        wide = λ within. width-append chain _ ∙ rw (at within) (let l = length-range_with_len n.next_column (length found.1.columns) in omega (arith, l));
      }

  pub enter-gives : (before : Scope) → Given (Entered S instances T chain t n) (enter S before chain t n)
  unfolding enter
  enter-gives before =
      and-then (λ found. find_table 0 S.tables t.name.text ≡ Some found) (Entered S instances T chain t n) (table_in S t.name) _
      (given-wanted _ (refusal UnknownTable t.name.at) (find_table 0 S.tables t.name.text) (λ found is. is))
      (λ found is. given-if (Entered S instances T chain t n) (refusal RepeatedName (known_name t).at) (not (is_taken (known_name t).text (before ++ chain))) (entered chain t n found) (λ free. enters found is))
