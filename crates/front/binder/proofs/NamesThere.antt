-- A name means a column that is there: its level is one of the FROMs around, and its place one of that FROM's columns.
use Rattle.std.proofs.Common.{◌≡◌, refl, ◌∙◌, ℕ, ◌+◌, ◌≤◌, ◌<◌, Bool, true, false, if◌then◌else◌, List, [], ◌∷◌, ◌++◌, length, slice_index_or, Option, Some, None, option_map, Result, Ok, Err, bytes_eq, arith}
use Prim.Native.Nat.{suc}
use Rattle.std.specs.List.{AllByRecursion}
use Rattle.std.proofs.lemmas.Bool.{lt-ltb}
use Rattle.schema.specs.declared.schema.Kind.{Kind}
use Rattle.schema.specs.declared.schema.Column as entries
use Rattle.schema.specs.declared.schema.Table.{Table}
use Rattle.sql_parse.specs.declared.name.Name.{Name}
use Rattle.sql_parse.specs.declared.statement.ColumnName.{ColumnName}
use Rattle.binder.specs.declared.scope.TypedColumn.{TypedColumn}
use Rattle.binder.specs.declared.fault.BindRefusal.{BindRefusal}
use Rattle.binder.specs.Lookups.{find_column, refusal}
use Rattle.binder.specs.Scopes.{Scope, Scopes, columns_named, named_in, at_level, only, plain, instance_named, column_of, in_instance, qualified, meant_by, meant}
use Rattle.binder.specs.Lent.{width}
use Rattle.query.specs.Bound as numbers
use Rattle.query.specs.Bound.{names}
use Rattle.binder.proofs.Given.{Given}
use Rattle.binder.proofs.Rising.{AreBelow}

-- each FROM around has a number for each column, below b
abbrev pub Around : ℕ → Scopes → numbers.Scope → Type 0
Around b [] [] = Unit {0}
Around b [] (row ∷ rows) = ⊥
Around b (scope ∷ outer) [] = ⊥
Around b (scope ∷ outer) (row ∷ rows) = (length row ≡ width scope) × AreBelow b row × Around b outer rows

pub around-more : (b c : ℕ) (scopes : Scopes) (rows : numbers.Scope) → b ≤ c → Around b scopes rows → Around c scopes rows
around-more b c [] [] le fits = tt
around-more b c [] (row ∷ rows) le fits = fits
around-more b c (scope ∷ outer) [] le fits = fits
around-more b c (scope ∷ outer) (row ∷ rows) le fits = (fits.0, λ j more. fits.1 j (omega (arith, more, le)), around-more b c outer rows le fits.2)

-- ---- the columns of one FROM

abbrev pub PlaceBelow : ℕ → ℕ × Kind → Type 0
PlaceBelow w found = found.0 < w

below-append : (w : ℕ) (xs ys : List (ℕ × Kind)) → AllByRecursion (PlaceBelow w) xs → AllByRecursion (PlaceBelow w) ys → AllByRecursion (PlaceBelow w) (xs ++ ys)
below-append w [] ys left right = right
below-append w (x ∷ xs) ys left right = (left.0, below-append w xs ys left.1 right)

columns-below : (name : List ℕ) (n w : ℕ) (cs : List entries.Column) → n + length cs ≤ w → AllByRecursion (PlaceBelow w) (columns_named name n cs)
columns-below name n w [] le = tt
columns-below name n w (c ∷ cs) le = by (bytes_eq name c.name) (columns-below name (n + 1) w cs (omega (arith, le)))
  where
    by : (b : Bool) → AllByRecursion (PlaceBelow w) (columns_named name (n + 1) cs) → AllByRecursion (PlaceBelow w) (if b then (n, c.kind) ∷ columns_named name (n + 1) cs else columns_named name (n + 1) cs)
    by true more = (omega (arith, le), more)
    by false more = more

named-below : (name : List ℕ) (n w : ℕ) (scope : Scope) → n + width scope ≤ w → AllByRecursion (PlaceBelow w) (named_in name n scope)
named-below name n w [] le = tt
named-below name n w (o ∷ scope) le =
    below-append w (columns_named name n o.entry.columns) _ (columns-below name n w o.entry.columns (omega (arith, le))) (named-below name (n + length o.entry.columns) w scope (omega (arith, le)))

reference-below : (name : List ℕ) (n : ℕ) (scope : Scope) (found : ℕ × Table) → instance_named name n scope ≡ Some found → found.0 + length found.1.columns ≤ n + width scope
reference-below name n [] found is = cc is
reference-below name n (o ∷ scope) found is = by (bytes_eq name o.name) is (reference-below name (n + length o.entry.columns) scope found)
  where
    by : (b : Bool) → (if b then Some (n, o.entry) else instance_named name (n + length o.entry.columns) scope) ≡ Some found
        → (instance_named name (n + length o.entry.columns) scope ≡ Some found → found.0 + length found.1.columns ≤ (n + length o.entry.columns) + width scope)
        → found.0 + length found.1.columns ≤ n + width (o ∷ scope)
    by true e more = let same : (n, o.entry) ≡ found = cc e in rw (← same) (omega arith)
    by false e more = let h = more e in omega (arith, h)

-- ---- a name

-- the column is there, where the innermost of the rows has this level
abbrev pub IsThere : ℕ → numbers.Scope → TypedColumn → Type 0
IsThere level rows found = (i : ℕ) × (found.column.level ≡ level + i) × (found.column.place < length (slice_index_or rows i []))

there-outside : (level : ℕ) (row : List ℕ) (rows : numbers.Scope) (found : TypedColumn) → IsThere (level + 1) rows found → IsThere level (row ∷ rows) found
there-outside level row rows found there =
    let at = there.1 in
    (suc there.0, omega (arith, at), there.2)

only-there : (name : Name) (level : ℕ) (row : List ℕ) (rows : numbers.Scope) (found : List (ℕ × Kind)) (outside : Result TypedColumn BindRefusal)
    → AllByRecursion (PlaceBelow (length row)) found → Given (IsThere level (row ∷ rows)) outside → Given (IsThere level (row ∷ rows)) (only name level found outside)
only-there name level row rows [] outside below there = there
only-there name level row rows (x ∷ []) outside below there = (0, omega arith, below.0)
only-there name level row rows (x ∷ y ∷ more) outside below there = tt

outside-there : (level : ℕ) (row : List ℕ) (rows : numbers.Scope) (read : Result TypedColumn BindRefusal) → Given (IsThere (level + 1) rows) read → Given (IsThere level (row ∷ rows)) read
outside-there level row rows (Ok found) there = there-outside level row rows found there
outside-there level row rows (Err e) there = tt

plain-there : (name : Name) (level b : ℕ) (scopes : Scopes) (rows : numbers.Scope) → Around b scopes rows → Given (IsThere level rows) (plain name level scopes)
unfolding plain
plain-there name level b [] rows fits = tt
plain-there name level b (scope ∷ outer) [] fits = absurd fits
plain-there name level b (scope ∷ outer) (row ∷ rows) fits =
    let wide = fits.0 in
    only-there name level row rows (named_in name.text 0 scope) (plain name (level + 1) outer) (named-below name.text 0 (length row) scope (omega (arith, wide)))
    (outside-there level row rows (plain name (level + 1) outer) (plain-there name (level + 1) b outer rows fits.2))

-- a column that is found stands in the list
found_below : (n : ℕ) (cs : List entries.Column) (name : List ℕ) (p : ℕ × entries.Column) → find_column n cs name ≡ Some p → p.0 < n + length cs
found_below n [] name p e = cc e
found_below n (c ∷ cs) name p e = one (bytes_eq c.name name) e (found_below (n + 1) cs name p)
  where
    one : (b : Bool) → (if b then Some (n, c) else find_column (n + 1) cs name) ≡ Some p → (find_column (n + 1) cs name ≡ Some p → p.0 < (n + 1) + length cs) → p.0 < n + length (c ∷ cs)
    one true e more = let same : (n, c) ≡ p = cc e in rw (← same) (omega arith)
    one false e more = let h = more e in omega arith

column-there : (table name : Name) (level : ℕ) (row : List ℕ) (rows : numbers.Scope) (o : ℕ × Table) → o.0 + length o.1.columns ≤ length row → Given (IsThere level (row ∷ rows)) (column_of table name level o)
column-there table name level row rows o le = by (find_column o.0 o.1.columns name.text) (found_below o.0 o.1.columns name.text)
  where
    by : (found : Option (ℕ × entries.Column)) → ((p : ℕ × entries.Column) → found ≡ Some p → p.0 < o.0 + length o.1.columns)
        → Given (IsThere level (row ∷ rows)) (Rattle.values.specs.Faults.wanted (refusal Rattle.binder.specs.declared.fault.BindReason.TheVariants.UnknownColumn table.at) (option_map (λ found. at_level level (found.0, found.1.kind)) found))
    by None below = tt
    by (Some p) below = let lt = below p refl in (0, omega arith, omega (arith, lt, le))

reference-there : (table name : Name) (level : ℕ) (row : List ℕ) (rows : numbers.Scope) (found : Option (ℕ × Table)) (outside : Result TypedColumn BindRefusal)
    → ((o : ℕ × Table) → found ≡ Some o → o.0 + length o.1.columns ≤ length row) → Given (IsThere level (row ∷ rows)) outside → Given (IsThere level (row ∷ rows)) (in_instance table name level found outside)
reference-there table name level row rows None outside below there = there
reference-there table name level row rows (Some o) outside below there = column-there table name level row rows o (below o refl)

qualified-there : (table name : Name) (level b : ℕ) (scopes : Scopes) (rows : numbers.Scope) → Around b scopes rows → Given (IsThere level rows) (qualified table name level scopes)
unfolding qualified
qualified-there table name level b [] rows fits = tt
qualified-there table name level b (scope ∷ outer) [] fits = absurd fits
qualified-there table name level b (scope ∷ outer) (row ∷ rows) fits =
    let wide = fits.0 in
    reference-there table name level row rows (instance_named table.text 0 scope) (qualified table name (level + 1) outer)
    (λ o is. let le = reference-below table.text 0 scope o is in omega (arith, le, wide))
    (outside-there level row rows (qualified table name (level + 1) outer) (qualified-there table name (level + 1) b outer rows fits.2))

-- the scope has the column
abbrev pub IsNamed : numbers.Scope → TypedColumn → Type 0
IsNamed rows found = names rows found.column ≡ true

there-named : (rows : numbers.Scope) (found : TypedColumn) → IsThere 0 rows found → IsNamed rows found
there-named rows found there =
    let at : found.column.level ≡ there.0 = there.1 ∙ omega arith in
    lt-ltb found.column.place _ (rw at there.2)

named-given : (rows : numbers.Scope) (read : Result TypedColumn BindRefusal) → Given (IsThere 0 rows) read → Given (IsNamed rows) read
named-given rows (Ok found) there = there-named rows found there
named-given rows (Err e) there = tt

by-name : (table : Option Name) (name : Name) (b : ℕ) (scopes : Scopes) (rows : numbers.Scope) → Around b scopes rows → Given (IsNamed rows) (meant_by table name scopes)
by-name None name b scopes rows fits = named-given rows (plain name 0 scopes) (plain-there name 0 b scopes rows fits)
by-name (Some table) name b scopes rows fits = named-given rows (qualified table name 0 scopes) (qualified-there table name 0 b scopes rows fits)

-- what a name means is there
pub meant-there : (c : ColumnName) (b : ℕ) (scopes : Scopes) (rows : numbers.Scope) → Around b scopes rows → Given (IsNamed rows) (meant c scopes)
meant-there c b scopes rows fits = by-name c.table c.name b scopes rows fits
