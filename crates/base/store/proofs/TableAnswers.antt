-- A table's records say one thing.
use Rattle.std.proofs.Common.{◌≡◌, ◌≢◌, ℕ, zero, suc, ◌+◌, ◌<◌, ◌==◌, ℤ, List, [], ◌∷◌, ◌++◌, length, slice_index_or, map, Bool, true, false, cond, Result, Ok, Err, refl, sym, ap, ◌∙◌, subst, arith, ◌⊎◌, inl, inr, length-append}
use Rattle.std.specs.Str.{IsUtf8}
use Rattle.std.specs.List.{AllByRecursion}
use Rattle.std.proofs.Math.ListN.{get_or-append}
use Rattle.std.proofs.lemmas.Fmt.{signed_decimal_injective}
use Rattle.std.proofs.lemmas.List.{length-map}
use Rattle.std.proofs.lemmas.Bool.{cases_order}
use Rattle.values.specs.declared.value.Value.{Value}
use Rattle.values.specs.declared.value.Value.TheVariants as value
use Rattle.schema.specs.declared.schema.Column.{Column}
use Rattle.schema.specs.declared.schema.Table.{Table}
use Rattle.schema.specs.Databases.{Row, FitsColumn, FitsColumns, IsUnique, SatisfiesTable}
use Rattle.schema.proofs.Widths.{fits_length}
use Rattle.store.specs.declared.fault.FieldFault.{FieldFault}
use Rattle.store.specs.declared.fault.FieldFault.TheVariants.{BadEscape, NotNumber, NotText, NullValue}
use Rattle.store.specs.declared.fault.TableCause.{TableCause}
use Rattle.store.specs.declared.fault.TableCause.TheVariants.{OtherHeader, OtherLength, Field, Repeated, TooMany}
use Rattle.store.specs.declared.fault.TableRefusal.{TableRefusal}
use Rattle.store.specs.Numbers.{begins_number}
use Rattle.store.specs.Tables.{Record, IsText, Stands, StandFor, IsTable, FieldFails, FieldsFail, UniqueTo, RepeatsAt, RepeatsFirst, FaultAfter, IsFirstFault, Reported, IsReported}
use Rattle.store.specs.Fields.{escaped, field_of}
use Rattle.store.proofs.Decimals.{signed_begins}
use Rattle.store.proofs.Fields.{no_digit, no_escape}
use Rattle.store.proofs.ReadRecords.{row_is}
use Rattle.store.proofs.Loads.{row_stands}

-- ---- a field stands for one value of its column

null_escaped : (t : List ℕ) → field_of value.Null ≢ escaped t
null_escaped t e = no_escape (78 ∷ []) (λ more q. let bad : ◌≡◌ {A = ℕ} 78 92 = cc q in absurd (omega arith)) t e

no_slash : (c : Column) (n : ℤ) (rest : List ℕ) → FitsColumn c (value.Int n) → 92 ∷ rest ≢ field_of (value.Int n)
no_slash c n rest fits e = let t : begins_number (92 ∷ rest) ≡ true = subst (λ (x : List ℕ). begins_number x ≡ true) (sym e) (signed_begins n fits.1) in let f = no_digit rest in cc (t, f)

escapes : (a b : ℕ) (xs ys : List ℕ) (p q : Bool) → (a == 92) ≡ p → (b == 92) ≡ q → cond p (92 ∷ a ∷ xs) (a ∷ xs) ≡ cond q (92 ∷ b ∷ ys) (b ∷ ys) → a ∷ xs ≡ b ∷ ys
escapes a b xs ys true true h k e = cc e
escapes a b xs ys false false h k e = e
escapes a b xs ys true false h k e = let is : 92 ≡ b = cc e in let bad : (b == 92) ≡ true = rw (← is) refl in cc (bad, k)
escapes a b xs ys false true h k e = let is : a ≡ 92 = cc e in let bad : (a == 92) ≡ true = rw is refl in cc (bad, h)

some_escaped : (b : ℕ) (bs : List ℕ) (q : Bool) → [] ≢ cond q (92 ∷ b ∷ bs) (b ∷ bs)
some_escaped b bs true e = cc e
some_escaped b bs false e = cc e

escaped_one : (s t : List ℕ) → escaped s ≡ escaped t → s ≡ t
escaped_one [] [] e = refl
escaped_one [] (b ∷ bs) e = absurd (some_escaped b bs (b == 92) e)
escaped_one (a ∷ xs) [] e = absurd (some_escaped a xs (a == 92) (sym e))
escaped_one (a ∷ xs) (b ∷ bs) e = escapes a b xs bs (a == 92) (b == 92) refl refl e

value_one : (c : Column) (v w : Value) → FitsColumn c v → FitsColumn c w → field_of v ≡ field_of w → v ≡ w
value_one c value.Null value.Null h k e = refl
value_one c value.Null (value.Int n) h k e = absurd (no_slash c n (78 ∷ []) k e)
value_one c value.Null (value.Text t) h k e = absurd (null_escaped t e)
value_one c (value.Int m) value.Null h k e = absurd (no_slash c m (78 ∷ []) h (sym e))
value_one c (value.Int m) (value.Int n) h k e = ap value.Int (signed_decimal_injective m n h.1.sfits k.1.sfits e)
value_one c (value.Int m) (value.Text t) h k e = let p = h.0 in cc (p, k)
value_one c (value.Text s) value.Null h k e = absurd (null_escaped s (sym e))
value_one c (value.Text s) (value.Int n) h k e = let p = k.0 in cc (p, h)
value_one c (value.Text s) (value.Text t) h k e = ap value.Text (escaped_one s t e)

-- ---- a field that stands for a value has no fault, and one fault else

field_clean : (c : Column) (v : Value) (wrong : FieldFault) → FitsColumn c v → IsText v → FieldFails c (field_of v) wrong → ⊥
field_clean c value.Null BadEscape h t bad = bad.1 refl
field_clean c (value.Int n) BadEscape h t bad = no_slash c n bad.0.0 h (sym bad.0.1)
field_clean c (value.Text s) BadEscape h t bad = bad.2 s refl
field_clean c value.Null NullValue h t bad = let b = bad.1 in cc (h, b)
field_clean c (value.Int n) NullValue h t bad = no_slash c n (78 ∷ []) h (sym bad.0)
field_clean c (value.Text s) NullValue h t bad = null_escaped s (sym bad.0)
field_clean c value.Null NotNumber h t bad = null_escaped bad.1.0 bad.1.1
field_clean c (value.Int n) NotNumber h t bad = bad.2 (n, h.1, refl)
field_clean c (value.Text s) NotNumber h t bad = let k = bad.0 in cc (h, k)
field_clean c value.Null NotText h t bad = null_escaped bad.1.0 bad.1.1
field_clean c (value.Int n) NotText h t bad = let p = h.0 in let k = bad.0 in cc (p, k)
field_clean c (value.Text s) NotText h t bad = bad.1.2 (subst IsUtf8 (escaped_one s bad.1.0 bad.1.1) t)

field_one : (c : Column) (f : List ℕ) (wrong other : FieldFault) → FieldFails c f wrong → FieldFails c f other → wrong ≡ other
field_one c f BadEscape BadEscape h k = refl
field_one c f BadEscape NullValue h k = absurd (h.1 k.0)
field_one c f BadEscape NotNumber h k = absurd (h.2 k.1.0 k.1.1)
field_one c f BadEscape NotText h k = absurd (h.2 k.1.0 k.1.1)
field_one c f NullValue BadEscape h k = absurd (k.1 h.0)
field_one c f NullValue NullValue h k = refl
field_one c f NullValue NotNumber h k = absurd (null_escaped k.1.0 (sym h.0 ∙ k.1.1))
field_one c f NullValue NotText h k = absurd (null_escaped k.1.0 (sym h.0 ∙ k.1.1))
field_one c f NotNumber BadEscape h k = absurd (k.2 h.1.0 h.1.1)
field_one c f NotNumber NullValue h k = absurd (null_escaped h.1.0 (sym k.0 ∙ h.1.1))
field_one c f NotNumber NotNumber h k = refl
field_one c f NotNumber NotText h k = let p = h.0 in let q = k.0 in cc (p, q)
field_one c f NotText BadEscape h k = absurd (k.2 h.1.0 h.1.1)
field_one c f NotText NullValue h k = absurd (null_escaped h.1.0 (sym k.0 ∙ h.1.1))
field_one c f NotText NotNumber h k = let p = h.0 in let q = k.0 in cc (p, q)
field_one c f NotText NotText h k = refl

stands_clean : (c : Column) (f : List ℕ) (v : Value) (wrong : FieldFault) → Stands c f v → FieldFails c f wrong → ⊥
stands_clean c f v wrong s bad = field_clean c v wrong s.fits s.text (subst (λ x. FieldFails c x wrong) s.written bad)

row_clean : (cs : List Column) (fs : Record) (row : Row) (place : ℕ) (wrong : FieldFault) → StandFor cs fs row → FieldsFail cs fs place wrong → ⊥
row_clean [] fs row place wrong s bad = bad
row_clean (c ∷ cs) [] row place wrong s bad = bad
row_clean (c ∷ cs) (f ∷ fs) [] place wrong s bad = s
row_clean (c ∷ cs) (f ∷ fs) (v ∷ row) zero wrong s bad = stands_clean c f v wrong s.0 bad
row_clean (c ∷ cs) (f ∷ fs) (v ∷ row) (suc place) wrong s bad = row_clean cs fs row place wrong s.1 bad.1

fields_one : (cs : List Column) (fs : Record) (p q : ℕ) (wrong other : FieldFault) → FieldsFail cs fs p wrong → FieldsFail cs fs q other → (p ≡ q) × (wrong ≡ other)
fields_one [] fs p q wrong other h k = absurd h
fields_one (c ∷ cs) [] p q wrong other h k = absurd h
fields_one (c ∷ cs) (f ∷ fs) zero zero wrong other h k = (refl, field_one c f wrong other h k)
fields_one (c ∷ cs) (f ∷ fs) zero (suc q) wrong other h k = absurd (stands_clean c f k.0.0 wrong k.0.1 h)
fields_one (c ∷ cs) (f ∷ fs) (suc p) zero wrong other h k = absurd (stands_clean c f h.0.0 other h.0.1 k)
fields_one (c ∷ cs) (f ∷ fs) (suc p) (suc q) wrong other h k = let r = fields_one cs fs p q wrong other h.1 k.1 in (ap suc r.0, r.1)

-- ---- records are of one list of rows

row_one : (cs : List Column) (r s : Row) → FitsColumns cs r → FitsColumns cs s → map field_of r ≡ map field_of s → r ≡ s
row_one [] [] [] h k e = refl
row_one [] [] (v ∷ s) h k e = absurd k
row_one [] (v ∷ r) s h k e = absurd h
row_one (c ∷ cs) [] s h k e = absurd h
row_one (c ∷ cs) (v ∷ r) [] h k e = absurd k
row_one (c ∷ cs) (v ∷ r) (w ∷ s) h k e =
    ap (λ (x : Value). x ∷ r) (value_one c v w h.0 k.0 (cc e)) ∙ ap (λ (x : Row). w ∷ x) (row_one cs r s h.1 k.1 (cc e))

rows_one : (cs : List Column) (rs ss : List Row) → AllByRecursion (FitsColumns cs) rs → AllByRecursion (FitsColumns cs) ss → map (map field_of) rs ≡ map (map field_of) ss → rs ≡ ss
rows_one cs [] [] h k e = refl
rows_one cs [] (s ∷ ss) h k e = cc e
rows_one cs (r ∷ rs) [] h k e = cc e
rows_one cs (r ∷ rs) (s ∷ ss) h k e =
    ap (λ (x : Row). x ∷ rs) (row_one cs r s h.0 k.0 (cc e)) ∙ ap (λ (x : List Row). s ∷ x) (rows_one cs rs ss h.1 k.1 (cc e))

-- a record within those of the rows is of one of them
pub record Within (rows : List Row) (before : List Row) (fs : Record) : Type 0 where
  pub row : Row
  pub after : List Row
  pub rows_are : rows ≡ before ++ row ∷ after
  pub fields_are : fs ≡ map field_of row

within_more : (r s : Row) (rs ss : List Row) (fs : Record) → r ≡ s → Within rs ss fs → Within (r ∷ rs) (s ∷ ss) fs
within_more r s rs ss fs e w = record { row = w.row; after = w.after; rows_are = ap (λ (x : Row). x ∷ rs) e ∙ ap (λ (x : List Row). s ∷ x) w.rows_are; fields_are = w.fields_are }

is_within : (cs : List Column) (rows before : List Row) (fs : Record) (more : List Record) → AllByRecursion (FitsColumns cs) rows → AllByRecursion (FitsColumns cs) before
    → map (map field_of) rows ≡ map (map field_of) before ++ fs ∷ more → Within rows before fs
is_within cs [] [] fs more h k e = cc e
is_within cs [] (s ∷ ss) fs more h k e = cc e
is_within cs (r ∷ rs) [] fs more h k e = record { row = r; after = rs; rows_are = refl; fields_are = sym (cc e) }
is_within cs (r ∷ rs) (s ∷ ss) fs more h k e = within_more r s rs ss fs (row_one cs r s h.0 k.0 (cc e)) (is_within cs rs ss fs more h.1 k.1 (cc e))

-- of two records within the same ones, one comes first, or they are the same
abbrev Ordered : List Row → List Row → Record → Record → Type 0
Ordered rs ss f g = ((rs ≡ ss) × (f ≡ g)) ⊎ (Within ss rs f ⊎ Within rs ss g)

ordered_more : (r s : Row) (rs ss : List Row) (f g : Record) → r ≡ s → Ordered rs ss f g → Ordered (r ∷ rs) (s ∷ ss) f g
ordered_more r s rs ss f g e (inl h) = inl (ap (λ (x : Row). x ∷ rs) e ∙ ap (λ (x : List Row). s ∷ x) h.0, h.1)
ordered_more r s rs ss f g e (inr (inl h)) = inr (inl (within_more s r ss rs f (sym e) h))
ordered_more r s rs ss f g e (inr (inr h)) = inr (inr (within_more r s rs ss g e h))

ordered : (cs : List Column) (rs ss : List Row) (f g : Record) (xs ys : List Record) → AllByRecursion (FitsColumns cs) rs → AllByRecursion (FitsColumns cs) ss
    → map (map field_of) rs ++ f ∷ xs ≡ map (map field_of) ss ++ g ∷ ys → Ordered rs ss f g
ordered cs [] [] f g xs ys h k e = inl (refl, cc e)
ordered cs [] (s ∷ ss) f g xs ys h k e = inr (inl (record { row = s; after = ss; rows_are = refl; fields_are = cc e }))
ordered cs (r ∷ rs) [] f g xs ys h k e = inr (inr (record { row = r; after = rs; rows_are = refl; fields_are = sym (cc e) }))
ordered cs (r ∷ rs) (s ∷ ss) f g xs ys h k e = ordered_more r s rs ss f g (row_one cs r s h.0 k.0 (cc e)) (ordered cs rs ss f g xs ys h.1 k.1 (cc e))

-- ---- rows that are unique have no repeat

at_front : (before : List Row) (row : Row) (after : List Row) (i : ℕ) → i < length before + 1 → slice_index_or (before ++ row ∷ after) i [] ≡ slice_index_or (before ++ row ∷ []) i []
at_front [] row after zero lt = refl
at_front [] row after (suc i) lt = absurd (omega arith)
at_front (b ∷ before) row after zero lt = refl
at_front (b ∷ before) row after (suc i) lt = at_front before row after i (omega arith)

unique_front : (before : List Row) (row : Row) (after : List Row) (u : List ℕ) → IsUnique (before ++ row ∷ after) u → UniqueTo (length before + 1) (before ++ row ∷ []) u
unique_front before row after u h = λ i j lt low whole same.
    let size : length (before ++ row ∷ after) ≡ length before + length (row ∷ after) = length-append before (row ∷ after) in
    h i j lt (omega arith) (rw (at_front before row after i (omega arith)) whole) (rw (at_front before row after i (omega arith), at_front before row after j low) same)

unique_fronts : (before : List Row) (row : Row) (after : List Row) (lists : List (List ℕ)) → AllByRecursion (IsUnique (before ++ row ∷ after)) lists → AllByRecursion (UniqueTo (length before + 1) (before ++ row ∷ [])) lists
unique_fronts before row after [] h = tt
unique_fronts before row after (u ∷ us) h = (unique_front before row after u h.0, unique_fronts before row after us h.1)

not_at : (xs : List Row) (n e : ℕ) (u : List ℕ) → UniqueTo (n + 1) xs u → RepeatsAt xs n e u → ⊥
not_at xs n e u h r = h e n r.below (omega arith) r.whole r.same

no_repeat : (xs : List Row) (n e : ℕ) (lists : List (List ℕ)) → AllByRecursion (UniqueTo (n + 1) xs) lists → RepeatsFirst xs n e lists → ⊥
no_repeat xs n e [] h r = r
no_repeat xs n e (u ∷ us) h (inl r) = not_at xs n e u h.0 r
no_repeat xs n e (u ∷ us) h (inr r) = no_repeat xs n e us h.1 r.1

unique_before : (rows : List Row) (row : Row) (u : List ℕ) → IsUnique rows u → UniqueTo (length rows) (rows ++ row ∷ []) u
unique_before rows row u h = λ i j lt low whole same.
    let x = get_or-append rows (row ∷ []) [] i (omega arith) in
    let y = get_or-append rows (row ∷ []) [] j low in
    h i j lt low (rw (← x) whole) (rw (← x, ← y) same)

uniques_before : (rows : List Row) (row : Row) (lists : List (List ℕ)) → AllByRecursion (IsUnique rows) lists → AllByRecursion (UniqueTo (length rows) (rows ++ row ∷ [])) lists
uniques_before rows row [] h = tt
uniques_before rows row (u ∷ us) h = (unique_before rows row u h.0, uniques_before rows row us h.1)

at_one : (xs : List Row) (n d e : ℕ) (u : List ℕ) → UniqueTo n xs u → RepeatsAt xs n d u → RepeatsAt xs n e u → d ≡ e
at_one xs n d e u h r s =
    elim (cases_order d e) [
      | inl same ↦ same
      | inr other ↦ elim other [ inl lt ↦ absurd (h d e lt s.below r.whole (r.same ∙ sym s.same)) | inr gt ↦ absurd (h e d gt r.below s.whole (s.same ∙ sym r.same)) ]
    ]

repeats_one : (xs : List Row) (n d e : ℕ) (lists : List (List ℕ)) → AllByRecursion (UniqueTo n xs) lists → RepeatsFirst xs n d lists → RepeatsFirst xs n e lists → d ≡ e
repeats_one xs n d e [] h r s = absurd r
repeats_one xs n d e (u ∷ us) h (inl r) (inl s) = at_one xs n d e u h.0 r s
repeats_one xs n d e (u ∷ us) h (inl r) (inr s) = absurd (not_at xs n d u s.0 r)
repeats_one xs n d e (u ∷ us) h (inr r) (inl s) = absurd (not_at xs n e u r.0 s)
repeats_one xs n d e (u ∷ us) h (inr r) (inr s) = repeats_one xs n d e us h.1 r.1 s.1

-- ---- a table has no fault

all_mid : {A : Type 0} (P : A → Type 0) (xs : List A) (y : A) (zs : List A) → AllByRecursion P (xs ++ y ∷ zs) → P y
all_mid P [] y zs h = h.0
all_mid P (x ∷ xs) y zs h = all_mid P xs y zs h.1

row_back : (cs : List Column) (row other : Row) → FitsColumns cs row → StandFor cs (map field_of row) other → other ≡ row
row_back cs row other fits s = let r = row_is cs (map field_of row) other s in row_one cs other row r.1 fits (sym r.0)

clean_after : (t : Table) (rows : List Row) (row : Row) (after : List Row) (cause : TableCause) → SatisfiesTable t (rows ++ row ∷ after) → AllByRecursion (AllByRecursion IsText) (rows ++ row ∷ after)
    → FaultAfter t rows (map field_of row) cause → ⊥
clean_after t rows row after OtherHeader s text bad = bad
clean_after t rows row after OtherLength s text bad = bad.1 (length-map row field_of ∙ fits_length t.columns row (all_mid (FitsColumns t.columns) rows row after s.fit))
clean_after t rows row after (Field place wrong) s text bad =
    row_clean t.columns (map field_of row) row place wrong (row_stands t.columns row (all_mid (FitsColumns t.columns) rows row after s.fit) (all_mid (AllByRecursion IsText) rows row after text)) bad.2
clean_after t rows row after TooMany s text bad =
    let few = s.few in
    let size : length (rows ++ row ∷ after) ≡ length rows + length (row ∷ after) = length-append rows (row ∷ after) in
    omega arith
clean_after t rows row after (Repeated earlier) s text bad =
    let there = bad.1 in
    let same : there.0 ≡ row = row_back t.columns row there.0 (all_mid (FitsColumns t.columns) rows row after s.fit) there.1 in
    no_repeat (rows ++ row ∷ []) (length rows) there.2.0 t.unique (unique_fronts rows row after t.unique s.unique) (subst (λ (x : Row). RepeatsFirst (rows ++ x ∷ []) (length rows) there.2.0 t.unique) same there.2.2)

stands_length : (cs : List Column) (fs : Record) (row : Row) → StandFor cs fs row → length fs ≡ length cs
stands_length cs fs row s = let r = row_is cs fs row s in ap length r.0 ∙ length-map row field_of ∙ fits_length cs row r.1

-- ---- one fault

causes_one : (t : Table) (rows : List Row) (fs : Record) (c d : TableCause) → SatisfiesTable t rows → FaultAfter t rows fs c → FaultAfter t rows fs d → c ≡ d
causes_one t rows fs OtherHeader d s h k = absurd h
causes_one t rows fs OtherLength OtherHeader s h k = absurd k
causes_one t rows fs OtherLength OtherLength s h k = refl
causes_one t rows fs OtherLength (Field q other) s h k = absurd (h.1 k.1)
causes_one t rows fs OtherLength (Repeated b) s h k = absurd (h.1 (stands_length t.columns fs k.1.0 k.1.1))
causes_one t rows fs OtherLength TooMany s h k = let low = h.0 in absurd (omega arith)
causes_one t rows fs (Field p wrong) OtherHeader s h k = absurd k
causes_one t rows fs (Field p wrong) OtherLength s h k = absurd (k.1 h.1)
causes_one t rows fs (Field p wrong) (Field q other) s h k = let r = fields_one t.columns fs p q wrong other h.2 k.2 in ap (λ (n : ℕ). Field n wrong) r.0 ∙ ap (λ (w : FieldFault). Field q w) r.1
causes_one t rows fs (Field p wrong) (Repeated b) s h k = absurd (row_clean t.columns fs k.1.0 p wrong k.1.1 h.2)
causes_one t rows fs (Field p wrong) TooMany s h k = let low = h.0 in absurd (omega arith)
causes_one t rows fs (Repeated a) OtherHeader s h k = absurd k
causes_one t rows fs (Repeated a) OtherLength s h k = absurd (k.1 (stands_length t.columns fs h.1.0 h.1.1))
causes_one t rows fs (Repeated a) (Field q other) s h k = absurd (row_clean t.columns fs h.1.0 q other h.1.1 k.2)
causes_one t rows fs (Repeated a) (Repeated b) s h k =
    let r = row_is t.columns fs h.1.0 h.1.1 in
    let same : k.1.0 ≡ h.1.0 = row_back t.columns h.1.0 k.1.0 r.1 (subst (λ (x : Record). StandFor t.columns x k.1.0) r.0 k.1.1) in
    let e = repeats_one (rows ++ h.1.0 ∷ []) (length rows) h.1.2.0 k.1.2.0 t.unique (uniques_before rows h.1.0 t.unique s.unique) h.1.2.2 (subst (λ (x : Row). RepeatsFirst (rows ++ x ∷ []) (length rows) k.1.2.0 t.unique) same k.1.2.2) in
    ap Repeated (h.1.2.1 ∙ ap (λ (n : ℕ). n + 1) e ∙ sym k.1.2.1)
causes_one t rows fs (Repeated a) TooMany s h k = let low = h.0 in absurd (omega arith)
causes_one t rows fs TooMany OtherHeader s h k = absurd k
causes_one t rows fs TooMany OtherLength s h k = let low = k.0 in absurd (omega arith)
causes_one t rows fs TooMany (Field q other) s h k = let low = k.0 in absurd (omega arith)
causes_one t rows fs TooMany (Repeated b) s h k = let low = k.0 in absurd (omega arith)
causes_one t rows fs TooMany TooMany s h k = refl

refusal_one : (f g : TableRefusal) → f.row ≡ g.row → f.cause ≡ g.cause → f ≡ g
refusal_one f g p q =
    let at : ℕ → TableRefusal = λ n. record { row = n; cause = f.cause } in
    let by : TableCause → TableRefusal = λ c. record { row = g.row; cause = c } in
    ap at p ∙ ap by q

within_clean : (t : Table) (rows before : List Row) (fs : Record) (cause : TableCause) → Within rows before fs → SatisfiesTable t rows → AllByRecursion (AllByRecursion IsText) rows → FaultAfter t before fs cause → ⊥
within_clean t rows before fs cause w s text bad =
    clean_after t before w.row w.after cause (subst (SatisfiesTable t) w.rows_are s) (subst (AllByRecursion (AllByRecursion IsText)) w.rows_are text) (subst (λ (x : Record). FaultAfter t before x cause) w.fields_are bad)

faults_one : (t : Table) (records : List Record) (f g : TableRefusal) → IsFirstFault t records f → IsFirstFault t records g → f ≡ g
faults_one t records f g (inl h) (inl k) = h.1 ∙ sym k.1
faults_one t records f g (inl h) (inr k) = absurd (h.0 _ k.records_are)
faults_one t records f g (inr h) (inl k) = absurd (k.0 _ h.records_are)
faults_one t records f g (inr h) (inr k) =
    let same : map (map field_of) h.rows ++ h.faulty ∷ h.more ≡ map (map field_of) k.rows ++ k.faulty ∷ k.more = cc (h.records_are, k.records_are) in
    elim (ordered t.columns h.rows k.rows h.faulty k.faulty h.more k.more h.satisfies.fit k.satisfies.fit same) [
      | inl e ↦ refusal_one f g (h.row_is ∙ ap (λ (x : List Row). length x + 1) e.0 ∙ sym k.row_is)
          (causes_one t h.rows h.faulty f.cause g.cause h.satisfies h.fault (subst (λ (x : List Row). FaultAfter t x h.faulty g.cause) (sym e.0) (subst (λ (x : Record). FaultAfter t k.rows x g.cause) (sym e.1) k.fault)))
      | inr more ↦ elim more [
        | inl w ↦ absurd (within_clean t k.rows h.rows h.faulty f.cause w k.satisfies k.text h.fault)
        | inr w ↦ absurd (within_clean t h.rows k.rows k.faulty g.cause w h.satisfies h.text k.fault)
      ]
    ]

table_clean : (t : Table) (records : List Record) (rows : List Row) (f : TableRefusal) → IsTable t records rows → IsFirstFault t records f → ⊥
table_clean t records rows f h (inl k) = k.0 _ h.records_are
table_clean t records rows f h (inr k) =
    let same : map (map field_of) rows ≡ map (map field_of) k.rows ++ k.faulty ∷ k.more = cc (h.records_are, k.records_are) in
    within_clean t rows k.rows k.faulty f.cause (is_within t.columns rows k.rows k.faulty k.more h.satisfies.fit k.satisfies.fit same) h.satisfies h.text k.fault

reported_one : (t : Table) (records : List Record) (x y : Result (List Row) TableRefusal) → Reported t records x → Reported t records y → y ≡ x
reported_one t records (Ok rs) (Ok ss) h k = ap Ok (rows_one t.columns ss rs k.satisfies.fit h.satisfies.fit (cc (h.records_are, k.records_are)))
reported_one t records (Ok rs) (Err g) h k = absurd (table_clean t records rs g h k)
reported_one t records (Err f) (Ok ss) h k = absurd (table_clean t records ss f k h)
reported_one t records (Err f) (Err g) h k = ap Err (faults_one t records g f k h)

pub is_reported : (t : Table) (records : List Record) (x : Result (List Row) TableRefusal) → Reported t records x → IsReported t records x
is_reported t records x h = record { reported = h; only = λ y k. reported_one t records x y h k }
