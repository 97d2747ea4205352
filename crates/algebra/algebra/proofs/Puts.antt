-- Rows laid into the columns of an environment.
use Rattle.std.proofs.Common.{◌≡◌, refl, ap, sym, ◌∙◌, ℕ, zero, suc, ◌+◌, ◌-◌, ◌<◌, ◌≤◌, Bool, true, false, ◌||◌, not, ◌==◌, nat_le, nat_lt, if◌then◌else◌, List, [], ◌∷◌, ◌++◌, map, length, arith}
use Rattle.std.specs.Prelude.{slice_index_or}
use Rattle.std.specs.List.{list_all, range_with_len}
use Rattle.std.proofs.lemmas.Bool.{eq-eqb, ne_eqb, eqb-true, ltb-true, leb-true, and_parts, or_left, or_right, and_from, not-true}
use Rattle.schema.specs.Databases.{Row}
use Rattle.values.specs.declared.value.Value.{Value}
use Rattle.values.specs.declared.value.Value.TheVariants.{Null}
use Rattle.query.specs.declared.query.TableInstance.{TableInstance}
use Rattle.query.specs.declared.query.Column.{Column}
use Rattle.query.specs.Rows as rows
use Rattle.query.specs.Rows.{value_at, column}
use Rattle.query.specs.Bound.{Scope, number, names, all_differ, none_among}
use Rattle.algebra.specs.Columns.{ColumnSet, has}
use Rattle.algebra.specs.Bags.{Env, lay, nulls}
use Rattle.algebra.specs.Expressions.{instance_columns, instance_row}
use Rattle.algebra.proofs.Sets.{range_has}
use Rattle.algebra.proofs.Lists.{cons-same}

pub pointwise : {X Y : Type 0} {f g : X → Y} → ((x : X) → f x ≡ g x) → f ≡ g
pointwise h = λ i. λ x. h x i

-- the environment with a row's values in these columns
abbrev pub put : List ℕ → Row → Env → Env
put [] s e c = e c
put (k ∷ ks) [] e c = e c
put (k ∷ ks) (v ∷ s) e c = if k == c then v else put ks s e c

-- ---- one row

pub put-off : (ks : List ℕ) (s : Row) (e : Env) (c : ℕ) → has ks c ≡ false → put ks s e c ≡ e c
put-off [] s e c h = refl
put-off (k ∷ ks) [] e c h = refl
put-off (k ∷ ks) (v ∷ s) e c h = by (k == c) (λ out. put-off ks s e c out) h
  where
    by : (b : Bool) → (has ks c ≡ false → put ks s e c ≡ e c) → (b || has ks c) ≡ false → (if b then v else put ks s e c) ≡ e c
    by true more h = cc
    by false more h = more h

pub map-on : {Y : Type 0} (f g : ℕ → Y) (ks : List ℕ) → ((c : ℕ) → has ks c ≡ true → f c ≡ g c) → map f ks ≡ map g ks
map-on f g [] same = refl
map-on f g (k ∷ ks) same = cons-same (same k (or_left (k == k) (has ks k) (eq-eqb k k refl))) (map-on f g ks (λ c h. same c (or_right (k == c) (has ks c) h)))

-- a column that is among others is not one that is not
pub not-among : (k c : ℕ) (ks : List ℕ) → has ks k ≡ false → has ks c ≡ true → (k == c) ≡ false
not-among k c ks out in_ = ne_eqb k c (λ is. cc (ap (has ks) is, out, in_))

-- the columns read what was put there
pub put-reads : (ks : List ℕ) (s : Row) (e : Env) → all_differ ks ≡ true → length s ≡ length ks → map (put ks s e) ks ≡ s
put-reads [] [] e d h = refl
put-reads [] (v ∷ s) e d h = absurd (omega (arith, h))
put-reads (k ∷ ks) [] e d h = absurd (omega (arith, h))
put-reads (k ∷ ks) (v ∷ s) e d h =
    let parts = and_parts (not (has ks k)) (all_differ ks) d in
    let out : has ks k ≡ false = not-true _ parts.0 in
    let first : put (k ∷ ks) (v ∷ s) e k ≡ v = rw (eq-eqb k k refl) refl in
    let same : (c : ℕ) → has ks c ≡ true → put (k ∷ ks) (v ∷ s) e c ≡ put ks s e c = λ c is. rw (not-among k c ks out is) refl in
    cons-same first (map-on _ _ ks same ∙ put-reads ks s e parts.1 (omega (arith, h)))

-- ---- two rows

pub put-append : (ks ls : List ℕ) (s t : Row) (e : Env) (c : ℕ) → length s ≡ length ks → put (ks ++ ls) (s ++ t) e c ≡ put ks s (put ls t e) c
put-append [] ls [] t e c h = refl
put-append [] ls (v ∷ s) t e c h = absurd (omega (arith, h))
put-append (k ∷ ks) ls [] t e c h = absurd (omega (arith, h))
put-append (k ∷ ks) ls (v ∷ s) t e c h = ap (λ (x : Value). if k == c then v else x) (put-append ks ls s t e c (omega (arith, h)))

put-same : (ks : List ℕ) (s : Row) (e d : Env) (c : ℕ) → e c ≡ d c → put ks s e c ≡ put ks s d c
put-same [] s e d c is = is
put-same (k ∷ ks) [] e d c is = is
put-same (k ∷ ks) (v ∷ s) e d c is = ap (λ (x : Value). if k == c then v else x) (put-same ks s e d c is)

-- no column of the one list is in the other
abbrev pub AreDisjoint : List ℕ → List ℕ → Type 0
AreDisjoint ks ls = (c : ℕ) → has ks c ≡ true → has ls c ≡ false

-- a right row laid over a left one
pub lay-put : (ks ls : List ℕ) (s t : Row) (e : Env) → AreDisjoint ls ks → length s ≡ length ks → lay (has ls) (put ls t e) (put ks s e) ≡ put (ks ++ ls) (s ++ t) e
lay-put ks ls s t e disjoint h = pointwise (λ c. by c (has ls c) refl ∙ sym (put-append ks ls s t e c h))
  where
    by : (c : ℕ) (b : Bool) → has ls c ≡ b → (if b then put ls t e c else put ks s e c) ≡ put ks s (put ls t e) c
    by c true is = sym (put-off ks s (put ls t e) c (disjoint c is))
    by c false is = put-same ks s e (put ls t e) c (sym (put-off ls t e c is))

put-nulls : (ks : List ℕ) (e : Env) (c : ℕ) → has ks c ≡ true → put ks (rows.nulls (length ks)) e c ≡ Null
put-nulls [] e c h = cc
put-nulls (k ∷ ks) e c h = by (k == c) (λ in_. put-nulls ks e c in_) h
  where
    by : (b : Bool) → (has ks c ≡ true → put ks (rows.nulls (length ks)) e c ≡ Null) → (b || has ks c) ≡ true → (if b then Null else put ks (rows.nulls (length ks)) e c) ≡ Null
    by true more h = refl
    by false more h = more h

-- Nulls laid over a row
pub lay-nulls : (ks : List ℕ) (r e : Env) → lay (has ks) nulls r ≡ lay (has ks) (put ks (rows.nulls (length ks)) e) r
lay-nulls ks r e = pointwise (λ c. by c (has ks c) refl)
  where
    by : (c : ℕ) (b : Bool) → has ks c ≡ b → (if b then Null else r c) ≡ (if b then put ks (rows.nulls (length ks)) e c else r c)
    by c true is = sym (put-nulls ks e c is)
    by c false is = refl

pub lay-lay : (K : ColumnSet) (r e : Env) → lay K (lay K r e) e ≡ lay K r e
lay-lay K r e = pointwise (λ c. by c (K c))
  where
    by : (c : ℕ) (b : Bool) → (if b then (if b then r c else e c) else e c) ≡ (if b then r c else e c)
    by c true = refl
    by c false = refl

-- ---- a table's row

run-put : (first n : ℕ) (row : Row) (e : Env) (c : ℕ) → length row ≡ n → (if has (range_with_len first n) c then value_at (c - first) row else e c) ≡ put (range_with_len first n) row e c
run-put first zero [] e c h = refl
run-put first zero (v ∷ row) e c h = absurd (omega (arith, h))
run-put first (suc n) [] e c h = absurd (omega (arith, h))
run-put first (suc n) (v ∷ row) e c h = by (first == c) refl (run-put (first + 1) n row e c (omega (arith, h)))
  where
    more : (b : Bool) → has (range_with_len (first + 1) n) c ≡ b → (if b then value_at (c - first) (v ∷ row) else e c) ≡ (if b then value_at (c - (first + 1)) row else e c)
    more true is =
        let parts = and_parts (nat_le (first + 1) c) (nat_lt (c - (first + 1)) n) (sym (range_has (first + 1) n c) ∙ is) in
        let le : first + 1 ≤ c = leb-true _ _ parts.0 in
        let next : c - first ≡ suc (c - (first + 1)) = omega (arith, le) in
        ap (λ p. value_at p (v ∷ row)) next
    more false is = refl

    by : (b : Bool) → (first == c) ≡ b → (if has (range_with_len (first + 1) n) c then value_at (c - (first + 1)) row else e c) ≡ put (range_with_len (first + 1) n) row e c
        → (if (b || has (range_with_len (first + 1) n) c) then value_at (c - first) (v ∷ row) else e c) ≡ (if b then v else put (range_with_len (first + 1) n) row e c)
    by true is rest = let none : c - first ≡ 0 = omega (arith, eqb-true first c is) in ap (λ p. value_at p (v ∷ row)) none
    by false is rest = more (has (range_with_len (first + 1) n) c) refl ∙ rest

pub use-put : (t : TableInstance) (row : Row) (e : Env) → length row ≡ length t.entry.columns → instance_row t row e ≡ put (instance_columns t) row e
use-put t row e h = pointwise (λ c. run-put t.first_column (length t.entry.columns) row e c h)

-- ---- scopes

-- read by its numbers the environment is these rows
abbrev pub Agrees : Scope → List Row → Env → Type 0
Agrees scope ρ e = map (map e) scope ≡ ρ

level-reads : (e : Env) (scope : Scope) (l : ℕ) → slice_index_or (map (map e) scope) l [] ≡ map e (slice_index_or scope l [])
level-reads e [] l = refl
level-reads e (ks ∷ scope) zero = refl
level-reads e (ks ∷ scope) (suc l) = level-reads e scope l

pub place-reads : (e : Env) (ks : List ℕ) (p : ℕ) → p < length ks → value_at p (map e ks) ≡ e (slice_index_or ks p 0)
place-reads e [] p h = absurd (omega (arith, h))
place-reads e (k ∷ ks) zero h = refl
place-reads e (k ∷ ks) (suc p) h = place-reads e ks p (omega (arith, h))

-- a column reads by its number as by its level and place
pub reads : (scope : Scope) (ρ : List Row) (e : Env) (c : Column) → names scope c ≡ true → Agrees scope ρ e → e (number scope c) ≡ column c ρ
reads scope ρ e c there agree =
    sym (ap (column c) (sym agree) ∙ ap (value_at c.place) (level-reads e scope c.level) ∙ place-reads e (slice_index_or scope c.level []) c.place (ltb-true _ _ there))

-- the numbers are of their own
abbrev pub IsNew : List ℕ → Scope → Type 0
IsNew ks scope = (all_differ ks ≡ true) × (list_all (none_among ks) scope ≡ true)

pub none-disjoint : (ks ls : List ℕ) → none_among ks ls ≡ true → AreDisjoint ls ks
none-disjoint [] ls h c in_ = refl
none-disjoint (k ∷ ks) ls h c in_ =
    let parts = and_parts (not (has ls k)) (none_among ks ls) h in
    rw (not-among k c ls (not-true _ parts.0) in_) (none-disjoint ks ls parts.1 c in_)

scope-stays : (ks : List ℕ) (s : Row) (e : Env) (scope : Scope) → list_all (none_among ks) scope ≡ true → map (map (put ks s e)) scope ≡ map (map e) scope
scope-stays ks s e [] h = refl
scope-stays ks s e (ls ∷ scope) h =
    let parts = and_parts (none_among ks ls) (list_all (none_among ks) scope) h in
    cons-same (map-on (put ks s e) e ls (λ c in_. put-off ks s e c (none-disjoint ks ls parts.0 c in_))) (scope-stays ks s e scope parts.1)

-- behind a row that was put in, the environment reads as that row before the others
pub agrees-put : (ks : List ℕ) (s : Row) (e : Env) (scope : Scope) (ρ : List Row) → IsNew ks scope → length s ≡ length ks → Agrees scope ρ e → Agrees (ks ∷ scope) (s ∷ ρ) (put ks s e)
agrees-put ks s e scope ρ new h agree = cons-same (put-reads ks s e new.0 h) (scope-stays ks s e scope new.1 ∙ agree)

-- ---- numbers of parts

pub among-append : (k : ℕ) (ks ls : List ℕ) → has (ks ++ ls) k ≡ (has ks k || has ls k)
among-append k [] ls = refl
among-append k (j ∷ ks) ls = ap (λ b. (j == k) || b) (among-append k ks ls) ∙ assoc (j == k) (has ks k) (has ls k)
  where
    assoc : (a b c : Bool) → (a || (b || c)) ≡ ((a || b) || c)
    assoc true b c = refl
    assoc false b c = refl

not-or : (a b : Bool) → not (a || b) ≡ true → (a ≡ false) × (b ≡ false)
not-or true b h = cc
not-or false true h = cc
not-or false false h = (refl, refl)

pub differ-left : (ks ls : List ℕ) → all_differ (ks ++ ls) ≡ true → all_differ ks ≡ true
differ-left [] ls h = refl
differ-left (k ∷ ks) ls h =
    let parts = and_parts (not (has (ks ++ ls) k)) (all_differ (ks ++ ls)) h in
    let out : has ks k ≡ false = (not-or (has ks k) (has ls k) (ap not (sym (among-append k ks ls)) ∙ parts.0)).0 in
    and_from _ _ (ap not out) (differ-left ks ls parts.1)

pub differ-right : (ks ls : List ℕ) → all_differ (ks ++ ls) ≡ true → all_differ ls ≡ true
differ-right [] ls h = h
differ-right (k ∷ ks) ls h = differ-right ks ls (and_parts (not (has (ks ++ ls) k)) (all_differ (ks ++ ls)) h).1

pub differ-disjoint : (ks ls : List ℕ) → all_differ (ks ++ ls) ≡ true → AreDisjoint ls ks
differ-disjoint [] ls h c in_ = refl
differ-disjoint (k ∷ ks) ls h c in_ =
    let parts = and_parts (not (has (ks ++ ls) k)) (all_differ (ks ++ ls)) h in
    let out : has ls k ≡ false = (not-or (has ks k) (has ls k) (ap not (sym (among-append k ks ls)) ∙ parts.0)).1 in
    rw (not-among k c ls out in_) (differ-disjoint ks ls parts.1 c in_)

none-left : (ks ls os : List ℕ) → none_among (ks ++ ls) os ≡ true → none_among ks os ≡ true
none-left [] ls os h = refl
none-left (k ∷ ks) ls os h = let parts = and_parts (not (has os k)) (none_among (ks ++ ls) os) h in and_from _ _ parts.0 (none-left ks ls os parts.1)

none-right : (ks ls os : List ℕ) → none_among (ks ++ ls) os ≡ true → none_among ls os ≡ true
none-right [] ls os h = h
none-right (k ∷ ks) ls os h = none-right ks ls os (and_parts (not (has os k)) (none_among (ks ++ ls) os) h).1

all-left : (ks ls : List ℕ) (scope : Scope) → list_all (none_among (ks ++ ls)) scope ≡ true → list_all (none_among ks) scope ≡ true
all-left ks ls [] h = refl
all-left ks ls (os ∷ scope) h = let parts = and_parts (none_among (ks ++ ls) os) (list_all (none_among (ks ++ ls)) scope) h in and_from _ _ (none-left ks ls os parts.0) (all-left ks ls scope parts.1)

all-right : (ks ls : List ℕ) (scope : Scope) → list_all (none_among (ks ++ ls)) scope ≡ true → list_all (none_among ls) scope ≡ true
all-right ks ls [] h = refl
all-right ks ls (os ∷ scope) h = let parts = and_parts (none_among (ks ++ ls) os) (list_all (none_among (ks ++ ls)) scope) h in and_from _ _ (none-right ks ls os parts.0) (all-right ks ls scope parts.1)

pub new-left : (ks ls : List ℕ) (scope : Scope) → IsNew (ks ++ ls) scope → IsNew ks scope
new-left ks ls scope new = (differ-left ks ls new.0, all-left ks ls scope new.1)

pub new-right : (ks ls : List ℕ) (scope : Scope) → IsNew (ks ++ ls) scope → IsNew ls scope
new-right ks ls scope new = (differ-right ks ls new.0, all-right ks ls scope new.1)
