-- A FROM's rows have as many values as it has columns.
use Rattle.std.proofs.Common.{◌≡◌, ℕ, zero, suc, ◌+◌, Bool, true, false, if◌then◌else◌, List, [], ◌∷◌, ◌++◌, length, map, filter, flat_map, arith, length-append}
use Rattle.std.proofs.lemmas.List.{length-replicate}
use Rattle.std.specs.Prelude.{slice_index_or}
use Rattle.values.specs.declared.value.Value.TheVariants.{Null}
use Rattle.schema.specs.declared.schema.Table.{Table}
use Rattle.schema.specs.Databases.{Row, Database, SatisfyTables, HaveWidth}
use Rattle.schema.proofs.Widths.{fits_width}
use Rattle.query.specs.declared.query.From.{From}
use Rattle.query.specs.Rows.{Env, Tables, IsFitting, nulls}
use Rattle.query.specs.Meaning.{CondMeaning, source, from_width, truth, or_else_row, pairs_of, matches, padded}
use Rattle.query.specs.Answer.{SatisfyingFits}
use Rattle.query.proofs.Equations.{source-Table, source-Join, source-LeftJoin, source-Comma, width-Table, width-Join, width-LeftJoin, width-Comma}
use Rattle.query.proofs.Froms.{each_from}

-- ---- lists of rows

width-append : (w : ℕ) (L M : List Row) → HaveWidth w L → HaveWidth w M → HaveWidth w (L ++ M)
width-append w [] M h k = k
width-append w (r ∷ L) M h k = (h.0, width-append w L M h.1 k)

width-flat_map : (v w : ℕ) (f : Row → List Row) → ((l : Row) → length l ≡ v → HaveWidth w (f l)) → (L : List Row) → HaveWidth v L → HaveWidth w (flat_map f L)
width-flat_map v w f each [] h = tt
width-flat_map v w f each (l ∷ L) h = width-append w (f l) (flat_map f L) (each l h.0) (width-flat_map v w f each L h.1)

width-filter : (w : ℕ) (p : Row → Bool) (L : List Row) → HaveWidth w L → HaveWidth w (filter p L)
width-filter w p [] h = tt
width-filter w p (r ∷ L) h = by (p r) (width-filter w p L h.1)
  where
    by : (b : Bool) → HaveWidth w (filter p L) → HaveWidth w (if b then r ∷ filter p L else filter p L)
    by true more = (h.0, more)
    by false more = more

width-pairs : (v w : ℕ) (l : Row) → length l ≡ v → (R : List Row) → HaveWidth w R → HaveWidth (v + w) (pairs_of l R)
width-pairs v w l e [] h = tt
width-pairs v w l e (r ∷ R) h = (let f : length r ≡ w = h.0 in omega (arith, length-append l r), width-pairs v w l e R h.1)

pub length-nulls : (w : ℕ) → length (nulls w) ≡ w
length-nulls w = length-replicate w Null

width-or_else : (w : ℕ) (pad : Row) (M : List Row) → length pad ≡ w → HaveWidth w M → HaveWidth w (or_else_row pad M)
width-or_else w pad [] e h = (e, tt)
width-or_else w pad (m ∷ M) e h = h

width-matches : (on : CondMeaning) (t : ℕ) (D : Tables) (e : Env) → IsFitting D → (v : ℕ) (l : Row) → length l ≡ v → HaveWidth (v + D.width t) (matches on t D e l)
width-matches on t D e fits v l h = width-filter _ _ (pairs_of l (D.rows t)) (width-pairs v (D.width t) l h (D.rows t) (fits t))

width-padded : (on : CondMeaning) (t : ℕ) (D : Tables) (e : Env) → IsFitting D → (v : ℕ) (l : Row) → length l ≡ v → HaveWidth (v + D.width t) (padded on t D e l)
width-padded on t D e fits v l h = width-or_else _ _ (matches on t D e l) (omega (arith, length-append l (nulls (D.width t)), length-nulls (D.width t))) (width-matches on t D e fits v l h)

-- ---- FROMs

abbrev HasWidth : From → Type 0
HasWidth f = (D : Tables) (e : Env) → IsFitting D → HaveWidth (from_width f D) (source f D e)

pub source_fits : (f : From) (D : Tables) (e : Env) → IsFitting D → HaveWidth (from_width f D) (source f D e)
source_fits = each_from HasWidth (λ o D e fits. rw (source-Table o D e, width-Table o D) (fits o.table))
    (λ f o on left D e fits. rw (source-Join f o on D e, width-Join f o on D)
    (width-flat_map (from_width f D) _ (matches (truth on) o.table D e) (width-matches (truth on) o.table D e fits _) (source f D e) (left D e fits)))
    (λ f o on left D e fits. rw (source-LeftJoin f o on D e, width-LeftJoin f o on D)
    (width-flat_map (from_width f D) _ (padded (truth on) o.table D e) (width-padded (truth on) o.table D e fits _) (source f D e) (left D e fits)))
    (λ f g left right D e fits. rw (source-Comma f g D e, width-Comma f g D)
    (width-flat_map (from_width f D) _ (λ l. pairs_of l (source g D e)) (λ l h. width-pairs _ _ l h (source g D e) (right D e fits)) (source f D e) (left D e fits)))

-- ---- databases

tables-fit : (ts : List Table) (D : Database) → SatisfyTables ts D → (t : ℕ) → HaveWidth (slice_index_or (map (λ entry. length entry.columns) ts) t 0) (slice_index_or D t [])
tables-fit [] [] h t = tt
tables-fit [] (rows ∷ D) h t = absurd h
tables-fit (entry ∷ ts) [] h t = absurd h
tables-fit (entry ∷ ts) (rows ∷ D) h zero = fits_width entry.columns rows h.0.fit
tables-fit (entry ∷ ts) (rows ∷ D) h (suc t) = tables-fit ts D h.1 t

pub satisfying_fits : SatisfyingFits
satisfying_fits S D h t = tables-fit S.tables D h t
