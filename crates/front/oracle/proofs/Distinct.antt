-- One of each row, as a list grows.
use Rattle.std.proofs.Common.{◌≡◌, refl, Bool, true, false, if◌then◌else◌, not, List, [], ◌∷◌, ◌++◌, filter, ap, sym, ◌∙◌, arith, rules}
use Rattle.std.specs.List.{list_any}
use Rattle.values.proofs.Lists.{filter_kept, filter_left}
use Rattle.schema.specs.Databases.{Row}
use Rattle.query.specs.Rows.{same_rows, distinct}
use Rattle.query.proofs.Counting.{same_rows-equal, same_rows-sym}

-- one more row comes last, unless it is there
abbrev pub added : List Row → Row → List Row
added rows r = if list_any (same_rows r) rows then rows else rows ++ r ∷ []

any-step : (p : Row → Bool) (r s : Row) (rows : List Row) → p r ≡ true → (same_rows r s ≡ true → r ≡ s) → list_any (same_rows r) (filter p rows) ≡ list_any (same_rows r) rows
    → list_any (same_rows r) (filter p (s ∷ rows)) ≡ list_any (same_rows r) (s ∷ rows)
any-step p r s rows h same before = grind (arith, rules)

-- what is like a row that passes does so too
any-filter : (p : Row → Bool) (rows : List Row) (r : Row) → p r ≡ true → list_any (same_rows r) (filter p rows) ≡ list_any (same_rows r) rows
any-filter p [] r h = refl
any-filter p (s ∷ rows) r h = any-step p r s rows h (same_rows-equal r s) (any-filter p rows r h)

filter-added : (p : Row → Bool) (rows : List Row) (r : Row) → p r ≡ true → filter p (added rows r) ≡ added (filter p rows) r
filter-added p rows r h = grind (arith, rules, filter_kept p rows r h, any-filter p rows r h)

filter-unadded : (p : Row → Bool) (rows : List Row) (r : Row) → p r ≡ false → filter p (added rows r) ≡ filter p rows
filter-unadded p rows r h = grind (arith, rules, filter_left p rows r h)

added-first : (s r : Row) (rows : List Row) → same_rows r s ≡ false → s ∷ added rows r ≡ added (s ∷ rows) r
added-first s r rows h = grind (arith, rules)

step : (s r : Row) (rows : List Row) → (b : Bool) → same_rows s r ≡ b → same_rows r s ≡ b → s ∷ filter (λ x. not (same_rows s x)) (added rows r) ≡ added (s ∷ filter (λ x. not (same_rows s x)) rows) r
step s r rows true h k = rw k (ap (λ l. s ∷ l) (filter-unadded (λ x. not (same_rows s x)) rows r (ap not h)))
step s r rows false h k = ap (λ l. s ∷ l) (filter-added (λ x. not (same_rows s x)) rows r (ap not h)) ∙ added-first s r (filter (λ x. not (same_rows s x)) rows) k

distinct-more : (rows : List Row) (r : Row) → distinct (rows ++ r ∷ []) ≡ added (distinct rows) r
distinct-more [] r = refl
distinct-more (s ∷ rows) r = ap (λ l. s ∷ filter (λ x. not (same_rows s x)) l) (distinct-more rows r) ∙ step s r (distinct rows) (same_rows s r) refl (same_rows-sym r s)

-- a row that isn't there
pub distinct-new : (done kept : List Row) (r : Row) → kept ≡ distinct done → list_any (same_rows r) kept ≡ false → kept ++ r ∷ [] ≡ distinct (done ++ r ∷ [])
distinct-new done kept r is none = ap (λ b. if b then kept else kept ++ r ∷ []) (sym none) ∙ ap (λ rows. added rows r) is ∙ sym (distinct-more done r)

-- and one that is
pub distinct-old : (done kept : List Row) (r : Row) → kept ≡ distinct done → list_any (same_rows r) kept ≡ true → kept ≡ distinct (done ++ r ∷ [])
distinct-old done kept r is some = ap (λ b. if b then kept else kept ++ r ∷ []) (sym some) ∙ ap (λ rows. added rows r) is ∙ sym (distinct-more done r)
