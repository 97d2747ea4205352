-- A loop's next item, in a list that is made of those so far.
use Rattle.std.proofs.Common.{◌≡◌, refl, ℕ, ◌+◌, ◌<◌, List, [], ◌∷◌, ◌++◌, length, get_or, take, ap, sym, ◌∙◌, None, filter, Bool, true, false, Bor}
use Rattle.std.proofs.lemmas.List.{map_push}
use Rattle.values.proofs.Lists.{take_next, filter_kept, filter_left}
use Rattle.schema.specs.Databases.{Row}
use Rattle.query.specs.Rows.{Env, Tables}
use Rattle.query.specs.Meaning.{passes_filter}
use Rattle.oracle.specs.Given.{rows_at}

-- the next row is kept, or not
pub kept-next : (p : Row → Bool) (rows : List Row) (i : ℕ) (x : Row) (found : List (Bor Row)) (r : Bor Row) → i < length rows → x ≡ get_or rows i x → r.now ≡ x → p x ≡ true → rows_at found ≡ filter p (take i rows)
    → rows_at (found ++ r ∷ []) ≡ filter p (take (i + 1) rows)
kept-next p rows i x found r h is own passes before =
    map_push (λ s. s.now) found r
    ∙ ap (λ l. l ++ r.now ∷ []) before
    ∙ ap (λ y. filter p (take i rows) ++ y ∷ []) own
    ∙ sym (filter_kept p (take i rows) x passes) ∙ ap (filter p) (sym (take_next rows i x h is))

pub left-next : (p : Row → Bool) (rows : List Row) (i : ℕ) (x : Row) (found : List Row) → i < length rows → x ≡ get_or rows i x → p x ≡ false → found ≡ filter p (take i rows) → found ≡ filter p (take (i + 1) rows)
left-next p rows i x found h is fails before =
    before ∙ sym (filter_left p (take i rows) x fails) ∙ ap (filter p) (sym (take_next rows i x h is))

-- an absent WHERE keeps each row
pub all-pass : (D : Tables) (e : Env) (rows : List Row) → filter (passes_filter None D e) rows ≡ rows
all-pass D e [] = refl
all-pass D e (r ∷ rows) = ap (λ l. r ∷ l) (all-pass D e rows)
