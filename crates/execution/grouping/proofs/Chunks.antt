-- A list whose items come a chunk at a time.
use Rattle.std.proofs.Common.{◌≡◌, refl, Option, None, Some, ap, sym, ◌∙◌, subst, ℕ, zero, suc, ◌+◌, ◌<◌, ◌≤◌, List, [], ◌∷◌, ◌++◌, length, get_or, take, drop, arith}
use Rattle.std.specs.List.{AllByRecursion}
use Rattle.std.proofs.lemmas.List.{drop-drop, get_or-drop, length-append, length-drop}
use Rattle.std.proofs.Math.Seq.{take-add, take-append_seam, drop-append_seam}
use Rattle.std.proofs.Math.ListN.{get_or-append}
use Rattle.selections.specs.declared.row_chunks.RowChunks.{RowChunks}
use Rattle.selections.specs.RowChunks.{IsSelectedChunk, chunks_to_come}
use Rattle.relations.specs.declared.relation.Relation.{Relation}

module _ {X : Type 0} (n : ℕ) (all xs ys : List X) (is : drop n all ≡ xs ++ ys) where
  -- those before a chunk and the chunk
  pub take-more : take (n + length xs) all ≡ take n all ++ xs
  take-more = take-add n (length xs) all ∙ ap (λ l. take n all ++ take (length xs) l) is ∙ ap (λ l. take n all ++ l) (take-append_seam xs ys)

  -- and those behind it
  pub drop-more : drop (n + length xs) all ≡ ys
  drop-more = sym (drop-drop (length xs) n all) ∙ ap (drop (length xs)) is ∙ drop-append_seam xs ys

  pub get-more : (i : ℕ) (d : X) → i < length xs → get_or xs i d ≡ get_or all (n + i) d
  get-more i d below = sym (get_or-append xs ys d i below) ∙ ap (λ l. get_or l i d) (sym is) ∙ get_or-drop n all i d

  -- a chunk goes no further than all do
  pub chunk-fits : n ≤ length all → n + length xs ≤ length all
  chunk-fits within = omega (arith, within, ap length is, length-drop n all, length-append xs ys)

-- what holds of all holds of a chunk
pub chunk-all : {X : Type 0} (P : X → Type 0) (n : ℕ) (all xs ys : List X) → drop n all ≡ xs ++ ys → AllByRecursion P all → AllByRecursion P xs
chunk-all {X = X} P n all xs ys is each = all-front xs ys (subst (AllByRecursion P) is (all-behind n all each))
  where
    all-behind : (k : ℕ) (l : List X) → AllByRecursion P l → AllByRecursion P (drop k l)
    all-behind zero l each = each
    all-behind (suc k) [] each = tt
    all-behind (suc k) (x ∷ l) each = all-behind k l each.1

    all-front : (l m : List X) → AllByRecursion P (l ++ m) → AllByRecursion P l
    all-front [] m each = tt
    all-front (x ∷ l) m each = (each.0, all-front l m each.1)

-- where no chunk comes no row is to come
pub chunk-none : (old new : RowChunks) (o : Option Relation) → ((r : Relation) → o ≡ Some r → ⊥) → IsSelectedChunk old new o → chunks_to_come old ≡ []
chunk-none old new None not chunk = chunk.0
chunk-none old new (Some r) not chunk = absurd (not r refl)

pub all-came : {X : Type 0} (n : ℕ) (all : List X) → drop n all ≡ [] → n ≤ length all → n ≡ length all
all-came n all none within = omega (arith, within, ap length none, length-drop n all)
