-- A set that takes in the keys of rows, one after the other.
use Rattle.std.proofs.Common.{◌≡◌, refl, sym, ap, ◌∙◌, ℕ, ◌+◌, ◌<◌, Bool, true, false, cond, ◌||◌, List, [], length, get_or, map, take, slice_index_or}
use Rattle.std.specs.Set.{is_member}
use Rattle.std.proofs.lemmas.List.{get_or-map, length-map}
use Rattle.std.proofs.lemmas.List.Folds.{list_any_more}
use Rattle.schema.specs.Databases.{Row, values_at}
use Rattle.store.specs.Keys.{key_eq, key_equiv}

cond-or : (x b : Bool) → cond x true b ≡ (b || x)
cond-or true true = refl
cond-or true false = refl
cond-or false true = refl
cond-or false false = refl

-- with the next row's key in it, the set has the keys of one row more
pub keys-more : (places : List ℕ) (rows : List Row) (n : ℕ) (k q : Row) (had has : Bool) → n < length rows → k ≡ values_at places (slice_index_or rows n [])
    → had ≡ is_member key_eq (take n (map (values_at places) rows)) q → has ≡ cond (key_eq k q) true had
    → has ≡ is_member key_eq (take (n + 1) (map (values_at places) rows)) q
keys-more places rows n k q had has lt is before after =
    let ks : List Row = map (values_at places) rows in
    let same : k ≡ get_or ks n k = is ∙ sym (get_or-map (values_at places) rows n [] k lt) in
    let long : n < length ks = rw (length-map rows (values_at places)) lt in
    after ∙ cond-or (key_eq k q) had ∙ ap (λ b. b || key_eq k q) before ∙ ap (λ b. is_member key_eq (take n ks) q || b) (key_equiv.symm k q ∙ ap (key_eq q) same)
    ∙ sym (list_any_more (key_eq q) ks n k long)
