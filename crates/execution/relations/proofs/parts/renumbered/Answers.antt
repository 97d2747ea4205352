use Rattle.std.proofs.Common.{◌≡◌, refl, ap, sym, subst, ◌∙◌, ℕ, zero, suc, List, [], ◌∷◌, length, get_or, map, Option, IfOk, Result, Ok, Err, arith}
use Rattle.std.proofs.Math.ListN.{get_or-eq_default}
use Rattle.schema.specs.Databases.{Row}
use Rattle.relations.specs.Parts.{numbered_rows}
use Rattle.relations.proofs.parts.renumbered.Goals as goal

one : (rows : List Row) (earlier : List ℕ) (n : ℕ) → get_or rows (get_or earlier n (length rows)) [] ≡ get_or (map (λ m. get_or rows m []) earlier) n []
one rows [] n = get_or-eq_default rows [] (omega arith)
one rows (x ∷ earlier) zero = refl
one rows (x ∷ earlier) (suc n) = one rows earlier n

all : (rows : List Row) (earlier numbers : List ℕ) → map (λ m. get_or rows m []) (map (λ n. get_or earlier n (length rows)) numbers) ≡ map (λ n. get_or (map (λ m. get_or rows m []) earlier) n []) numbers
all rows earlier [] = refl
all rows earlier (n ∷ numbers) = rw (one rows earlier n, all rows earlier numbers) refl

taken : {E : Type 0} (result : Result (List ℕ) E) (rows : List Row) (numbers : List ℕ) → IfOk result (λ ns. ns ≡ numbers) → IfOk result (λ ns. map (λ n. get_or rows n []) ns ≡ map (λ n. get_or rows n []) numbers)
taken (Ok ns) rows numbers is = ap (map (λ n. get_or rows n [])) is
taken (Err x) rows numbers is = tt

pub returns-in-None : goal.returns-in-None
returns-in-None c = λ rows same.
    let numbers = c.args.numbers.now in
    subst (λ (o : Option (List ℕ)). IfOk c.from_slice.result (λ ns. map (λ n. get_or rows n []) ns ≡ map (λ n. get_or (numbered_rows rows o) n []) numbers)) (sym c.in-None.is) (taken c.from_slice.result rows numbers c.from_slice.ensures)

pub returns-in_ok-all-in-Some : goal.returns-in_ok-all-in-Some
returns-in_ok-all-in-Some c = λ rows same.
    let numbers = c.args.numbers.now in
    let earlier = c.in-Some.earlier in
    ap (map (λ n. get_or rows n [])) (c.from_vec.ensures ∙ c.in_ok-all-in-Some.ensures ∙ ap (λ (l : List ℕ). map (λ n. get_or l n c.args.none) numbers) c.as_slice.ensures ∙ ap (λ d. map (λ n. get_or earlier n d) numbers) (sym same))
    ∙ all rows earlier numbers ∙ ap (λ (o : Option (List ℕ)). map (λ n. get_or (numbered_rows rows o) n []) numbers) (sym c.in-Some.is)
