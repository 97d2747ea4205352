-- The numbers of rows, some after the others.
use Rattle.std.proofs.Common.{◌≡◌, ap, sym, ◌∙◌, ℕ, ◌-◌, ◌≤◌, ◌==◌, Bool, true, List, [], ◌++◌, filter, arith}
use Rattle.std.proofs.lemmas.Bool.Decides.{nat_tests}
use Rattle.std.specs.List.{range_with_len}
use Rattle.std.proofs.lemmas.List.Elements.{filter-append}
use Rattle.relations.proofs.Numbers.{range_between}

-- those that pass from a row on: those up to another, and those from that on
pub passing-parts : (p : ℕ → Bool) (start next count : ℕ) → start ≤ next → next ≤ count → filter p (range_with_len start (count - start)) ≡ filter p (range_with_len start (next - start)) ++ filter p (range_with_len next (count - next))
passing-parts p start next count low within =
    ap (filter p) (range_between start next count low within) ∙ filter-append p (range_with_len start (next - start)) (range_with_len next (count - next))

-- those that pass up to a row, in the place of an empty chunk
pub next-part : (p : ℕ → Bool) (start next end count : ℕ) (chunk new : List ℕ) → next ≤ end → end ≤ count → chunk ≡ [] → new ≡ filter p (range_with_len next (end - next))
    → filter p (range_with_len start (count - start)) ≡ chunk ++ filter p (range_with_len next (count - next))
    → filter p (range_with_len start (count - start)) ≡ new ++ filter p (range_with_len end (count - end))
next-part p start next end count chunk new low within empty filled so =
    so ∙ ap (λ l. l ++ filter p (range_with_len next (count - next))) empty ∙ passing-parts p next end count low within ∙ ap (λ l. l ++ filter p (range_with_len end (count - end))) (sym filled)

pub none-left : (n : ℕ) (b : Bool) → b ≡ true → b ≡ (n == 0) → n ≡ 0
none-left n b h e = grind (arith, nat_tests)
