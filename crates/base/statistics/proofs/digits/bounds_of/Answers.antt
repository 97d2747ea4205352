use Rattle.std.proofs.Common.{◌≡◌, ◌<◌, ◌+◌, ℕ, ℤ, true, false, Bool, List, pos, get_or, inl, inr, arith}
use Rattle.std.specs.Prelude.{◌≤ℤ◌}
use Rattle.std.specs.Int.{cast_signed, w64}
use Rattle.std.proofs.lemmas.Int.{ints}
use Rattle.values.proofs.Counts.{below_or_last}
use Rattle.statistics.proofs.digits.bounds_of.Goals as goal
use Rattle.statistics.proofs.digits.bounds_of.Goals.{then-known, else-known, then-known-2, else-known-2}

abbrev IsWithin : List Bool → List ℤ → ℤ → ℤ → ℕ → Type 0
IsWithin known numbers least greatest i = get_or known i false ≡ true → (least ≤ℤ get_or numbers i (pos 0)) × (get_or numbers i (pos 0) ≤ℤ greatest)

-- wider bounds, which hold one number more
within_more : (known : List Bool) (numbers : List ℤ) (n : ℕ) (a b c d : ℤ) → ((i : ℕ) → i < n → IsWithin known numbers a b i) → c ≤ℤ a → b ≤ℤ d → IsWithin known numbers c d n
    → (i : ℕ) → i < n + 1 → IsWithin known numbers c d i
within_more known numbers n a b c d before low high here i lt = elim (below_or_last i n lt) [
  | inl below ↦ (λ is. let h = before i below is in (omega (arith, ints, h.0, low), omega (arith, ints, h.1, high)))
  | inr at ↦ rw at here
]

pub loop-row-preserved : goal.loop-row-preserved
loop-row-preserved c =
    within_more c.args.column.known.now c.args.column.numbers.now c.loop-row.row (cast_signed w64 c.loop-row.least-bits) (cast_signed w64 c.loop-row.greatest-bits) _ _ c.loop-row.invariant
    (omega (arith, ints, c.min-least.ensures.self_bound))
    (omega (arith, ints, c.max-greatest.ensures.self_bound))
    (λ is. (
      elim c.if-known.branch [
        | then-known w ↦ omega (arith, ints, w.min-is, c.if-known.min-is, c.min-least.ensures.other_bound)
        | else-known w ↦ cc (is, w.if-known.false)
      ],
      elim c.if-known-2.branch [
        | then-known-2 w ↦ omega (arith, ints, w.max-is, c.if-known-2.max-is, c.max-greatest.ensures.other_bound)
        | else-known-2 w ↦ cc (is, w.if-known-2.false)
      ],
    ))
