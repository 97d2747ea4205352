-- A line of a log that passes, and the lines of a class.
use Rattle.std.proofs.Common.{◌≡◌, refl, ap, sym, ◌∙◌, ℕ, ◌≤◌, Bool, true, false, ◌||◌, ◌==◌, List, [], ◌∷◌, length, Option, Some, None, if◌then◌else◌, arith}
use Rattle.std.proofs.lemmas.Bool.{eqb-true}
use Rattle.std.proofs.Math.Bool.{or-true}
use Rattle.algebra.specs.Columns.{has}
use Rattle.rules.specs.Matches as matches
use Rattle.derivation.specs.Logs.{Log, line_at, as_member, member}
use Rattle.derivation.proofs.Lookups.{here, member-stays}
use Rattle.logs.specs.Members.{is_member, once_if}
use Rattle.logs.specs.Sets.{times}
use Rattle.logs.proofs.Times.{times-some, times-none}
use Rattle.closure.specs.Closed.{passes, any_line}

-- a line that passes
pub record Passing (p : matches.Line → Bool) (E : Log) : Type 0 where
  pub number : ℕ
  pub line : matches.Line
  pub stands : member E number ≡ Some line
  pub passing : p line ≡ true

pub passing-line : (p : matches.Line → Bool) (E : Log) → any_line p E ≡ true → Passing p E
passing-line p [] any = cc
passing-line p (k ∷ E) any = by (passing-line p E) (as_member (length E) (Some k)) refl any
  where
    later : Passing p E → Passing p (k ∷ E)
    later it = record { number = it.number; line = it.line; stands = member-stays k E it.number it.line it.stands; passing = it.passing }

    by : (any_line p E ≡ true → Passing p E) → (o : Option matches.Line) → as_member (length E) (Some k) ≡ o → (passes p o || any_line p E) ≡ true → Passing p (k ∷ E)
    by before None at is = later (before is)
    by before (Some l) at is = or (p l) refl is
      where
        or : (b : Bool) → p l ≡ b → (b || any_line p E) ≡ true → Passing p (k ∷ E)
        or true passing is = record { number = length E; line = l; stands = ap (as_member (length E)) (here k E) ∙ at; passing = passing }
        or false passing is = later (before is)

pub line-passes : (p : matches.Line → Bool) (E : Log) (n : ℕ) (l : matches.Line) → member E n ≡ Some l → p l ≡ true → any_line p E ≡ true
line-passes p [] n l at is = cc
line-passes p (k ∷ E) n l at is = by (λ earlier. line-passes p E n l earlier is) (n == length E) refl at
  where
    by : (member E n ≡ Some l → any_line p E ≡ true) → (b : Bool) → (n == length E) ≡ b → as_member n (if b then Some k else line_at E n) ≡ Some l → any_line p (k ∷ E) ≡ true
    by before true e at =
        let last : as_member (length E) (Some k) ≡ Some l = sym (ap (λ i. as_member i (Some k)) (eqb-true n (length E) e)) ∙ at in
        ap (λ o. passes p o || any_line p E) last ∙ ap (λ b. b || any_line p E) is
    by before false e at = ap (λ b. passes p (as_member (length E) (Some k)) || b) (before at) ∙ or-true _

-- ---- among the lines of a class

module _ (E : Log) (g : ℕ) (found : List ℕ) (exact : (n : ℕ) → times n found ≡ once_if (is_member E g n)) (n : ℕ) where
  pub is-listed : is_member E g n ≡ true → has found n ≡ true
  is-listed is = by (has found n) refl
    where
      by : (b : Bool) → has found n ≡ b → b ≡ true
      by true at = refl
      by false at = absurd (let never : 0 ≡ once_if true = sym (times-none n found at) ∙ exact n ∙ ap once_if is in cc)

  pub listed-is : has found n ≡ true → is_member E g n ≡ true
  listed-is listed = by (is_member E g n) refl
    where
      by : (b : Bool) → is_member E g n ≡ b → b ≡ true
      by true at = refl
      by false at =
          let some : 1 ≤ times n found = times-some n found listed in
          let none : times n found ≡ 0 = exact n ∙ ap once_if at in
          absurd (omega (arith, some, none))
