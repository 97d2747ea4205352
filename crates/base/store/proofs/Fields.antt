-- Fields and the values that they stand for.
use Rattle.std.proofs.Common.{◌≡◌, ◌≢◌, ℕ, List, [], ◌∷◌, ◌==◌, ◌≤◌, length, get_or, Bool, true, false, cond, refl, sym, ap, ◌∙◌, arith}
use Rattle.std.proofs.lemmas.Bool.Decides.{nat_tests}
use Rattle.values.specs.declared.value.Value.{Value}
use Rattle.values.specs.declared.value.Value.TheVariants as value
use Rattle.schema.specs.declared.schema.Column.{Column}
use Rattle.store.specs.declared.fault.FieldFault.{FieldFault}
use Rattle.store.specs.declared.fault.FieldFault.TheVariants.{BadEscape, NotNumber, NotText, NullValue}
use Rattle.store.specs.Numbers.{begins_number}
use Rattle.store.specs.Tables.{Stands, FieldFails}
use Rattle.store.specs.Fields.{escaped}
use Rattle.store.specs.Parsing.{IsPlain, PlainFails, IsUnescaped}
use Rattle.store.proofs.Decimals.{other_front}

-- a field that doesn't begin with a backslash
pub as_it_is : (c : Column) (f : List ℕ) → escaped f ≡ f → IsUnescaped c f f
as_it_is c f e = record { stands = stands; fails = fails }
  where
    stands : (v : Value) → IsPlain c.kind f v → Stands c f v
    stands value.Null h = absurd h
    stands (value.Int n) h = record { written = h.2; fits = (h.0, h.1); text = tt }
    stands (value.Text t) h = record { written = sym e ∙ ap escaped h.2; fits = h.0; text = h.1 }

    fails : (wrong : FieldFault) → PlainFails c.kind f wrong → FieldFails c f wrong
    fails BadEscape h = absurd h
    fails NullValue h = absurd h
    fails NotNumber h = (h.0, (f, sym e), h.1)
    fails NotText h = (h.0, (f, sym e, h.1))

pub no_digit : (rest : List ℕ) → begins_number (92 ∷ rest) ≡ false
no_digit [] = refl
no_digit (b ∷ bs) = refl

-- the bytes after the first of two backslashes
without_escape : (c : Column) (more : List ℕ) → IsUnescaped c (92 ∷ 92 ∷ more) (92 ∷ more)
without_escape c more = record { stands = stands; fails = fails }
  where
    stands : (v : Value) → IsPlain c.kind (92 ∷ more) v → Stands c (92 ∷ 92 ∷ more) v
    stands value.Null h = absurd h
    stands (value.Int n) h = absurd (other_front (92 ∷ more) (no_digit more) (n, h.1, h.2))
    stands (value.Text t) h = record { written = ap escaped h.2; fits = h.0; text = h.1 }

    fails : (wrong : FieldFault) → PlainFails c.kind (92 ∷ more) wrong → FieldFails c (92 ∷ 92 ∷ more) wrong
    fails BadEscape h = absurd h
    fails NullValue h = absurd h
    fails NotNumber h = (h.0, (92 ∷ more, refl), other_front (92 ∷ 92 ∷ more) (no_digit (92 ∷ more)))
    fails NotText h = (h.0, (92 ∷ more, refl, h.1))

escaped_as : (b : ℕ) (bs rest : List ℕ) (slash : Bool) → (b == 92) ≡ slash → 92 ∷ rest ≡ cond slash (92 ∷ b ∷ bs) (b ∷ bs) → rest ≡ 92 ∷ bs
escaped_as b bs rest true q e = let is : b ≡ 92 = grind (arith, nat_tests) in rw (← is) (cc e)
escaped_as b bs rest false q e =
    let is : 92 ≡ b = cc e in
    let bad : (b == 92) ≡ true = rw (← is) refl in
    cc (bad, q)

-- a backslash that no second one follows begins no text
pub no_escape : (rest : List ℕ) → ((more : List ℕ) → rest ≢ 92 ∷ more) → (t : List ℕ) → 92 ∷ rest ≢ escaped t
no_escape rest h [] e = cc e
no_escape rest h (b ∷ bs) e = h bs (escaped_as b bs rest (b == 92) refl e)

other_first : (b : ℕ) (bs : List ℕ) → (b ≡ 92 → ⊥) → escaped (b ∷ bs) ≡ b ∷ bs
other_first b bs h = let e : (b == 92) ≡ false = grind (arith, nat_tests) in rw e refl

pub not_escaped : (f : List ℕ) → 1 ≤ length f → (get_or f 0 0 ≡ 92 → ⊥) → escaped f ≡ f
not_escaped [] few h = absurd (omega arith)
not_escaped (b ∷ bs) few h = other_first b bs h

pub second_backslash : (c : Column) (rest : List ℕ) → 1 ≤ length rest → get_or rest 0 0 ≡ 92 → IsUnescaped c (92 ∷ rest) rest
second_backslash c [] few is = absurd (omega arith)
second_backslash c (b ∷ more) few is = rw is (without_escape c more)
