use Rattle.std.proofs.Common.{◌≡◌, true, false, ℤ, FitsSigned, rules, sym, subst}
use Rattle.std.specs.Int.{w64}
use Rattle.std.specs.Fmt.{signed_decimal}
use Rattle.std.proofs.lemmas.Int.{to_z-of_z, to_z_pos}
use Rattle.store.specs.Numbers.{IsCount, begins_number}
use Rattle.store.proofs.Decimals.{other_front, count_written, no_text, not_parsed, is_decimal, fits_decimal}
use Rattle.store.proofs.field.number_of.Goals as goal

pub returns-then-not-begins_number : goal.returns-then-not-begins_number
returns-then-not-begins_number c =
    let e : begins_number c.args.bytes.now ≡ false = search rules in
    other_front c.args.bytes.now e

pub returns-in_default-from_utf8 : goal.returns-in_default-from_utf8
returns-in_default-from_utf8 c = no_text c.args.bytes.now c.in_default-from_utf8.ensures.cases.0

pub returns-in-Ok-parse : goal.returns-in-Ok-parse
returns-in-Ok-parse c =
    let e : begins_number c.args.bytes.now ≡ true = search rules in
    let h = rw c.in-Ok.ensures.cases.0 at c.in-Ok-parse.ensures.value.0 in
    let fits : FitsSigned w64 c.in-Ok-parse.number = fits_decimal c.args.bytes.now c.in-Ok-parse.number h in
    let same = sym (to_z-of_z w64 c.in-Ok-parse.number fits) in
    subst (λ (z : ℤ). (c.args.bytes.now ≡ signed_decimal z) × FitsSigned w64 z) same (is_decimal c.args.bytes.now c.in-Ok-parse.number e h, fits)

pub returns-in-Err : goal.returns-in-Err
returns-in-Err c = not_parsed c.args.bytes.now c.in-Err.field-0 (rw c.in-Ok.ensures.cases.0 at c.in-Err.ensures.value.0)

pub returns-in-Some : goal.returns-in-Some
returns-in-Some c =
    let e : begins_number c.args.bytes.now ≡ true = search rules in
    let h : IsCount c.args.bytes.now c.in-Some.count = c.in-Some.ensures in
    rw (to_z_pos w64 c.in-Some.count h.short) (count_written c.args.bytes.now c.in-Some.count e h, record { sfits = h.short })
