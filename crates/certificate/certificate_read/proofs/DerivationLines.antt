-- The lines of a derivation, as far as they are read of any text.
use Rattle.std.proofs.Common.{◌≡◌, refl, sym, subst, arith, ℕ, ◌+◌, ◌<◌, ◌≤◌, inr, List, [], ◌∷◌, ◌++◌, length, map, length-append, codes, decimal}
use Rattle.std.proofs.lemmas.List.{map-append}
use Rattle.std.specs.List.{AllByRecursion}
use Rattle.values.proofs.Lists.{all_append}
use Rattle.derivation.specs.declared.line.Line.{Line}
use Rattle.certificate_text.proofs.DecimalNumerals.{short_decimal}
use Rattle.certificate_text.specs.Numerals.{numeral}
use Rattle.certificate_text.specs.Parts.{IsShort}
use Rattle.certificate_text.specs.declared.fault.TextRefusal.{TextRefusal}
use Rattle.certificate_text.specs.CertificateText.{◌␣◌, line_words}
use Rattle.certificate_text.specs.Limits.{most_lines}
use Rattle.certificate_text.specs.Readable.{IsReadableLine}
use Rattle.certificate_read.specs.declared.text_lines.TextLines.{TextLines}
use Rattle.certificate_read.specs.LineReading.{line_wording}
use Rattle.certificate_read.specs.TextCalls.{PassesLine, PassesLines}
use Rattle.certificate_read.specs.TextFaults.{derivation_lines, AreDerivation, IsFaultOfDerivation, IsNextFault, IsOther}
use Rattle.certificate_read.proofs.TextSteps.{both_passed, next_behind, none_passed, one_passed}

-- so many of the lines that are counted
abbrev pub LinesSoFar : ℕ → List Line → TextLines → TextLines → ℕ → Type 0
LinesSoFar count ls first now done = PassesLines (map line_words ls) first now × AllByRecursion IsReadableLine ls × (length ls ≡ done) × (done ≤ count)

pub no_lines : (text : TextLines) (count : ℕ) (ls : List Line) → ls ≡ [] → LinesSoFar count ls text text 0
no_lines text count ls e = subst (λ ls. LinesSoFar count ls text text 0) (sym e) (none_passed text, tt, refl, omega arith)

pub line_more : (first now next : TextLines) (ls grown : List Line) (l : Line) (count done : ℕ) → LinesSoFar count ls first now done → done < count → PassesLine (line_words l) now next × IsReadableLine l → grown ≡ ls ++ (l ∷ []) → LinesSoFar count grown first next (done + 1)
line_more first now next ls grown l count done so_far below read is =
    subst (λ ls. LinesSoFar count ls first next (done + 1)) (sym is) (
      subst (λ ws. PassesLines ws first next) (sym (map-append line_words ls (l ∷ []))) (both_passed (map line_words ls) (line_words l ∷ []) first now next so_far.0 (one_passed (line_words l) now next read.0)),
      all_append IsReadableLine ls (l ∷ []) so_far.1 (read.1, tt),
      omega (arith, length-append ls (l ∷ []), so_far.2),
      omega (arith, below),
    )

-- the count and the lines
counted_lines : (count : ℕ) (ls : List Line) (text first now : TextLines) (done : ℕ) → PassesLine (codes "lines" ␣ numeral count) text first → count ≤ most_lines → LinesSoFar count ls first now done → PassesLines (derivation_lines count ls) text now
counted_lines count ls text first now done counted few so_far =
    let short : IsShort count = omega (arith, few) in
    both_passed ((codes "lines" ␣ decimal count) ∷ []) (map line_words ls) text first now (one_passed (codes "lines" ␣ decimal count) text first (subst (λ t. PassesLine (codes "lines" ␣ t) text first) (sym (short_decimal count short)) counted)) so_far.0

pub derivation_passed : (count : ℕ) (ls : List Line) (text first now : TextLines) {done : ℕ} → PassesLine (codes "lines" ␣ numeral count) text first → count ≤ most_lines → LinesSoFar count ls first now done → length ls ≡ count → PassesLines (derivation_lines (length ls) ls) text now × AreDerivation ls
derivation_passed count ls text first now {done} counted few so_far whole =
    (subst (λ n. PassesLines (derivation_lines n ls) text now) (sym whole) (counted_lines count ls text first now done counted few so_far), (so_far.1, omega (arith, few, whole)))

pub derivation_fault : (count : ℕ) (ls : List Line) (text first now : TextLines) (r : TextRefusal) {done : ℕ} → PassesLine (codes "lines" ␣ numeral count) text first → count ≤ most_lines → LinesSoFar count ls first now done → length ls < count → IsNextFault (IsOther line_wording) now.left.now now.number r → IsFaultOfDerivation text.left.now text.number r
derivation_fault count ls text first now r {done} counted few so_far left fault =
    inr (count, ls, so_far.1, left, few, next_behind (IsOther line_wording) (derivation_lines count ls) text now r (counted_lines count ls text first now done counted few so_far) fault)
