-- The lines of labels, as far as they are read.
use Rattle.std.proofs.Common.{◌≡◌, refl, sym, subst, arith, ℕ, ◌+◌, ◌<◌, ◌≤◌, inr, List, [], ◌∷◌, ◌++◌, length, map, length-append, codes, decimal}
use Rattle.std.proofs.lemmas.List.{map-append}
use Rattle.std.specs.List.{AllByRecursion}
use Rattle.values.proofs.Lists.{all_append}
use Rattle.certificate_text.proofs.DecimalNumerals.{short_decimal}
use Rattle.certificate_text.specs.Numerals.{numeral}
use Rattle.certificate_text.specs.Parts.{IsShort}
use Rattle.certificate_text.specs.CertificateText.{◌␣◌}
use Rattle.certificate_text.specs.declared.fault.TextRefusal.{TextRefusal}
use Rattle.certificate_read.specs.declared.text_lines.TextLines.{TextLines}
use Rattle.certificate_read.specs.TextCalls.{PassesLine, PassesLines}
use Rattle.certificate_read.specs.TextFaults.{IsNextFault, IsOther}
use Rattle.certificate_read.proofs.TextSteps.{both_passed, next_behind, none_passed, one_passed}
use Rattle.labels.specs.declared.goal.Label.{Label}
use Rattle.label_text.specs.LabelReading.{AreLabels, IsFaultOfLabels, label_lines, label_wording}
use Rattle.label_text.specs.LabelText.{IsReadableLabel, label_words, most_labels}

-- so many of the labels that are counted
abbrev pub LabelsSoFar : ℕ → List Label → TextLines → TextLines → ℕ → Type 0
LabelsSoFar count ls first now done = PassesLines (map label_words ls) first now × AllByRecursion IsReadableLabel ls × (length ls ≡ done) × (done ≤ count)

pub no_labels : (text : TextLines) (count : ℕ) (ls : List Label) → ls ≡ [] → LabelsSoFar count ls text text 0
no_labels text count ls e = subst (λ ls. LabelsSoFar count ls text text 0) (sym e) (none_passed text, tt, refl, omega arith)

pub label_more : (first now next : TextLines) (ls grown : List Label) (l : Label) (count done : ℕ) → LabelsSoFar count ls first now done → done < count → PassesLine (label_words l) now next × IsReadableLabel l → grown ≡ ls ++ (l ∷ []) → LabelsSoFar count grown first next (done + 1)
label_more first now next ls grown l count done so_far below read is =
    subst (λ ls. LabelsSoFar count ls first next (done + 1)) (sym is) (
      subst (λ ws. PassesLines ws first next) (sym (map-append label_words ls (l ∷ []))) (both_passed (map label_words ls) (label_words l ∷ []) first now next so_far.0 (one_passed (label_words l) now next read.0)),
      all_append IsReadableLabel ls (l ∷ []) so_far.1 (read.1, tt),
      omega (arith, length-append ls (l ∷ []), so_far.2),
      omega (arith, below),
    )

-- the count and the labels
counted_labels : (count : ℕ) (ls : List Label) (text first now : TextLines) (done : ℕ) → PassesLine (codes "labels" ␣ numeral count) text first → count ≤ most_labels → LabelsSoFar count ls first now done → PassesLines (label_lines count ls) text now
counted_labels count ls text first now done counted few so_far =
    let short : IsShort count = omega (arith, few) in
    both_passed ((codes "labels" ␣ decimal count) ∷ []) (map label_words ls) text first now (one_passed (codes "labels" ␣ decimal count) text first (subst (λ t. PassesLine (codes "labels" ␣ t) text first) (sym (short_decimal count short)) counted)) so_far.0

pub labels_passed : (count : ℕ) (ls : List Label) (text first now : TextLines) {done : ℕ} → PassesLine (codes "labels" ␣ numeral count) text first → count ≤ most_labels → LabelsSoFar count ls first now done → length ls ≡ count → PassesLines (label_lines (length ls) ls) text now × AreLabels ls
labels_passed count ls text first now {done} counted few so_far whole =
    (subst (λ n. PassesLines (label_lines n ls) text now) (sym whole) (counted_labels count ls text first now done counted few so_far), (so_far.1, omega (arith, few, whole)))

pub labels_fault : (count : ℕ) (ls : List Label) (text first now : TextLines) (r : TextRefusal) {done : ℕ} → PassesLine (codes "labels" ␣ numeral count) text first → count ≤ most_labels → LabelsSoFar count ls first now done → length ls < count → IsNextFault (IsOther label_wording) now.left.now now.number r → IsFaultOfLabels text.left.now text.number r
labels_fault count ls text first now r {done} counted few so_far left fault =
    inr (count, ls, so_far.1, left, few, next_behind (IsOther label_wording) (label_lines count ls) text now r (counted_labels count ls text first now done counted few so_far) fault)
