-- A whole text: a certificate's, and that of labels behind it.
use Rattle.std.proofs.Common.{◌≡◌, refl, sym, ap, ◌∙◌, ◌≤◌, Bool, true, false, nat_le, if◌then◌else◌, List, [], ◌∷◌, ◌++◌, length, map, flat_map, append_assoc, codes, decimal, Result, Ok, Err}
use Rattle.std.proofs.lemmas.Bool.{leb-true, le-leb}
use Rattle.values.specs.Faults.{◌>>=◌}
use Rattle.certificate.specs.declared.certificate.Certificate.{Certificate}
use Rattle.certificate_text.proofs.Exits.{not_both, same_ok}
use Rattle.certificate_text.specs.declared.fault.TextRefusal.{TextRefusal}
use Rattle.certificate_text.specs.CertificateText.{Text, ◌␣◌, ended}
use Rattle.certificate_text.specs.Limits.{over_limit, written}
use Rattle.certificate_read.specs.declared.text_lines.TextLines.{TextLines}
use Rattle.certificate_read.specs.TextCalls.{PassesLines}
use Rattle.certificate_read.specs.Fronts.{IsFront}
use Rattle.labels.specs.declared.goal.Label.{Label}
use Rattle.label_text.specs.LabelReading.{AreLabels, label_lines}
use Rattle.label_text.specs.LabelText.{label_text, label_words, labels_text, least_text, line_behind, most_labels, with_labels}

lines-text : (ls : List Label) → flat_map ended (map label_words ls) ≡ flat_map label_text ls
lines-text [] = refl
lines-text (l ∷ ls) = ap (λ t. label_text l ++ t) (lines-text ls)

-- labels that are passed, and the end behind them, have their text
pub labels_end : (old new : TextLines) (ls : List Label) → PassesLines (label_lines (length ls) ls) old new × AreLabels ls → new.left.now ≡ ended (codes "end") → old.left.now ≡ labels_text ls
labels_end old new ls passed end =
    passed.0.0 ∙ append_assoc (ended (codes "labels" ␣ decimal (length ls))) (flat_map ended (map label_words ls)) new.left.now
    ∙ (λ i. ended (codes "labels" ␣ decimal (length ls)) ++ (lines-text ls i ++ end i))

-- the text is a certificate's and that of labels
pub whole_read : (c : Certificate) (ls : List Label) (rest bytes : Text) → IsFront c rest bytes → rest ≡ labels_text ls → length ls ≤ most_labels → least_text c ls ≡ Ok bytes
whole_read c ls rest bytes front is few =
    ap (λ r. r >>= with_labels ls) front.1 ∙ ap (λ b. if b then Ok (front.0 ++ labels_text ls) else Err (over_limit (line_behind front.0))) (le-leb (length ls) most_labels few)
    ∙ ap (λ t. Ok t) (ap (λ t. front.0 ++ t) (sym is) ∙ sym front.2)

abbrev IsWhole : Certificate → List Label → Text → Type 0
IsWhole c ls bytes = IsFront c (labels_text ls) bytes × (length ls ≤ most_labels)

-- a text of both begins with the certificate's, and has few labels
pub whole_parts : (c : Certificate) (ls : List Label) (bytes : Text) → least_text c ls ≡ Ok bytes → IsWhole c ls bytes
whole_parts c ls bytes e = by (written c) refl e where
  few : (text : Text) (b : Bool) → nat_le (length ls) most_labels ≡ b → written c ≡ Ok text → (if b then Ok (text ++ labels_text ls) else Err (over_limit (line_behind text))) ≡ Ok bytes → IsWhole c ls bytes
  few text true le is whole = ((text, is, same_ok (Ok bytes) bytes (text ++ labels_text ls) refl (sym whole)), leb-true (length ls) most_labels le)
  few text false le is whole = absurd (not_both (Err (over_limit (line_behind text))) (over_limit (line_behind text)) bytes refl whole)

  by : (r : Result Text TextRefusal) → written c ≡ r → (r >>= with_labels ls) ≡ Ok bytes → IsWhole c ls bytes
  by (Err fault) is whole = absurd (not_both (Err fault) fault bytes refl whole)
  by (Ok text) is whole = few text (nat_le (length ls) most_labels) refl is whole
