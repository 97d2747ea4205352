-- The line of a label is told by its words, and is read back.
use Rattle.std.proofs.Common.{◌≡◌, refl, sym, ap, subst, ◌∙◌, Result}
use Rattle.certificate_text.specs.CertificateText.{Text}
use Rattle.certificate_read.specs.declared.line_fault.LineFault.{LineFault}
use Rattle.certificate_read.specs.TextReading.{IsLine}
use Rattle.certificate_read.specs.WordReading.{UnlessMemory, words_in}
use Rattle.certificate_read.specs.Wordings.{ReadsLine}
use Rattle.certificate_read.proofs.KeyTexts.{keys_told}
use Rattle.certificate_read.proofs.LineTexts.{IsPart, both_parts, keys_part, number_part, part_cut, part_line}
use Rattle.certificate_read.proofs.ReadBack.{text_of}
use Rattle.certificate_read.proofs.WordLaws.{number_told}
use Rattle.certificate_read.proofs.Wordings.{AreTold, both_told, parts_told, read_back}
use Rattle.labels.specs.declared.goal.Label.{Label}
use Rattle.label_text.specs.LabelReading.{LabelParts, label_parts, label_wording}
use Rattle.label_text.specs.LabelText.{IsReadableLabel, label_words}
use Rattle.label_text.proofs.CostWords.{cost_part, cost_told}

abbrev pub label_from : LabelParts → Label
label_from p = record { goal = record { class = p.0; order = p.1.0 }; cost = p.1.1 }

pub label_told : AreTold label_wording
label_told = parts_told label_parts label_from (λ l. refl) (both_told number_told (both_told keys_told cost_told))

label_part : (l : Label) → IsReadableLabel l → IsPart (label_words l) (label_wording.words l)
label_part l h = both_parts _ _ _ _ (number_part l.goal.class h.0) (both_parts _ _ _ _ (keys_part l.goal.order h.1) (cost_part l.cost h.2))

pub label_line : (l : Label) → IsReadableLabel l → IsLine (label_words l)
label_line l h = part_line (label_words l) (label_wording.words l) (label_part l h)

-- a label that can be read is read as it
pub label_back : (l : Label) (text : Text) (result : Result Label LineFault) → IsReadableLabel l → text ≡ label_words l → ReadsLine label_wording (λ l. l) (words_in text) result → UnlessMemory (λ read. read ≡ l) result
label_back l text result h e reads =
    read_back label_wording (λ l. l) label_told l (words_in text) result (tt, (tt, tt)) (h.0, (h.1, h.2)) (ap words_in e ∙ part_cut (label_words l) (label_wording.words l) (label_part l h)) reads

-- what is read is the label's line
pub label_read_back : (text : Text) (v x : Label) → words_in text ≡ label_wording.words x → label_wording.IsInRange x → v ≡ x → (text ≡ label_words v) × IsReadableLabel v
label_read_back text v x e in_range same =
    let can : IsReadableLabel x = (in_range.0, in_range.1.0, in_range.1.1) in
    subst (λ l. (text ≡ label_words l) × IsReadableLabel l) (sym same) (text_of text (label_words x) (label_wording.words x) e (label_part x can), can)
