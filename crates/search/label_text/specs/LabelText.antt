-- The text of a certificate and of labels: the certificate's, and behind it how many labels there are, a line for each, and the end.
use Rattle.std.specs.Prelude.{ℕ, ◌+◌, ◌<◌, ◌^◌, ◌==◌, nat_le, if◌then◌else◌, List, ◌++◌, length, flat_map, codes, decimal, count_by, Result, Ok, Err}
use Rattle.values.specs.Faults.{◌>>=◌}
use Rattle.certificate.specs.declared.certificate.Certificate.{Certificate}
use Rattle.certificate_text.specs.declared.fault.TextRefusal.{TextRefusal}
use Rattle.certificate_text.specs.CertificateText.{Text, ◌␣◌, ended, keys_text}
use Rattle.certificate_text.specs.Limits.{over_limit, written}
use Rattle.certificate_text.specs.Parts.{IsShort}
use Rattle.certificate_text.specs.Readable.{AreShortKeys}
use Rattle.labels.specs.declared.goal.Label.{Label}

-- the class, the order of its rows, and the cost
abbrev pub label_words : Label → Text
label_words l = decimal l.goal.class ␣ keys_text l.goal.order ␣ decimal l.cost

abbrev pub label_text : Label → Text
label_text l = ended (label_words l)

abbrev pub labels_text : List Label → Text
labels_text labels = ended (codes "labels" ␣ decimal (length labels)) ++ (flat_map label_text labels ++ ended (codes "end"))

-- ---- limits

abbrev pub most_labels : ℕ
most_labels = 3200000

-- the number of the line behind a text, from 1
abbrev pub line_behind : Text → ℕ
line_behind text = count_by (λ b. b == 10) text + 1

-- as many labels as may be, on the lines behind a text; else the line with their count is over the limit
abbrev pub with_labels : List Label → Text → Result Text TextRefusal
with_labels labels text = if nat_le (length labels) most_labels then Ok (text ++ labels_text labels) else Err (over_limit (line_behind text))

-- the text of a certificate and labels within the limits; else the first line over one
abbrev pub least_text : Certificate → List Label → Result Text TextRefusal
least_text c labels = written c >>= with_labels labels

-- ---- labels that can be read

-- a cost is within 64 bits
abbrev pub IsCost : ℕ → Type 0
IsCost n = n < 2 ^ 64

-- its numbers are in their ranges
abbrev pub IsReadableLabel : Label → Type 0
IsReadableLabel l = IsShort l.goal.class × AreShortKeys l.goal.order × IsCost l.cost
