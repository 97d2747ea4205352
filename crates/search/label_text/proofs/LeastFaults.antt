-- Faults of a text, those of the certificate's or behind it.
use Rattle.std.proofs.Common.{◌≡◌, sym, ap, subst, inl, inr, Bool, true, false, List, length, Err}
use Rattle.std.proofs.lemmas.Bool.{false≢true}
use Rattle.values.specs.declared.fault.Fault.{Fault}
use Rattle.values.specs.declared.fault.Fault.TheVariants.{Memory, Refused}
use Rattle.certificate.specs.declared.certificate.Certificate.{Certificate}
use Rattle.certificate_text.specs.declared.fault.TextRefusal.{TextRefusal}
use Rattle.certificate_text.specs.CertificateText.{Text}
use Rattle.certificate_text.specs.Readable.{IsReadableCertificate}
use Rattle.certificate_read.specs.declared.text_lines.TextLines.{TextLines}
use Rattle.certificate_read.specs.Fronts.{IsFront, line_count}
use Rattle.certificate_read.specs.TextCalls.{Ends, PassesLines, RefusesFrom, RefusesText}
use Rattle.certificate_read.specs.TextFaults.{IsFaultOfEnd}
use Rattle.labels.specs.declared.goal.Label.{Label}
use Rattle.label_text.specs.LabelReading.{AreLabels, IsFaultOfLabels, IsFaultToEnd, RefusesLeast, label_lines}

is_refusal : Fault TextRefusal → Bool
is_refusal Memory = false
is_refusal (Refused r) = true

-- the certificate isn't read
pub front_unread : (bytes : Text) (fault : Fault TextRefusal) → RefusesText bytes fault → ((c : Certificate) (rest : Text) → IsReadableCertificate c → IsFront c rest bytes → fault ≡ Memory) → RefusesLeast bytes fault
unfolding is_refusal
front_unread bytes Memory h read = tt
front_unread bytes (Refused r) h read = inl (h, λ c rest can front. false≢true (sym (ap is_refusal (read c rest can front))))

-- it is read, and the text behind it isn't
module _ (c : Certificate) (rest bytes : Text) (front : IsFront c rest bytes) (text : TextLines) (left : text.left.now ≡ rest) (number : text.number ≡ line_count c) where
  behind : (r : TextRefusal) → IsFaultToEnd text.left.now text.number r → RefusesLeast bytes (Refused r)
  behind r h = inr (c, rest, front, subst (λ t. IsFaultToEnd t (line_count c) r) left (subst (λ n. IsFaultToEnd text.left.now n r) number h))

  pub labels_unread : (fault : Fault TextRefusal) → RefusesFrom IsFaultOfLabels text fault → RefusesLeast bytes fault
  labels_unread Memory h = tt
  labels_unread (Refused r) h = behind r (inl h)

  pub end_unread : (ls : List Label) (new : TextLines) → PassesLines (label_lines (length ls) ls) text new × AreLabels ls → (fault : Fault TextRefusal) → Ends new (Err fault) → RefusesLeast bytes fault
  end_unread ls new passed Memory h = tt
  end_unread ls new passed (Refused r) h = behind r (inr (ls, passed.1, (new.left.now, passed.0.0, subst (λ n. IsFaultOfEnd new.left.now n r) passed.0.1 h)))
