-- What holds of the first fault of a text.
use Rattle.std.specs.Prelude.{◌≡◌}
use Rattle.certificate_text.specs.declared.fault.TextRefusal.{TextRefusal}
use Rattle.certificate_text.specs.CertificateText.{Text}
use Rattle.certificate_read.specs.TextFaults.{IsFirstFault}

-- a text is refused at one line alone, and for one reason
abbrev pub FaultsAreOne : Type 0
FaultsAreOne = (text : Text) (r s : TextRefusal) → IsFirstFault text r → IsFirstFault text s → r ≡ s
