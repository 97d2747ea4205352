-- The codes by which the program reports a fault of a certificate's text.
use Rattle.std.specs.Prelude.{ℕ, List, codes}
use Rattle.certificate_text.specs.declared.fault.TextReason.{TextReason}
use Rattle.certificate_text.specs.declared.fault.TextReason.TheVariants.{OtherVersion, OtherForm, OutOfRange, BrokenOff, OverLimit}

abbrev pub code_of : TextReason → List ℕ
code_of OtherVersion = codes "C01"
code_of OtherForm = codes "C02"
code_of OutOfRange = codes "C03"
code_of BrokenOff = codes "C04"
code_of OverLimit = codes "C05"
