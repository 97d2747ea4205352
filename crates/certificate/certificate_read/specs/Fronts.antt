-- Texts that begin with that of a certificate.
use Rattle.std.specs.Prelude.{◌≡◌, ℕ, ◌+◌, length, ◌++◌, Ok}
use Rattle.certificate.specs.declared.certificate.Certificate.{Certificate}
use Rattle.certificate_text.specs.CertificateText.{Text, node_count}
use Rattle.certificate_text.specs.Limits.{written}

-- the bytes are the text of the certificate, which is within the limits, and then the rest
abbrev pub IsFront : Certificate → Text → Text → Type 0
IsFront c rest bytes = (text : Text) × (written c ≡ Ok text) × (bytes ≡ text ++ rest)

-- the lines of a certificate's text: its derivation's and its plan's, and the version, two counts and the end
abbrev pub line_count : Certificate → ℕ
line_count c = length c.lines + node_count c.plan + 4
