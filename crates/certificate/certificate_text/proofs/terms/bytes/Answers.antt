use Rattle.std.proofs.Common.{◌∙◌, sym, ap}
use Rattle.std.proofs.lemmas.Bool.{false≢true}
use Rattle.std.specs.List.{list_all}
use Rattle.certificate_text.specs.Spelled.{is_lower_hex}
use Rattle.certificate_text.proofs.TermParts.{bytes_read, bytes_lower, decode_fails}
use Rattle.certificate_text.proofs.terms.bytes.Goals as goal

pub returns-then-not-are_lower_hex : goal.returns-then-not-are_lower_hex
returns-then-not-are_lower_hex c = rw c.into.ensures (λ t s. false≢true (sym c.if-not-are_lower_hex.true ∙ c.are_lower_hex.ensures ∙ ap (list_all is_lower_hex) c.as_bytes.ensures.value ∙ bytes_lower c.args.digits.now t s))

pub returns-in-Ok : goal.returns-in-Ok
returns-in-Ok c = bytes_read c.args.digits.now c.in-Ok.bytes.items (sym (ap (list_all is_lower_hex) c.as_bytes.ensures.value) ∙ sym c.are_lower_hex.ensures ∙ c.if-not-are_lower_hex.false) c.in-Ok.ensures.ok

pub returns-in_default : goal.returns-in_default
returns-in_default c = rw c.into-in_default.ensures (λ t s. decode_fails c.args.digits.now t c.in-Err.error s c.in_default.not-OutOfMemory c.in-Err.ensures.err)
