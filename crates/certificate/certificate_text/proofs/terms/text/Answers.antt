use Rattle.std.proofs.Common.{◌≡◌, ◌∙◌, sym, ap, subst, List, ℕ, Vec, Global}
use Rattle.std.proofs.lemmas.Bool.{false≢true}
use Rattle.std.proofs.lemmas.Str.{IsUtf8-string_bytes}
use Rattle.std.specs.Prelude.{IsUtf8}
use Rattle.hex.specs.Hex.{encode_lower}
use Rattle.certificate_text.specs.Parts.{ReadsAny}
use Rattle.certificate_text.specs.Spelled.{SpellsText}
use Rattle.certificate_text.proofs.Exits.{holds_of_fault}
use Rattle.certificate_text.proofs.TermParts.{bytes_alone, bytes_fault}
use Rattle.certificate_text.proofs.terms.text.Goals as goal

pub returns-in_err-bytes : goal.returns-in_err-bytes
returns-in_err-bytes c =
    holds_of_fault (ReadsAny SpellsText c.args.digits.now (λ (t : List ℕ). t)) c.from_residual.result c.in_err-bytes.field-0.0 c.from_residual.ensures.1
    (bytes_fault c.args.digits.now (λ (v : Vec ℕ Global). v.items) (λ (t : List ℕ). t) c.in_err-bytes.field-0.0 c.in_err-bytes.ensures)

pub returns-in-Ok : goal.returns-in-Ok
returns-in-Ok c = (
  subst (λ t. c.args.digits.now ≡ encode_lower t) (sym (c.new.ensures ∙ ap (λ (v : Vec ℕ Global). v.items) c.in-Ok.ensures.ok)) c.in_ok-bytes.ensures.0,
  subst IsUtf8 (sym c.new.ensures) (IsUtf8-string_bytes c.in-Ok.text),
)

pub returns : goal.returns
returns c = rw c.into.ensures (bytes_alone c.args.digits.now c.in_ok-bytes.field-0.items c.in_ok-bytes.ensures (λ u. false≢true (c.in-Err.ensures.succeeds u)))
