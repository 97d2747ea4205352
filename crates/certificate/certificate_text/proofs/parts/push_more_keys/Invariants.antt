use Rattle.std.proofs.Common.{◌≡◌, ◌++◌, codes, flat_map, take}
use Rattle.certificate_text.specs.CertificateText as spec
use Rattle.certificate_text.specs.Readable.{AreShortKeys}
use Rattle.certificate_text.proofs.parts.push_more_keys.Given as goal

abbrev pub invariant-loop-key : goal.invariant-loop-key
invariant-loop-key l = (l.text.items ≡ l.fn.text.items ++ flat_map (λ x. codes "," ++ spec.key_text x) (take l.key-index l.more)) × AreShortKeys (take l.key-index l.more)
