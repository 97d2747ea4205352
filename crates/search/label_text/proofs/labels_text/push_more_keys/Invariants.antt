use Rattle.std.proofs.Common.{◌≡◌, ◌++◌, codes, flat_map, take}
use Rattle.certificate_text.specs.CertificateText.{key_text}
use Rattle.certificate_text.specs.Readable.{AreShortKeys}
use Rattle.label_text.proofs.labels_text.push_more_keys.Given as goal

-- those before the key are added
abbrev pub invariant-loop-key : goal.invariant-loop-key
invariant-loop-key l = (l.text.items ≡ l.fn.text.items ++ flat_map (λ k. codes "," ++ key_text k) (take l.key-index l.more)) × AreShortKeys (take l.key-index l.more)
