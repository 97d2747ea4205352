use Rattle.std.proofs.Common.{◌≡◌, ◌++◌, codes, flat_map, take}
use Rattle.std.specs.List.{AllByRecursion}
use Rattle.certificate_text.specs.Spelled.{IsShortAggregation}
use Rattle.certificate_text.specs.CertificateText as spec
use Rattle.certificate_text.proofs.parts.push_more_aggregations.Given as goal

abbrev pub invariant-loop-added : goal.invariant-loop-added
invariant-loop-added l = (l.text.items ≡ l.fn.text.items ++ flat_map (λ x. codes "," ++ spec.aggregation_text x) (take l.added-index l.more)) × AllByRecursion IsShortAggregation (take l.added-index l.more)
