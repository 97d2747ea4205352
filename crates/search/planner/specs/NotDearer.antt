-- What a certificate's plan costs, and when that is no more than the canonical one does.
use Rattle.std.specs.Prelude.{◌≡◌, ◌≤◌, ℕ, reverse, Ok}
use Rattle.query.specs.declared.query.Query.{Query}
use Rattle.statistics.specs.declared.counts.Statistics.{Statistics}
use Rattle.costs.specs.Costs.{plan_cost}
use Rattle.certificate.specs.declared.certificate.Certificate.{Certificate}
use Rattle.certificate.specs.Replay.{replayed}
use Rattle.planner.specs.Canonical.{IsCanonical}

-- what its plan is estimated to cost, over its own lines
abbrev pub certificate_cost : Statistics → Query → Certificate → ℕ
certificate_cost s q V = plan_cost s q.tables (reverse V.lines) V.plan

-- the certificate's plan costs no more than that of the other, by what is estimated over the certificate's own lines
abbrev pub IsAsCheap : Statistics → Query → Certificate → Certificate → Type 0
IsAsCheap s q V W = certificate_cost s q V ≤ plan_cost s q.tables (reverse V.lines) W.plan

-- nor than the canonical one's
abbrev pub IsNotDearer : Statistics → Query → Certificate → Type 0
IsNotDearer s q V = (W : Certificate) → IsCanonical q W → replayed q W ≡ Ok W → IsAsCheap s q V W
