use Rattle.std.proofs.Common.{◌≡◌, ℕ, ◌+◌, List, reverse}
use Rattle.logs.specs.Members.{IsChain, adding}
use Rattle.logs.specs.Sets.{times}
use Rattle.logs.proofs.class_lines.push_lines.Given as goal

abbrev pub invariant-loop-line : goal.invariant-loop-line
invariant-loop-line l = record {
  rest : List ℕ;
  chain : IsChain l.additions.earlier.items l.class l.line rest;
  so_far : (n : ℕ) → times n l.found.items + times n rest ≡ times n l.fn.found.items + times n (adding l.class (reverse l.lines));
}

abbrev pub decreases-loop-line : goal.decreases-loop-line
decreases-loop-line l = l.line
