use Rattle.std.proofs.Common.{◌≡◌, refl, ap, ◌∙◌, ℕ, zero, suc, List, not, nat_lt, map, arith}
use Rattle.std.proofs.lemmas.Bool.{lt-ltb}
use Rattle.std.specs.List.{range_with_len}
use Rattle.algebra.specs.Bags.{Env}
use Rattle.algebra.specs.Conditions.{is_empty}
use Rattle.relations.specs.Relations.{numbered_env}
use Rattle.relations.proofs.subqueries.Subqueries.has_row.Goals as goal

some-row : (row : ℕ → Env) (n : ℕ) → nat_lt 0 n ≡ not (is_empty (map row (range_with_len 0 n)))
some-row row zero = refl
some-row row (suc n) = lt-ltb 0 (suc n) (omega arith)

pub returns-in-Some : goal.returns-in-Some
returns-in-Some c = λ e. some-row (numbered_env c.in-Some.relation.now e) c.in-Some.relation.now.rows.count ∙ ap (λ (rows : List Env). not (is_empty rows)) (c.in-Some.ensures e)
