use Rattle.std.proofs.Common.{◌≡◌, ap, sym, ◌∙◌, ◌+◌, [], ◌∷◌, ◌++◌, map, List, arith}
use Rattle.std.specs.List.{range_with_len}
use Rattle.std.proofs.lemmas.List.Sums.{fold-append}
use mathlib.Core.List.{map-map}
use Rattle.values.specs.Cells.{value_of}
use Rattle.values.specs.declared.truth.Comparison.TheVariants as by
use Rattle.values.specs.declared.truth.Truth.{Truth}
use Rattle.values.specs.declared.truth.Truth.TheVariants.{True, False}
use Rattle.values.specs.Truth.{compare, disjunction}
use Rattle.query.specs.Meaning.{any_of}
use Rattle.query.proofs.Obeys.{is_true-True}
use Rattle.algebra.specs.Bags.{Env}
use Rattle.relations.specs.Relations.{env_of, numbered_env}
use Rattle.relations.proofs.Numbers.{map_number}
use Rattle.relations.proofs.Settled.{any-settled}
use Rattle.relations.proofs.truth.equals_some.Goals as goal

pub loop-number-preserved : goal.loop-number-preserved
loop-number-preserved c =
    let n = c.loop-number.number in
    let row = numbered_env c.args.relation.now (env_of c.args.env.now) in
    let same : Env → Truth = λ s. compare by.Equal (value_of c.args.cell) (s c.args.column) in
    let done : List Truth = map same (map row (range_with_len 0 n)) in
    c.or-any.ensures
    ∙ ap (λ (a : Truth). disjunction a c.equals_at-here.result) c.loop-number.invariant
    ∙ ap (disjunction (any_of done)) c.equals_at-here.ensures
    ∙ sym (ap any_of (map-map same row (range_with_len 0 (n + 1)) ∙ map_number (λ m. same (row m)) n ∙ ap (λ l. l ++ same (row n) ∷ []) (sym (map-map same row (range_with_len 0 n))))
    ∙ fold-append disjunction False done (same (row n) ∷ []))

pub returns-then-is_true : goal.returns-then-is_true
returns-then-is_true c =
    let n = c.loop-number.number in
    let row = numbered_env c.args.relation.now (env_of c.args.env.now) in
    let same : Env → Truth = λ s. compare by.Equal (value_of c.args.cell) (s c.args.column) in
    let here : same (row n) ≡ True = sym c.equals_at-here.ensures ∙ is_true-True c.equals_at-here.result (sym c.is_true.ensures ∙ c.if-is_true.true) in
    sym (ap any_of (map-map same row (range_with_len 0 c.args.relation.now.rows.count)) ∙ any-settled (λ m. same (row m)) c.args.relation.now.rows.count n (omega arith) here)
