use Rattle.std.proofs.Common.{◌≡◌, ◌<◌, ◌++◌, ◌^◌, subst, List, ℕ, [], ◌∷◌, length, Option, None, Some, MatchOption, append-nil, arith}
use Rattle.std.proofs.lemmas.Result.{IfOk-weaker}
use Rattle.algebra.specs.Columns.{rising}
use Rattle.algebra.specs.Bags.{Env, distinct, group, nulls}
use Rattle.algebra.specs.Expressions.{aggregate_columns, with_aggregates}
use Rattle.relations.specs.declared.relation.Relation.{Relation}
use Rattle.relations.specs.Relations.{IsOutput}
use Rattle.selections.specs.RowChunks.{chunks_to_come}
use Rattle.grouping.proofs.Readable.{none-readable}
use Rattle.grouping.proofs.chunked.distinct_in_chunks.Goals as goal

-- groups without aggregates are distinct rows
as-distinct : (P : Type 0) (o : Option Relation) (K : List ℕ) (X : List Env) → 0 < length K → MatchOption o P (IsOutput (rising (K ++ aggregate_columns [])) (group K (with_aggregates []) (λ e. X) nulls) nulls)
    → MatchOption o P (IsOutput (rising K) (distinct K (λ e. X) nulls) nulls)
as-distinct P None K X some given = given
as-distinct P (Some r) [] X some given = absurd (omega (arith, some))
as-distinct P (Some r) (k ∷ K) X some given = subst (λ L. IsOutput (rising L) (distinct (k ∷ K) (λ e. X) nulls) nulls r) (append-nil (k ∷ K)) given

pub grouped_in_chunks-requires : goal.grouped_in_chunks-requires
grouped_in_chunks-requires c = none-readable (chunks_to_come c.args.chunks)

pub returns : goal.returns
returns c =
    let K = c.args.columns.now in
    let X = chunks_to_come c.args.chunks in
    IfOk-weaker c.grouped_in_chunks.result (λ o. MatchOption o (2 ^ 62 < length X) (IsOutput (rising (K ++ aggregate_columns [])) (group K (with_aggregates []) (λ e. X) nulls) nulls)) (λ o. MatchOption o (2 ^ 62 < length X) (IsOutput (rising K) (distinct K (λ e. X) nulls) nulls))
    (λ o is. as-distinct (2 ^ 62 < length X) o K X c.requires is) c.grouped_in_chunks.ensures
