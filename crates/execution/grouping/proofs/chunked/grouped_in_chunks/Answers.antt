use Rattle.std.proofs.Common.{◌≡◌, refl, ap, subst, ◌∙◌, ◌<◌, ◌++◌, ◌^◌, ℕ, List, [], ◌∷◌, get_or, length, map, MatchOption, Ok, arith}
use Rattle.std.specs.List.{range_with_len}
use mathlib.Core.List.{map-id}
use Rattle.algebra.specs.Columns.{has, rising}
use Rattle.algebra.specs.Bags.{Bag, Env, group, lay, nulls}
use Rattle.algebra.specs.Expressions.{with_aggregates}
use Rattle.selections.specs.RowChunks.{chunks_to_come}
use Rattle.joins.proofs.Outputs.{restated}
use Rattle.relations.proofs.Numbers.{by-number}
use Rattle.grouping.specs.declared.groups.Grouping.{Grouping}
use Rattle.grouping.specs.Groups.{row_group_envs}
use Rattle.grouping.specs.GroupTables.{HasGroups, groups_seen, row_key, same_key}
use Rattle.grouping.specs.Totals.{AreTotals}
use Rattle.grouping.proofs.GroupEnvs.{group-laid, no-keys, numbered-groups, same-values}
use Rattle.grouping.proofs.chunked.grouped_in_chunks.Goals as goal

all-rows : (all : List Env) → map (λ n. get_or all n nulls) (range_with_len 0 (length all)) ≡ all
all-rows all = by-number (λ (e : Env). e) all nulls ∙ map-id all

-- the groups of all rows
all-groups : (g : Grouping) (all : List Env) (count : ℕ) → count ≡ length all → 0 < length g.keys.now
    → row_group_envs g (λ n. get_or all n nulls) nulls (groups_seen (row_key (λ n. get_or all n nulls) g.keys.now) count) ≡ group g.keys.now (with_aggregates g.added.now) (λ e. all) nulls
all-groups g all count many some =
    let row : ℕ → Env = λ n. get_or all n nulls in
    numbered-groups g row (same_key (row_key row g.keys.now)) (range_with_len 0 count) (λ e. all) nulls (λ m n. same-values (row m) (row n) g.keys.now) (ap (λ n. map row (range_with_len 0 n)) many ∙ all-rows all) some

pub totals_of-requires : goal.totals_of-requires
totals_of-requires c = (refl, c.requires)

pub table_of-requires : goal.table_of-requires
table_of-requires c = (refl, c.requires)

pub row-requires : goal.row-requires
row-requires c =
    let all = chunks_to_come c.args.chunks in
    (all, subst (λ o. MatchOption o (2 ^ 62 < length all) (AreTotals c.args.added.now all)) c.in-Some.is c.in_ok-totals.ensures)

pub rows-requires : goal.rows-requires
rows-requires c =
    let all = chunks_to_come c.args.chunks in
    let row : ℕ → Env = λ n. get_or all n nulls in
    (row, (subst (λ o. MatchOption o (2 ^ 62 < length all) (λ t. HasGroups c.args.keys.now c.args.added.now row t × (t.count ≡ length all))) c.in-Some-2.is c.in_ok-table.ensures).0)

pub returns-then-as_slice-eq0 : goal.returns-then-as_slice-eq0
returns-then-as_slice-eq0 c =
    let K = c.args.keys.now in
    let A = c.args.added.now in
    let all = chunks_to_come c.args.chunks in
    let x : Bag = λ e. all in
    let totals : AreTotals A all c.in-Some.totals = subst (λ o. MatchOption o (2 ^ 62 < length all) (AreTotals A all)) c.in-Some.is c.in_ok-totals.ensures in
    restated {E = Unit {0}} (Ok c.in_ok-row.row) _ _ _ _ nulls c.in_ok-columns.ensures
    (ap (λ (L : List ℕ). map (λ f. lay (has L) f nulls) (with_aggregates A all nulls ∷ [])) c.in_ok-columns.ensures
    ∙ ap (map (λ f. lay (has (rising (K ++ _))) f nulls)) (no-keys K (with_aggregates A) x nulls (omega (arith, c.if-as_slice-eq0.true, ap length c.as_slice.ensures.columns))) ∙ group-laid K A x nulls)
    (c.in_ok-row.ensures all totals)

pub returns : goal.returns
returns c =
    let K = c.args.keys.now in
    let A = c.args.added.now in
    let all = chunks_to_come c.args.chunks in
    let x : Bag = λ e. all in
    let row : ℕ → Env = λ n. get_or all n nulls in
    let so = subst (λ o. MatchOption o (2 ^ 62 < length all) (λ t. HasGroups K A row t × (t.count ≡ length all))) c.in-Some-2.is c.in_ok-table.ensures in
    let g : Grouping = record { keys = c.args.keys; added = c.args.added } in
    restated {E = Unit {0}} (Ok c.in_ok-rows.rows) _ _ _ _ nulls c.in_ok-columns.ensures
    (ap (map (λ f. lay (has c.in_ok-columns.columns) f nulls)) (all-groups g all c.in-Some-2.table.count so.1 (omega (arith, c.if-as_slice-eq0.false, ap length c.as_slice.ensures.columns)))
    ∙ ap (λ (L : List ℕ). map (λ f. lay (has L) f nulls) (group K (with_aggregates A) x nulls)) c.in_ok-columns.ensures ∙ group-laid K A x nulls)
    (c.in_ok-rows.ensures row so.0)
