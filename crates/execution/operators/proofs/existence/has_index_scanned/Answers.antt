use Rattle.std.proofs.Common.{ap, sym, subst, ◌∙◌, ℕ, List, filter, slice_get, IfSome}
use Rattle.std.proofs.lemmas.Result.{IfOk-weaker}
use Rattle.schema.specs.Databases.{Row}
use Rattle.query.specs.Rows.{tables_of}
use Rattle.algebra.specs.Bags.{Env}
use Rattle.algebra.specs.Conditions.{holds}
use Rattle.physical.specs.Indexes.{accessed_rows}
use Rattle.physical.specs.Outputs.{no_classes}
use Rattle.relations.specs.Relations.{env_of, numbered_env, numbers_of}
use Rattle.index_access.specs.Cuts.{AreByIndex}
use Rattle.operators.specs.Existence.{has_some}
use Rattle.operators.specs.Sources.{AreTableRows, IsAccessed}
use Rattle.operators.proofs.TableScans.{accessed_sorts}
use Rattle.operators.proofs.existence.has_index_scanned.Goals as goal

pub has_passing_by_index-requires : goal.has_passing_by_index-requires
has_passing_by_index-requires c =
    let e = env_of c.args.env.now in
    let instances = c.args.sources.instances.now in
    let access = c.args.access in
    let all = c.in_ok-all.all in
    let rows = subst (λ tables. AreTableRows (slice_get instances access.instance) tables e all.rows.count (numbered_env all e)) c.as_slice-tables.ensures (c.in_ok-all.ensures.numbered e) in
    let numbers = subst (λ found. IfSome found (λ n. IsAccessed instances c.args.sources.tables.now access n.now)) c.in-Some.is c.in_ok-numbers.ensures in
    subst (λ (columns : List ℕ). AreByIndex (numbered_env all e) columns (numbers_of all) c.in-Some.numbers.now)
    (sym (c.as_slice.ensures.value ∙ c.in_ok-columns.ensures))
    (accessed_sorts instances c.args.sources.tables.now access c.in-Some.numbers.now e all.rows.count (numbered_env all e) rows numbers)

pub returns-in_default : goal.returns-in_default
returns-in_default c = λ S.
    let e = env_of c.args.env.now in
    let rows = (c.in_ok-all.ensures.rows S e).rows_are ∙ ap (λ (tables : List (List Row)). accessed_rows c.args.sources.instances.now (tables_of S tables) c.args.access e) c.as_slice-tables.ensures in
    IfOk-weaker c.has_passing.result _ _ (λ b is. is ∙ ap (λ (l : List Env). has_some (filter (holds no_classes c.args.conditions.now) l)) rows) c.has_passing.ensures

pub returns : goal.returns
returns c = λ S.
    let e = env_of c.args.env.now in
    let rows = (c.in_ok-all.ensures.rows S e).rows_are ∙ ap (λ (tables : List (List Row)). accessed_rows c.args.sources.instances.now (tables_of S tables) c.args.access e) c.as_slice-tables.ensures in
    IfOk-weaker c.has_passing_by_index.result _ _ (λ b is. is ∙ ap (λ (l : List Env). has_some (filter (holds no_classes c.args.conditions.now) l)) rows) c.has_passing_by_index.ensures
