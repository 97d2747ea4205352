use Rattle.std.proofs.Common.{◌≡◌, refl, ap, sym, subst, ◌∙◌, ◌<◌, List, [], length, map, slice_get, slice_index_or, Some}
use Rattle.std.specs.List.{AllByRecursion, range_with_len}
use Rattle.std.proofs.lemmas.List.FromFn.{length-range_with_len}
use Rattle.std.proofs.lemmas.Option.{slice_get_read}
use Rattle.schema.specs.Databases.{Row}
use Rattle.query.specs.Rows.{tables_of}
use Rattle.algebra.specs.Expressions.{get_columns, get_rows, instance_columns, instance_row}
use Rattle.relations.specs.declared.headings.Place.{Place}
use Rattle.relations.specs.Parts.{row_at}
use Rattle.relations.specs.Places.{first_at}
use Rattle.relations.specs.Relations.{row_env}
use Rattle.relations.proofs.RelationRows.{first-within, table-rows, table-row}
use Rattle.operators.specs.Sources.{AreTableRows}
use Rattle.operators.proofs.scans.scanned.Goals as goal

pub invariant_of-result : goal.invariant_of-result
invariant_of-result c =
    let within = subst (AllByRecursion (λ (p : Place). p.part < 1)) (sym c.in_ok-heading.ensures.1) (first-within (length c.in_ok-columns.columns) 0) in
    record { placed = subst (λ n. AllByRecursion (λ (p : Place). p.part < n) c.in_ok-heading.heading.places.items) (sym (ap length c.in_ok-rows.ensures.parts)) within }

pub returns-clause-rows : goal.returns-clause-rows
returns-clause-rows c = λ S e.
    let t = c.in-Some.table_instance.now in
    let instances = c.args.instances.now in
    let h = c.in_ok-heading.heading in
    let rows = c.in_ok-rows.rows in
    let table = c.table_part.result in
    let found : slice_get instances c.args.instance ≡ Some t = slice_get_read instances (length instances) c.args.instance t refl c.in-Some.ensures.lookup.3.0 (c.in-Some.ensures.lookup.3.1 t) in
    let given : get_columns (slice_get instances c.args.instance) ≡ instance_columns t = ap get_columns found in
    let columns : h.columns ≡ instance_columns t = c.in_ok-heading.ensures.0 ∙ c.in_ok-columns.ensures ∙ given in
    let places : h.places.items ≡ map first_at (range_with_len 0 (length t.entry.columns)) =
    c.in_ok-heading.ensures.1 ∙ ap (λ n. map first_at (range_with_len 0 n)) (ap length (c.in_ok-columns.ensures ∙ given) ∙ length-range_with_len t.first_column (length t.entry.columns)) in
    record {
      columns_are = columns ∙ sym given;
      rows_are = ap (λ n. map (λ k. row_env h (row_at rows.parts.items k) e) (range_with_len 0 n)) c.in_ok-rows.ensures.count
          ∙ ap (λ (parts : List (List Row)). map (λ k. row_env h (row_at parts k) e) (range_with_len 0 (length table))) c.in_ok-rows.ensures.parts
          ∙ table-rows t h table e columns places ∙ ap (map (λ row. instance_row t row e)) c.table_part.ensures
          ∙ sym (ap (λ o. get_rows o (tables_of S c.args.tables.now) e) found);
    }

pub returns-clause-numbered : goal.returns-clause-numbered
returns-clause-numbered c = λ e.
    let t = c.in-Some.table_instance.now in
    let instances = c.args.instances.now in
    let tables = c.args.tables.now in
    let h = c.in_ok-heading.heading in
    let rows = c.in_ok-rows.rows in
    let table = c.table_part.result in
    let found : slice_get instances c.args.instance ≡ Some t = slice_get_read instances (length instances) c.args.instance t refl c.in-Some.ensures.lookup.3.0 (c.in-Some.ensures.lookup.3.1 t) in
    let given : get_columns (slice_get instances c.args.instance) ≡ instance_columns t = ap get_columns found in
    let columns : h.columns ≡ instance_columns t = c.in_ok-heading.ensures.0 ∙ c.in_ok-columns.ensures ∙ given in
    let places : h.places.items ≡ map first_at (range_with_len 0 (length t.entry.columns)) =
    c.in_ok-heading.ensures.1 ∙ ap (λ n. map first_at (range_with_len 0 n)) (ap length (c.in_ok-columns.ensures ∙ given) ∙ length-range_with_len t.first_column (length t.entry.columns)) in
    subst (λ instance. AreTableRows instance tables e rows.count (λ n. row_env h (row_at rows.parts.items n) e)) (sym found) (
      c.in_ok-rows.ensures.count ∙ ap length c.table_part.ensures,
      λ n. ap (λ (parts : List (List Row)). row_env h (row_at parts n) e) c.in_ok-rows.ensures.parts
          ∙ table-row t h (slice_index_or table n []) e columns places
          ∙ ap (λ (l : List Row). instance_row t (slice_index_or l n []) e) c.table_part.ensures,
    )
