use Rattle.std.proofs.Common.{◌≡◌, true, rules}
use Rattle.schema.specs.Limits.{are_few, names_differ}
use Rattle.schema.proofs.Schemas.{schema_whole}
use Rattle.schema.proofs.Spelled.{schema_spelt}
use Rattle.schema.proofs.reading.read_schema.Goals as goal

pub returns-clause-schema : goal.returns-clause-schema
returns-clause-schema c =
    let few : are_few c.in_ok-entries.entries ≡ true = search rules in
    let differ : names_differ c.in_ok-entries.entries ≡ true = search rules in
    schema_whole c.args.bytes.now c.in_ok-entries.entries c.in_ok-tables.tables c.in_ok-entries.ensures few differ (rw c.as_slice-3.ensures at c.in_ok-tables.ensures)

pub returns-clause-spelt : goal.returns-clause-spelt
returns-clause-spelt c =
    let few : are_few c.in_ok-entries.entries ≡ true = search rules in
    let differ : names_differ c.in_ok-entries.entries ≡ true = search rules in
    let tables = rw c.as_slice-3.ensures at c.in_ok-tables.ensures in
    schema_spelt c.args.bytes.now c.in_ok-entries.entries c.in_ok-tables.tables c.in_ok-entries.ensures tables (schema_whole c.args.bytes.now c.in_ok-entries.entries c.in_ok-tables.tables c.in_ok-entries.ensures few differ tables)
