-- The line that the program says for a refusal.
use Rattle.std.specs.Prelude.{ℕ, List, [], ◌++◌, Option, Some, None, codes, decimal, slice_get}
use Rattle.schema.specs.declared.schema.Table as entries
use Rattle.schema.specs.declared.schema.Schema as schemas
use Rattle.schema.specs.Refusals as schema
use Rattle.certificate.specs.Codes as check
use Rattle.certificate_text.specs.Codes as certificate
use Rattle.sql_parse.specs.Codes as text
use Rattle.binder.specs.Codes as scope
use Rattle.statistics.specs.Refusals as statistics
use Rattle.pipeline.specs.declared.refusal.Refusal.{Refusal}
use Rattle.pipeline.specs.declared.refusal.Refusal.TheVariants.{Memory, Schema, Text, Scope, Statistics, Certificate, Check, NotLeast, Table, TableDevice, Output, TooManyRows}
use Rattle.store.specs.Faults as store

-- the name of a table of a schema; nothing where there is none
abbrev pub entry_name : Option entries.Table → List ℕ
entry_name None = []
entry_name (Some t) = t.name

abbrev pub table_name : Option schemas.Schema → ℕ → List ℕ
table_name None t = []
table_name (Some S) t = entry_name (slice_get S.tables t)

abbrev pub earlier_text : Option ℕ → List ℕ
earlier_text None = []
earlier_text (Some n) = codes " and " ++ decimal n

-- the name of a rule whose condition fails, or `L` for a fact
abbrev pub rule_text : Option (List ℕ) → List ℕ
rule_text None = []
rule_text (Some rule) = codes " " ++ rule

-- the line, without its line end
abbrev pub line_of : Option schemas.Schema → Refusal → List ℕ
line_of S Memory = codes "memory"
line_of S (Schema r) = codes "refused " ++ schema.code_of r
line_of S (Text r) = codes "refused " ++ (text.code_of r.reason ++ (codes " at " ++ decimal r.at))
line_of S (Scope r) = codes "refused " ++ (scope.code_of r.reason ++ (codes " at " ++ decimal r.at))
line_of S (Statistics r) = codes "refused " ++ statistics.code_of r
line_of S (Certificate r) = codes "refused " ++ (certificate.code_of r.reason ++ (codes " line " ++ decimal r.line))
line_of S (Check r) = codes "refused " ++ (check.code_of r.reason ++ (rule_text (check.rule_of r.reason) ++ (codes " line " ++ decimal r.line)))
line_of S NotLeast = codes "refused L01"
line_of S (Table t r) = codes "refused " ++ (store.code_of r.cause ++ (codes " " ++ (table_name S t ++ (codes " row " ++ (decimal r.row ++ earlier_text (store.earlier_of r.cause))))))
line_of S (TableDevice t) = codes "device T08 " ++ table_name S t
line_of S Output = codes "device X02"
line_of S TooManyRows = codes "refused X01"
