-- Tables and columns looked up by name, and refusals.
use Rattle.std.specs.Prelude.{◌+◌, ℕ, if◌then◌else◌, List, [], ◌∷◌, Option, Some, None, Result, bytes_eq}
use Rattle.values.specs.Faults.{wanted}
use Rattle.schema.specs.declared.schema.Column as entries
use Rattle.schema.specs.declared.schema.Table.{Table}
use Rattle.schema.specs.declared.schema.Schema.{Schema}
use Rattle.sql_parse.specs.declared.name.Name.{Name}
use Rattle.query.specs.declared.query.Column.{Column}
use Rattle.binder.specs.declared.fault.BindReason.{BindReason}
use Rattle.binder.specs.declared.fault.BindReason.TheVariants.{UnknownTable}
use Rattle.binder.specs.declared.fault.BindRefusal.{BindRefusal}

-- the first table of this name, and its place, counted on from n
abbrev pub find_table : ℕ → List Table → List ℕ → Option (ℕ × Table)
find_table n [] name = None
find_table n (t ∷ ts) name = if bytes_eq t.name name then Some (n, t) else find_table (n + 1) ts name

-- the first column of this name, and its place, counted on from n
abbrev pub find_column : ℕ → List entries.Column → List ℕ → Option (ℕ × entries.Column)
find_column n [] name = None
find_column n (c ∷ cs) name = if bytes_eq c.name name then Some (n, c) else find_column (n + 1) cs name

abbrev pub refusal : BindReason → ℕ → BindRefusal
refusal reason at = record { reason = reason; at = at }

abbrev pub table_in : Schema → Name → Result (ℕ × Table) BindRefusal
table_in S name = wanted (refusal UnknownTable name.at) (find_table 0 S.tables name.text)

-- the column of the own FROM at a place
abbrev pub own : ℕ → Column
own place = record { level = 0; place = place }
