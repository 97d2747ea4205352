-- The codes by which the program reports refusals.
use Rattle.std.specs.Prelude.{ℕ, List, codes}
use Rattle.schema.specs.declared.fault.SchemaRefusal.{SchemaRefusal}
use Rattle.schema.specs.declared.fault.SchemaRefusal.TheVariants.{NotJson, Shape, TooMany, Repeated, UnknownColumn}

abbrev pub code_of : SchemaRefusal → List ℕ
code_of NotJson = codes "S01"
code_of Shape = codes "S02"
code_of Repeated = codes "S03"
code_of UnknownColumn = codes "S04"
code_of TooMany = codes "S05"
