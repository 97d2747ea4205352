-- The code of each fault of a text.
use Rattle.std.specs.Prelude.{ℕ, List, codes}
use Rattle.sql_parse.specs.declared.fault.ParseReason.{ParseReason}
use Rattle.sql_parse.specs.declared.fault.ParseReason.TheVariants as p

abbrev pub code_of : ParseReason → List ℕ
code_of p.NoToken = codes "P01"
code_of p.OpenText = codes "P02"
code_of p.NumberRange = codes "P03"
code_of p.Unexpected = codes "P04"
code_of p.TooDeep = codes "P05"
code_of p.TooLong = codes "P06"
