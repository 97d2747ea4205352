-- The codes by which the program reports refusals.
use Rattle.std.specs.Prelude.{ℕ, List, codes}
use Rattle.statistics.specs.declared.fault.StatisticsRefusal.{StatisticsRefusal}
use Rattle.statistics.specs.declared.fault.StatisticsRefusal.TheVariants.{NotJson, Shape}

abbrev pub code_of : StatisticsRefusal → List ℕ
code_of NotJson = codes "N01"
code_of Shape = codes "N02"
