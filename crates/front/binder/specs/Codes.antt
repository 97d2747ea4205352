-- The code of each fault of a name or a term.
use Rattle.std.specs.Prelude.{ℕ, List, codes}
use Rattle.binder.specs.declared.fault.BindReason.{BindReason}
use Rattle.binder.specs.declared.fault.BindReason.TheVariants as b

abbrev pub code_of : BindReason → List ℕ
code_of b.UnknownTable = codes "B01"
code_of b.UnknownColumn = codes "B02"
code_of b.AmbiguousName = codes "B03"
code_of b.RepeatedName = codes "B04"
code_of b.MixedKinds = codes "B05"
code_of b.UngroupedColumn = codes "B06"
code_of b.SumOfText = codes "B07"
code_of b.NotOneColumn = codes "B08"
code_of b.NoOutputColumn = codes "B09"
code_of b.TooLarge = codes "B10"
code_of b.OuterAggregate = codes "B11"
