-- What a fault of a table says.
use Rattle.std.specs.Prelude.{ℕ, List, Option, Some, None, codes}
use Rattle.store.specs.declared.fault.FieldFault.TheVariants.{BadEscape, NotNumber, NotText, NullValue}
use Rattle.store.specs.declared.fault.TableCause.{TableCause}
use Rattle.store.specs.declared.fault.TableCause.TheVariants.{OtherHeader, OtherLength, Field, Repeated, TooMany}

-- the codes by which the program reports them
abbrev pub code_of : TableCause → List ℕ
code_of OtherLength = codes "T01"
code_of (Field c NotText) = codes "T01"
code_of OtherHeader = codes "T02"
code_of (Field c NotNumber) = codes "T03"
code_of (Field c BadEscape) = codes "T04"
code_of (Field c NullValue) = codes "T05"
code_of (Repeated e) = codes "T06"
code_of TooMany = codes "T07"

abbrev pub column_of : TableCause → Option ℕ
column_of (Field c f) = Some c
column_of OtherHeader = None
column_of OtherLength = None
column_of (Repeated e) = None
column_of TooMany = None

abbrev pub earlier_of : TableCause → Option ℕ
earlier_of (Repeated e) = Some e
earlier_of (Field c f) = None
earlier_of OtherHeader = None
earlier_of OtherLength = None
earlier_of TooMany = None
