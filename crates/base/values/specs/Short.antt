-- Numbers of 64 bits, as texts and tables have them (this project's profile of SQL).
use Rattle.std.specs.Prelude.{FitsSigned}
use Rattle.std.specs.Int.{w64}
use Rattle.values.specs.declared.value.Value.{Value}
use Rattle.values.specs.declared.value.Value.TheVariants as value

-- if the value is a number it has 64 bits
abbrev pub IsShort : Value → Type 0
IsShort value.Null = Unit {0}
IsShort (value.Int n) = FitsSigned w64 n
IsShort (value.Text t) = Unit {0}
