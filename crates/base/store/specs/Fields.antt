-- Values as fields of a record, read and written alike (this project's profile: Null is `\N`, and a text that begins with a
-- backslash has one more, so that none looks like Null).
use Rattle.std.specs.Prelude.{◌==◌, ℕ, List, [], ◌∷◌, if◌then◌else◌, codes}
use Rattle.std.specs.Fmt.{signed_decimal}
use Rattle.values.specs.declared.value.Value.{Value}
use Rattle.values.specs.declared.value.Value.TheVariants as value

-- a text as its field
abbrev pub escaped : List ℕ → List ℕ
escaped [] = []
escaped (b ∷ bs) = if b == 92 then 92 ∷ b ∷ bs else b ∷ bs

-- a value as its field
abbrev pub field_of : Value → List ℕ
field_of value.Null = codes "\\N"
field_of (value.Int n) = signed_decimal n
field_of (value.Text t) = escaped t
