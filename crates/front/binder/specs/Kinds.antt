-- The kinds of what is compared (this project's profile of SQL).
use Rattle.std.specs.Prelude.{Bool, true, false, Option, Some, None}
use Rattle.values.specs.declared.value.Value.{Value}
use Rattle.values.specs.declared.value.Value.TheVariants as value
use Rattle.schema.specs.declared.schema.Kind.{Kind}
use Rattle.schema.specs.declared.schema.Kind.TheVariants as kind

-- NULL has either kind
abbrev pub kind_of : Value → Option Kind
kind_of value.Null = None
kind_of (value.Int n) = Some kind.Int
kind_of (value.Text t) = Some kind.Text

abbrev pub same_kind : Kind → Kind → Bool
same_kind kind.Int kind.Int = true
same_kind kind.Text kind.Text = true
same_kind kind.Int kind.Text = false
same_kind kind.Text kind.Int = false

-- a number isn't compared with a text
abbrev pub are_comparable : Option Kind → Option Kind → Bool
are_comparable None b = true
are_comparable (Some a) None = true
are_comparable (Some a) (Some b) = same_kind a b
