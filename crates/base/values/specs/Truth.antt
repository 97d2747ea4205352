-- Three-valued truth (Guagliardo and Libkin, PVLDB 11(1), 2017), and comparisons of values.
use Rattle.std.specs.Prelude.{Bool, true, false}
use Rattle.std.specs.declared.cmp.Ordering.{Ordering}
use Rattle.std.specs.declared.cmp.Ordering.TheVariants as by
use Rattle.values.specs.declared.value.Value.{Value}
use Rattle.values.specs.declared.value.Value.TheVariants as value
use Rattle.values.specs.declared.truth.Truth.{Truth}
use Rattle.values.specs.declared.truth.Truth.TheVariants.{False, Unknown, True}
use Rattle.values.specs.declared.truth.Comparison.{Comparison}
use Rattle.values.specs.declared.truth.Comparison.TheVariants.{Equal, NotEqual, Less, LessOrEqual, Greater, GreaterOrEqual}
use Rattle.values.specs.Order.{order}

-- NOT keeps unknown
abbrev pub negation : Truth → Truth
negation False = True
negation Unknown = Unknown
negation True = False

-- AND is false if a side is false, true if both are true, else unknown
abbrev pub conjunction : Truth → Truth → Truth
conjunction False b = False
conjunction Unknown False = False
conjunction Unknown Unknown = Unknown
conjunction Unknown True = Unknown
conjunction True b = b

-- OR is true if a side is true, false if both are false, else unknown
abbrev pub disjunction : Truth → Truth → Truth
disjunction True b = True
disjunction Unknown True = True
disjunction Unknown Unknown = Unknown
disjunction Unknown False = Unknown
disjunction False b = b

-- what is never unknown
abbrev pub truth_of : Bool → Truth
truth_of true = True
truth_of false = False

-- a row passes where a condition is true, not where it is unknown
abbrev pub is_true : Truth → Bool
is_true True = true
is_true Unknown = false
is_true False = false

abbrev pub is_null : Value → Bool
is_null value.Null = true
is_null (value.Int n) = false
is_null (value.Text t) = false

-- whether a comparison is true of two values in this order
abbrev pub admits : Comparison → Ordering → Bool
admits Equal by.Less = false
admits Equal by.Equal = true
admits Equal by.Greater = false
admits NotEqual by.Less = true
admits NotEqual by.Equal = false
admits NotEqual by.Greater = true
admits Less by.Less = true
admits Less by.Equal = false
admits Less by.Greater = false
admits LessOrEqual by.Less = true
admits LessOrEqual by.Equal = true
admits LessOrEqual by.Greater = false
admits Greater by.Less = false
admits Greater by.Equal = false
admits Greater by.Greater = true
admits GreaterOrEqual by.Less = false
admits GreaterOrEqual by.Equal = true
admits GreaterOrEqual by.Greater = true

-- unknown where a side is Null, else what the order says
abbrev pub compare : Comparison → Value → Value → Truth
compare c value.Null b = Unknown
compare c (value.Int m) value.Null = Unknown
compare c (value.Int m) (value.Int n) = truth_of (admits c (order (value.Int m) (value.Int n)))
compare c (value.Int m) (value.Text t) = truth_of (admits c (order (value.Int m) (value.Text t)))
compare c (value.Text s) value.Null = Unknown
compare c (value.Text s) (value.Int n) = truth_of (admits c (order (value.Text s) (value.Int n)))
compare c (value.Text s) (value.Text t) = truth_of (admits c (order (value.Text s) (value.Text t)))
