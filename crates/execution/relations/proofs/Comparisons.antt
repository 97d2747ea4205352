-- Comparisons with their sides exchanged.
use Rattle.std.proofs.Common.{◌≡◌, refl, ap, ◌∙◌}
use Rattle.std.specs.Ordering.{ordering_reverse}
use Rattle.std.specs.declared.cmp.Ordering.{Ordering}
use Rattle.std.specs.declared.cmp.Ordering.TheVariants as by
use Rattle.values.specs.declared.truth.Comparison.{Comparison}
use Rattle.values.specs.declared.truth.Comparison.TheVariants.{Equal, NotEqual, Less, LessOrEqual, Greater, GreaterOrEqual}
use Rattle.values.specs.declared.value.Value.{Value}
use Rattle.values.specs.declared.value.Value.TheVariants as value
use Rattle.values.specs.Order.{order}
use Rattle.values.specs.Truth.{admits, compare, truth_of}
use Rattle.values.proofs.Orders.{order_total}
use Rattle.relations.specs.Comparisons.{turned}

admits-turned : (c : Comparison) (o : Ordering) → admits (turned c) (ordering_reverse o) ≡ admits c o
admits-turned Equal by.Less = refl
admits-turned Equal by.Equal = refl
admits-turned Equal by.Greater = refl
admits-turned NotEqual by.Less = refl
admits-turned NotEqual by.Equal = refl
admits-turned NotEqual by.Greater = refl
admits-turned Less by.Less = refl
admits-turned Less by.Equal = refl
admits-turned Less by.Greater = refl
admits-turned LessOrEqual by.Less = refl
admits-turned LessOrEqual by.Equal = refl
admits-turned LessOrEqual by.Greater = refl
admits-turned Greater by.Less = refl
admits-turned Greater by.Equal = refl
admits-turned Greater by.Greater = refl
admits-turned GreaterOrEqual by.Less = refl
admits-turned GreaterOrEqual by.Equal = refl
admits-turned GreaterOrEqual by.Greater = refl

turned-order : (c : Comparison) (v w : Value) → truth_of (admits (turned c) (order w v)) ≡ truth_of (admits c (order v w))
turned-order c v w = ap (λ o. truth_of (admits (turned c) o)) (order_total.antisymm w v) ∙ ap truth_of (admits-turned c (order v w))

pub compare_turned : (c : Comparison) (v w : Value) → compare (turned c) w v ≡ compare c v w
compare_turned c value.Null value.Null = refl
compare_turned c value.Null (value.Int n) = refl
compare_turned c value.Null (value.Text t) = refl
compare_turned c (value.Int m) value.Null = refl
compare_turned c (value.Int m) (value.Int n) = turned-order c (value.Int m) (value.Int n)
compare_turned c (value.Int m) (value.Text t) = turned-order c (value.Int m) (value.Text t)
compare_turned c (value.Text s) value.Null = refl
compare_turned c (value.Text s) (value.Int n) = turned-order c (value.Text s) (value.Int n)
compare_turned c (value.Text s) (value.Text t) = turned-order c (value.Text s) (value.Text t)
