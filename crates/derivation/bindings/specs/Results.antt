-- What the rule of a binding gives, as a line may say it.
use Rattle.std.specs.Prelude.{◌≡◌, ℕ, true, List, Ok}
use Rattle.std.specs.List.{list_all}
use Rattle.query.specs.declared.query.TableInstance.{TableInstance}
use Rattle.algebra.specs.declared.expr.Aggregation.{Aggregation}
use Rattle.rules.specs.declared.shape.Shape.{Shape}
use Rattle.derivation.specs.Logs.{Log, founds, knowledge}
use Rattle.derivation.specs.Replay.{is_earlier, given}
use Rattle.bindings.specs.declared.binding.Binding.{Binding}
use Rattle.bindings.specs.Bindings.{uses_of, step_of}
use Rattle.bindings.specs.Spelt.{cols, MayStand, shape_columns}

-- the shape is what the binding's rule gives of the class, whatever lines spell it, and may stand there
pub record IsResult (instances : List TableInstance) (own : List Aggregation) (E : Log) (b : Binding) (class : ℕ) (s : Shape) : Type 0 where
  pub may : MayStand instances own E s
  pub columns : shape_columns instances own E s ≡ cols instances E class
  pub founded : founds E class ≡ true
  pub uses : list_all (is_earlier E) (uses_of b) ≡ true
  pub gives : (makes : List ℕ) → given (knowledge instances E) E class (step_of b makes) ≡ Ok s
