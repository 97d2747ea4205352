use Rattle.std.proofs.Common.{ap, sym, ◌∙◌}
use Rattle.values.specs.Truth.{is_true}
use Rattle.algebra.specs.declared.condition.Condition.{Condition}
use Rattle.algebra.specs.Conditions.{truth}
use Rattle.algebra.proofs.Truths.{truth-Compare}
use Rattle.physical.specs.Outputs.{no_classes}
use Rattle.index_access.proofs.bounds.bound_of.Goals as goal

pub returns-in-Compare : goal.returns-in-Compare
returns-in-Compare c = λ f within h.
    c.bound_of_terms.ensures f within
    (ap is_true (sym (truth-Compare c.in-Compare.comparison c.in-Compare.a c.in-Compare.b no_classes f) ∙ ap (λ (d : Condition). truth d no_classes f) (sym c.in-Compare.is)) ∙ h)
