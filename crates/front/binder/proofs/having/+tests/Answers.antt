use Rattle.std.proofs.Common.{◌≡◌, ap, sym, ◌∙◌, subst, ℕ, List, IfOk}
use Rattle.sql_parse.specs.declared.statement.HavingCondition.{HavingCondition}
use Rattle.binder.specs.HavingShapes.{having_shape}
use Rattle.binder.proofs.HavingEquations.{shape-Compare, shape-IsNull, shape-Not, shape-And, shape-Or}
use Rattle.binder.proofs.HavingLoops.{tests_of}
use Rattle.binder.proofs.having.+tests.Goals as goal

pub tests-returns-in-Compare : goal.tests-returns-in-Compare
tests-returns-in-Compare t c = sym (ap (λ p. (having_shape p).tests) c.in-Compare.is ∙ ap (λ s. s.tests) (shape-Compare c.in-Compare.field-0 c.in-Compare.field-1 c.in-Compare.field-2))

pub tests-returns-in-IsNull : goal.tests-returns-in-IsNull
tests-returns-in-IsNull t c = sym (ap (λ p. (having_shape p).tests) c.in-IsNull.is ∙ ap (λ s. s.tests) (shape-IsNull c.in-IsNull.field-0))

pub tests-returns-in-Not : goal.tests-returns-in-Not
tests-returns-in-Not t c =
    let is = ap (λ p. (having_shape p).tests) c.get.ensures ∙ sym (ap (λ s. s.tests) (shape-Not c.in-Not.inner)) ∙ sym (ap (λ p. (having_shape p).tests) c.in-Not.is) in
    subst (λ (z : ℕ). IfOk c.tests.result (λ count. count ≡ z)) is c.tests.ensures

pub tests-returns-in-And : goal.tests-returns-in-And
tests-returns-in-And t c =
    let is = ap tests_of c.as_slice.ensures ∙ sym (ap (λ s. s.tests) (shape-And c.in-And.parts)) ∙ sym (ap (λ p. (having_shape p).tests) c.in-And.is) in
    subst (λ (z : ℕ). IfOk c.all_tests.result (λ count. count ≡ z)) is c.all_tests.ensures

pub tests-returns-in-Or : goal.tests-returns-in-Or
tests-returns-in-Or t c =
    let is = ap tests_of c.as_slice-in-Or.ensures ∙ sym (ap (λ s. s.tests) (shape-Or c.in-Or.parts)) ∙ sym (ap (λ p. (having_shape p).tests) c.in-Or.is) in
    subst (λ (z : ℕ). IfOk c.all_tests-in-Or.result (λ count. count ≡ z)) is c.all_tests-in-Or.ensures
