-- What a log lacks says something new.
use Rattle.std.proofs.Common.{◌≡◌, ap, sym, ◌∙◌, inl, inr, ◌⊎◌, ◌<◌, ℕ, true, false, not, ◌&&◌, ◌==◌, List, length}
use Rattle.std.proofs.lemmas.Bool.{and_parts, not-true}
use Rattle.query.specs.declared.query.TableInstance.{TableInstance}
use Rattle.props.specs.declared.fact.Fact.{Fact}
use Rattle.props.specs.Given.{is_known}
use Rattle.derivation.specs.Logs.{Log, class_at, are_same, knowledge, least, or_class}
use Rattle.logs.specs.Logged.{Logged}
use Rattle.bindings.specs.declared.binding.Binding.{Binding}
use Rattle.lean_logs.specs.Founding.{StandsFor}
use Rattle.closure.specs.Lacking.{LacksAlike, LacksGiven}
use Rattle.closure.specs.Lines.{has_result_of}
use Rattle.closure.proofs.PlacedShapes.{placed_result}

-- lines that are alike, and of classes that aren't the same
pub alike_says : (instances : List TableInstance) (E : Log) (i j : ℕ) → LacksAlike E i j → are_same E (class_at E i) (class_at E j) ≡ false
alike_says instances E i j lacks = ap (λ o. least E (or_class i o) == least E (class_at E j)) lacks.there ∙ ap (λ o. least E lacks.first.class == least E (or_class j o)) lacks.second.there ∙ lacks.second.differ

-- a result that doesn't stand isn't spelt out there
pub stands_not : (E : Logged) (b : Binding) (n : ℕ) → has_result_of E.instances E.log b ≡ false → StandsFor E b ⊎ (length E.log < n) → length E.log < n
stands_not E b n lacks is = elim is [
  | inl stands ↦
      let there : has_result_of E.instances E.log b ≡ true = placed_result E.instances E.own E.log b stands.given stands.stands.class stands.stands.makes stands.is stands.stands.placed stands.stands.same in
      absurd (let never : false ≡ true = sym lacks ∙ there in cc)
  | inr more ↦ more
]

-- a fact that is lacked isn't known
pub fact_says : (instances : List TableInstance) (E : Log) (g m : ℕ) (f : Fact) → LacksGiven instances E g m f → is_known (knowledge instances E) g f ≡ false
fact_says instances E g m f lacks = ap (λ h. is_known (knowledge instances E) h f) (sym lacks.class_is) ∙ not-true _ (and_parts _ _ (and_parts _ _ lacks.fact.lacks).0).0
