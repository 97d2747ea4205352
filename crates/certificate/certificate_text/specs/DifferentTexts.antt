-- Conditions are told by their texts.
use Rattle.std.specs.Prelude.{◌≡◌, ℕ, List}
use Rattle.std.specs.List.{AllByRecursion}
use Rattle.algebra.specs.declared.condition.Condition.{Condition}
use Rattle.algebra.specs.ConjunctOrder.{condition_text, AreConjuncts, AreRising}
use Rattle.certificate_text.specs.Conditions.{IsReadable}

-- conditions that can be read and have one text are the same
abbrev pub TextsTellConditions : Type 0
TextsTellConditions = (room : ℕ) (c d : Condition) → IsReadable room c → IsReadable room d → condition_text c ≡ condition_text d → c ≡ d

-- so of conjuncts in their order the texts rise
abbrev pub ConjunctsRise : Type 0
ConjunctsRise = (room : ℕ) (C : List Condition) → AllByRecursion (IsReadable room) C → AreConjuncts C → AreRising C
