-- What a rule gives depends on the classes that its lines name alone. So founding another class changes nothing of it.
use Rattle.std.specs.Prelude.{◌≡◌, ℕ, Bool, true, List, Result}
use Rattle.std.specs.List.{AllByRecursion}
use Rattle.algebra.specs.Expressions.{classes_pass}
use Rattle.props.specs.Knowledge.{Knowledge}
use Rattle.rules.specs.declared.shape.Shape.{Shape}
use Rattle.rules.specs.declared.unfit.Unfit.{Unfit}
use Rattle.rules.specs.Matches.{Line, Matched}

-- the same is known of the classes that pass, and of which classes are the same
pub record Agree (p : ℕ → Bool) (K L : Knowledge) : Type 0 where
  pub columns : (g : ℕ) → p g ≡ true → K.columns g ≡ L.columns g
  pub free : (g k : ℕ) → p g ≡ true → K.free g k ≡ L.free g k
  pub root : (g : ℕ) → K.root g ≡ L.root g
  pub facts : (g : ℕ) → p g ≡ true → K.facts g ≡ L.facts g

-- at lines that name no others the rule gives the same
abbrev pub IsStable : (Matched → Result Shape Unfit) → Type 0
IsStable gives = (p : ℕ → Bool) (K L : Knowledge) → Agree p K L → (pick : ℕ) (lines : List Line) → AllByRecursion (λ (l : Line). classes_pass p l.expr ≡ true) lines
    → gives (record { lines = lines; pick = pick; classes = K }) ≡ gives (record { lines = lines; pick = pick; classes = L })
