-- What is bound of lines: an expression of the top line, and those of the lines below it, each with the class that it is of.
use Rattle.std.proofs.Common.{◌≡◌, ℕ, true, List, [], ◌∷◌, Option, Some}
use Rattle.std.specs.List.{AllByRecursion}
use Rattle.algebra.specs.declared.expr.Expr.{Expr}
use Rattle.props.specs.Knowledge.{Knowledge}
use Rattle.rules.specs.Bindings.{is_same_as}
use Rattle.rules.specs.Matches.{Line, Matched}

-- an expression, and the class that it is of, if there is one
abbrev pub Placed : Type 0
Placed = Option ℕ × Expr

pub record IsPlaced (K : Knowledge) (b : Placed) (l : Line) : Type 0 where
  pub class : is_same_as K b.0 l.class ≡ true
  pub expr : l.expr ≡ b.1

abbrev pub ArePlaced : Knowledge → List Placed → List Line → Type 0
ArePlaced K [] [] = Unit {0}
ArePlaced K [] (l ∷ L) = ⊥
ArePlaced K (b ∷ B) [] = ⊥
ArePlaced K (b ∷ B) (l ∷ L) = IsPlaced K b l × ArePlaced K B L

-- what is bound: of the top line, of those below it, and what is so of it
pub record Binding (X : Type 0) : Type 1 where
  pub bound : Matched → Option X
  pub top : X → Expr
  pub below : X → List Placed
  pub IsSo : X → Type 0

-- it is bound of lines
pub record IsBound {X : Type 0} (B : Binding X) (m : Matched) (x : X) : Type 0 where
  pub first : Line
  pub others : List Line
  pub lines : m.lines ≡ first ∷ others
  pub top : first.expr ≡ B.top x
  pub below : ArePlaced m.classes (B.below x) others
  pub so : B.IsSo x

-- wherever something is bound, it is bound of the lines
abbrev pub Binds : {X : Type 0} → Binding X → Type 0
Binds {X} B = (m : Matched) (x : X) → B.bound m ≡ Some x → IsBound B m x

-- what holds of lines holds of what is bound of them
pub all-placed : (K : Knowledge) (P : Line → Type 0) (Q : Placed → Type 0) → ((b : Placed) (l : Line) → IsPlaced K b l → P l → Q b)
    → (B : List Placed) (L : List Line) → ArePlaced K B L → AllByRecursion P L → AllByRecursion Q B
all-placed K P Q each [] [] are all = tt
all-placed K P Q each [] (l ∷ L) are all = tt
all-placed K P Q each (b ∷ B) [] are all = absurd are
all-placed K P Q each (b ∷ B) (l ∷ L) are all = (each b l are.0 all.0, all-placed K P Q each B L are.1 all.1)
