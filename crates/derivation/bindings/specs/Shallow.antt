-- How much the rules give: a few operators, and no more.
use Rattle.std.specs.Prelude.{◌≡◌, ℕ, ◌+◌, ◌≤◌, Ok}
use Rattle.rules.specs.declared.shape.Shape.{Shape, fold-Shape}
use Rattle.rules.specs.declared.shape.Shape.TheOpen.{Shape-F}
use Rattle.rules.specs.Matches.{Matched}
use Rattle.book.specs.declared.names.RuleName.{RuleName}
use Rattle.book.specs.Book.{given_by}

-- the operators of a shape: a class has none
abbrev pub count_layer : Shape-F ℕ → ℕ
count_layer (Shape-F.Class g) = 0
count_layer (Shape-F.Select C x) = 1 + x
count_layer (Shape-F.Join C a b) = 1 + (a + b)
count_layer (Shape-F.LeftJoin C a b) = 1 + (a + b)
count_layer (Shape-F.Semi C a b) = 1 + (a + b)
count_layer (Shape-F.Anti S M a b) = 1 + (a + b)
count_layer (Shape-F.Keep L x) = 1 + x
count_layer (Shape-F.Distinct x) = 1 + x
count_layer (Shape-F.Group L G x) = 1 + x

unfoldable pub operator_count : Shape → ℕ
operator_count = fold-Shape ℕ count_layer

-- what a rule gives has three operators at most: two inner expressions, the top one apart
abbrev pub BookIsShallow : Type 0
BookIsShallow = (rule : RuleName) (m : Matched) (s : Shape) → given_by rule m ≡ Ok s → operator_count s ≤ 3
