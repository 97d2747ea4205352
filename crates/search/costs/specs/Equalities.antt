-- Which columns of rows are equal, by the equations that were asked of them: a condition that follows from others leaves out no row more. That a join's rows
-- are estimated by one condition for each column that becomes equal to others: Swami and Schiefer, On the estimation of join result sizes, 1994.
use Rattle.std.specs.Prelude.{ℕ, ◌==◌, ◌||◌, Bool, false, if◌then◌else◌, List, [], ◌∷◌, ◌++◌, fold, filter, flat_map, Option, Some, None, option_to_list}
use Rattle.std.specs.List.{find, list_any}
use Rattle.std.specs.Option.{unwrap_or}
use Rattle.algebra.specs.declared.condition.Condition.{Condition}
use Rattle.algebra.specs.Equated.{equated}

-- ---- equations of two columns, and which columns they make equal

-- columns that are equal have one leader: an equation hands what the leader of its second column leads to the leader of its first
abbrev pub joined : (ℕ → ℕ) → ℕ × ℕ → ℕ → ℕ
joined leader e c = if leader c == leader e.1 then leader e.0 else leader c

unfoldable pub leader_by : List (ℕ × ℕ) → ℕ → ℕ
leader_by P = fold joined (λ c. c) P

-- whether two columns are equal, by the leaders
abbrev pub are_equal : (ℕ → ℕ) → ℕ × ℕ → Bool
are_equal leader e = leader e.0 == leader e.1

-- ---- of conditions

-- an equation of a column with itself says nothing of others
abbrev pub of_two : Option (ℕ × ℕ) → Option (ℕ × ℕ)
of_two None = None
of_two (Some e) = if e.0 == e.1 then None else Some e

-- what a condition equates, if it is an equality of two columns
abbrev pub equation : Condition → Option (ℕ × ℕ)
equation c = of_two (equated c)

abbrev pub is_implied : (ℕ → ℕ) → Option (ℕ × ℕ) → Bool
is_implied leader None = false
is_implied leader (Some e) = are_equal leader e

-- of a list, from the left, the conditions that follow neither from equations nor from those before them
unfoldable pub counted : List (ℕ × ℕ) → List Condition → List Condition
counted P [] = []
counted P (c ∷ C) = if is_implied (leader_by P) (equation c) then counted P C else c ∷ counted (P ++ option_to_list (equation c)) C

abbrev pub equations : List Condition → List (ℕ × ℕ)
equations C = flat_map (λ c. option_to_list (equation c)) C

-- equations, and those of a list that don't follow
abbrev pub with_equations : List (ℕ × ℕ) → List Condition → List (ℕ × ℕ)
with_equations P C = P ++ equations (counted P C)

-- ---- of some columns alone

abbrev pub names : List (ℕ × ℕ) → ℕ → Bool
names P c = list_any (λ e. e.0 == c || e.1 == c) P

-- a column, equated with the first of a list that is equal to it
abbrev pub with_first : (ℕ → ℕ) → List ℕ → ℕ → Option (ℕ × ℕ)
with_first leader L c = of_two (Some (unwrap_or (find (λ d. are_equal leader (d, c)) L) c, c))

-- what equations say of these columns, of which the others are left out
abbrev pub among : (ℕ → ℕ) → List ℕ → List (ℕ × ℕ)
among leader L = flat_map (λ c. option_to_list (with_first leader L c)) L

abbrev pub within : List ℕ → List (ℕ × ℕ) → List (ℕ × ℕ)
within L P = among (leader_by P) (filter (names P) L)

-- ---- as code keeps them

abbrev pub leads : Option (ℕ × ℕ) → ℕ → ℕ
leads None c = c
leads (Some e) c = e.1

-- a column's leader by a list of columns with their leaders; one that isn't listed leads itself
abbrev pub leader_in : List (ℕ × ℕ) → ℕ → ℕ
leader_in leaders c = leads (find (λ e. e.0 == c) leaders) c

-- an entry whose leader is another one's now
abbrev pub handed : ℕ → ℕ → ℕ × ℕ → ℕ × ℕ
handed old new e = if e.1 == old then (e.0, new) else e

abbrev pub with_equation : (ℕ → ℕ) → Option (ℕ × ℕ) → ℕ → ℕ
with_equation leader None = leader
with_equation leader (Some e) = joined leader e
