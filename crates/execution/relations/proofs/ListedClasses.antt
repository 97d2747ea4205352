-- Lists of classes, which stand in their order.
use Rattle.std.proofs.Common.{◌≡◌, refl, ap, sym, subst, ◌∙◌, ℕ, ◌≤◌, ◌-◌, ◌==◌, Bool, true, false, if◌then◌else◌, List, [], ◌∷◌, length, get_or, take, drop, Option, Some, IfSome, arith}
use Rattle.std.proofs.lemmas.Bool.{eq-eqb, eqb-true}
use Rattle.std.proofs.lemmas.List.{take_all}
use Rattle.algebra.specs.Bags.{Env}
use Rattle.relations.specs.Relations.{given, rows_of}
use Rattle.relations.specs.ValueLists.{AreListed, IsListed}
use Rattle.relations.specs.declared.relation.Relation.{Relation}
use Rattle.relations.specs.declared.value_lists.ValueList.{ValueList}

pub first-listed : (classes : List ℕ) (relations : List Relation) (lists : List (Option ValueList)) (g : ℕ) (found : Option ValueList) (l : ValueList)
    → 1 ≤ length classes → 1 ≤ length relations → 1 ≤ length lists → get_or classes 0 0 ≡ g → found ≡ get_or lists 0 found → found ≡ Some l → AreListed relations lists → IsListed (given classes relations g) l
first-listed [] relations lists g found l one two three first at is all = absurd (omega (arith, one))
first-listed (h ∷ classes) [] lists g found l one two three first at is all = absurd (omega (arith, two))
first-listed (h ∷ classes) (r ∷ relations) [] g found l one two three first at is all = absurd (omega (arith, three))
first-listed (h ∷ classes) (r ∷ relations) (o ∷ lists) g found l one two three first at is all = by (h == g) (eq-eqb h g first) (subst (λ p. IfSome p (IsListed (rows_of r))) (sym at ∙ is) all.0)
  where
    by : (b : Bool) → b ≡ true → IsListed (rows_of r) l → IsListed (if b then rows_of r else given classes relations g) l
    by true same listed = listed
    by false same listed = cc same

-- a class behind the first one
pub later-given : (classes : List ℕ) (relations : List Relation) (g : ℕ) (e : Env) → 1 ≤ length classes → 1 ≤ length relations → (get_or classes 0 0 ≡ g → ⊥)
    → given (take (length classes - 1) (drop 1 classes)) (take (length relations - 1) (drop 1 relations)) g e ≡ given classes relations g e
later-given [] relations g e one two other = absurd (omega (arith, one))
later-given (h ∷ classes) [] g e one two other = absurd (omega (arith, two))
later-given (h ∷ classes) (r ∷ relations) g e one two other =
    ap (λ cs. given cs (take (length (r ∷ relations) - 1) relations) g e) (take_all (length (h ∷ classes) - 1) classes (omega arith))
    ∙ ap (λ rs. given classes rs g e) (take_all (length (r ∷ relations) - 1) relations (omega arith))
    ∙ by (h == g) (λ t. other (eqb-true h g t))
  where
    by : (b : Bool) → (b ≡ true → ⊥) → given classes relations g e ≡ (if b then rows_of r else given classes relations g) e
    by true differ = absurd (differ refl)
    by false differ = refl
