-- Lists of values beside relations that come one by one, or change.
use Rattle.std.proofs.Common.{◌≡◌, ℕ, zero, suc, ◌≤◌, List, [], ◌∷◌, ◌++◌, length, set, Option, None, IfSome, arith}
use Rattle.relations.specs.Relations.{rows_of}
use Rattle.relations.specs.ValueLists.{AreListed, IsListed}
use Rattle.relations.specs.declared.relation.Relation.{Relation}
use Rattle.relations.specs.declared.value_lists.ValueList.{ValueList}

pub listed-more : (relations : List Relation) (lists : List (Option ValueList)) (r : Relation) (found : Option ValueList) → length lists ≡ length relations → AreListed relations lists → IfSome found (IsListed (rows_of r))
    → AreListed (relations ++ r ∷ []) (lists ++ found ∷ [])
listed-more [] [] r found many all is = (is, tt)
listed-more [] (o ∷ lists) r found many all is = absurd (omega (arith, many))
listed-more (s ∷ relations) [] r found many all is = absurd (omega (arith, many))
listed-more (s ∷ relations) (o ∷ lists) r found many all is = (all.0, listed-more relations lists r found (omega (arith, many)) all.1 is)

-- a relation changes, whose list goes
pub listed-put : (relations : List Relation) (lists : List (Option ValueList)) (i : ℕ) (r : Relation) → AreListed relations lists → AreListed (set relations i r) (set lists i None)
listed-put [] lists i r all = tt
listed-put (s ∷ relations) [] zero r all = tt
listed-put (s ∷ relations) [] (suc i) r all = tt
listed-put (s ∷ relations) (o ∷ lists) zero r all = (tt, all.1)
listed-put (s ∷ relations) (o ∷ lists) (suc i) r all = (all.0, listed-put relations lists i r all.1)

-- or which has none
pub listed-past : (relations : List Relation) (lists : List (Option ValueList)) (i : ℕ) (r : Relation) → length lists ≤ i → AreListed relations lists → AreListed (set relations i r) lists
listed-past [] lists i r past all = tt
listed-past (s ∷ relations) [] zero r past all = tt
listed-past (s ∷ relations) [] (suc i) r past all = tt
listed-past (s ∷ relations) (o ∷ lists) zero r past all = absurd (omega (arith, past))
listed-past (s ∷ relations) (o ∷ lists) (suc i) r past all = (all.0, listed-past relations lists i r (omega (arith, past)) all.1)
