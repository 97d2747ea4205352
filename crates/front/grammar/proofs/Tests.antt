-- Facts of Bool tests and of lists of classes.
use Rattle.std.proofs.Common.{◌≡◌, ℕ, Bool, true, false, not, ◌&&◌, ◌||◌, ◌==◌, List, [], ◌∷◌, ◌++◌, refl, subst}
use Rattle.std.proofs.lemmas.Bool.{eqb-true, or_right, or_from, false_from_ne_true}
use Rattle.grammar.specs.Readers.{member, apart}

pub and_left : (a b : Bool) → (a && b) ≡ true → a ≡ true
and_left true b h = refl
and_left false b h = h

pub and_right : (a b : Bool) → (a && b) ≡ true → b ≡ true
and_right true b h = h
and_right false b h = cc

or_either : (a b c : Bool) → (b ≡ true → c ≡ true) → (a || b) ≡ true → (a || c) ≡ true
or_either true b c f h = refl
or_either false b c f h = f h

pub not_and : (a : Bool) → not a ≡ true → a ≡ true → ⊥
not_and true h k = cc
not_and false h k = cc

pub member_left : (x : ℕ) (xs ys : List ℕ) → member x xs ≡ true → member x (xs ++ ys) ≡ true
member_left x [] ys h = cc
member_left x (a ∷ xs) ys h = or_either (x == a) (member x xs) (member x (xs ++ ys)) (member_left x xs ys) h

pub member_right : (x : ℕ) (xs ys : List ℕ) → member x ys ≡ true → member x (xs ++ ys) ≡ true
member_right x [] ys h = h
member_right x (a ∷ xs) ys h = or_right (x == a) (member x (xs ++ ys)) (member_right x xs ys h)

pub not_member : (x : ℕ) (xs ys : List ℕ) → apart xs ys ≡ true → member x ys ≡ true → member x xs ≡ false
not_member x [] ys d h = refl
not_member x (a ∷ xs) ys d h = or_from (x == a) (member x xs)
    (false_from_ne_true _ (λ e. not_and (member a ys) (and_left _ _ d) (subst (λ y. member y ys ≡ true) (eqb-true x a e) h))) (not_member x xs ys (and_right _ _ d) h)
