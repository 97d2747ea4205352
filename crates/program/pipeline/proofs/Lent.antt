-- Rows that a cursor lends.
use Rattle.std.proofs.Common.{◌≡◌, ◌+◌, ap, sym, subst, ◌∙◌, ℕ, Bool, true, false, [], ◌∷◌, length, Option, Some, MatchOption, Ok, arith}
use Rattle.schema.specs.Databases.{Row}
use Rattle.cursors.specs.Cursors.{Progress, IsStep}

-- the row that is lent was the first to come
pub lent_first : (old new : Progress) (more : Bool) (current : Option Row) (row : Row) → more ≡ true → IsStep old new (Ok more) → current ≡ new.current → current ≡ Some row → old.to_come ≡ row ∷ new.to_come
lent_first old new more current row goes step shown is =
    let lent : IsStep old new (Ok true) = subst (λ b. IsStep old new (Ok b)) goes step in
    subst (λ (o : Option Row). MatchOption o ⊥ (λ r. old.to_come ≡ r ∷ new.to_come)) (sym shown ∙ is) lent.0

pub lent_counted : (old new : Progress) (more : Bool) (row : Row) (all : ℕ) → more ≡ true → IsStep old new (Ok more) → old.to_come ≡ row ∷ new.to_come → old.handed + length old.to_come ≡ all → new.handed + length new.to_come ≡ all
lent_counted old new more row all goes step first counted =
    let lent : IsStep old new (Ok true) = subst (λ b. IsStep old new (Ok b)) goes step in
    omega (arith, lent.1, ap length first, counted)

-- where none is lent, none was to come
pub lent_none : (old new : Progress) (more : Bool) → more ≡ false → IsStep old new (Ok more) → old.to_come ≡ []
lent_none old new more ends step = (subst (λ b. IsStep old new (Ok b)) ends step).0
