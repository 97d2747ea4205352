-- What a cursor stands for.
use Rattle.std.specs.Prelude.{◌≡◌, ◌+◌, ◌<◌, ◌^◌, ℕ, Bool, true, false, List, [], ◌∷◌, length, Option, Some, None, MatchOption, Result, Ok, Err}
use Rattle.schema.specs.Databases.{Row}
use Rattle.cursors.specs.declared.fault.RunFault.{RunFault}

-- the row that it lends, the rows still to come, how many it has handed over, and the fault that it met
pub record Progress : Type 0 where
  pub current : Option Row
  pub to_come : List Row
  pub handed : ℕ
  pub fault : Option RunFault

-- before the first of some rows
abbrev pub opened : List Row → Progress
opened rows = record { current = None; to_come = rows; handed = 0; fault = None }

-- a row that is lent was the first to come; none was where none is lent; a fault is kept
abbrev pub IsStep : Progress → Progress → Result Bool RunFault → Type 0
IsStep old new (Ok true) = MatchOption new.current ⊥ (λ row. old.to_come ≡ row ∷ new.to_come) × (new.handed ≡ old.handed + 1) × (new.fault ≡ None)
IsStep old new (Ok false) = (old.to_come ≡ []) × (new.to_come ≡ []) × (new.current ≡ None) × (new.handed ≡ old.handed) × (new.fault ≡ None)
IsStep old new (Err fault) = (new.current ≡ None) × (new.fault ≡ Some fault)

-- all its rows are more than 2^62
abbrev pub IsLong : Progress → Type 0
IsLong p = 2 ^ 62 < p.handed + length p.to_come
