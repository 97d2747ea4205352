-- What bytes and values of JSON are, or the refusal r that they are nothing of the kind.
use Rattle.std.specs.Prelude.{ℕ, List, [], ◌∷◌, Result, Ok, Err, ◌==◌, if◌then◌else◌}
use Rattle.std.specs.Str.{is_utf8}
use Rattle.serde_json.specs.Data.{Data, Items, no_items, item}
use Rattle.serde_json.specs.Events.{members_len}
use Rattle.serde_json.specs.Read as json
use Rattle.serde_json.specs.Find.{get, as_array, as_object}
use Rattle.values.specs.Faults.{◌>>=◌, wanted, wanted_if}

-- what the bytes are as JSON
unfoldable pub json_in : {R : Type 0} → R → List ℕ → Result Data R
json_in r bytes = if is_utf8 bytes then wanted r (json.read bytes) else Err r

-- an object with as many members as this
unfoldable pub keys_in : {R : Type 0} → R → ℕ → Data → Result (Unit {0}) R
keys_in r n d = do
  members ← wanted r (as_object d)
  wanted_if r (members_len members == n) tt

-- what stands at the name
abbrev pub member_in : {R : Type 0} → R → List ℕ → Data → Result Data R
member_in r name d = wanted r (get name d)

-- an array's items as a list
unfoldable pub list_of : Items → List Data
list_of no_items = []
list_of (item d ds) = d ∷ list_of ds

unfoldable pub items_in : {R : Type 0} → R → Data → Result (List Data) R
items_in r d = do
  ds ← wanted r (as_array d)
  Ok (list_of ds)
