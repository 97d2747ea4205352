-- When a value of JSON has such parts.
use Rattle.std.specs.Prelude.{◌≡◌, ℕ, List, Some}
use Rattle.serde_json.specs.Data.{Data, Members}
use Rattle.serde_json.specs.Events.{members_len}
use Rattle.serde_json.specs.Find.{get, as_object}

-- an object of so many members
abbrev pub HasKeys : ℕ → Data → Type 0
HasKeys n d = (ms : Members) × (as_object d ≡ Some ms) × (members_len ms ≡ n)

-- what stands at the key is such
abbrev pub HasMember : List ℕ → (Data → Type 0) → Data → Type 0
HasMember key P d = (m : Data) × (get key d ≡ Some m) × P m
