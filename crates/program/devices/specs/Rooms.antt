-- How many bytes a device may still take.
use Rattle.std.specs.Prelude.{ℕ, min}
use Rattle.devices.specs.declared.room.Room.{Room}
use Rattle.devices.specs.declared.room.Room.TheVariants.{Endless, Bytes}

-- how many of so many bytes there is room for
abbrev pub most_of : Room → ℕ → ℕ
most_of Endless count = count
most_of (Bytes room) count = min count room
