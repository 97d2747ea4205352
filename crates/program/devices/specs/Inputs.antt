-- How far a file is read.
use Rattle.std.specs.Prelude.{◌≡◌, ◌≤◌, ◌+◌, ◌-◌, ◌^◌, ℕ, List, Option, None, Some, length, min}
use Rattle.memchr.specs.Find.{IsLastByte, is_byte2}
use Rattle.devices.specs.declared.reading.Bounds.{Bounds}
use Rattle.devices.specs.declared.reading.BoundedReader.{BoundedReader}

-- so many bytes, of which so many stand behind the last line break, pass no bound
abbrev pub IsWithin : Bounds → ℕ → ℕ → Type 0
IsWithin bounds bytes behind = (bytes ≤ bounds.whole) × (behind ≤ bounds.line)

-- a number up to the largest of 64 bits
abbrev pub counted : ℕ → ℕ
counted n = min n (2 ^ 64 - 1)

-- how many of n bytes behind others stand behind the last line break, where its place among the n is known
abbrev pub behind_place : ℕ → ℕ → Option ℕ → ℕ
behind_place before n None = counted (before + n)
behind_place before n (Some last) = n - 1 - last

-- so many bytes stand behind the last line break of these and of others before them, behind whose own stand so many
abbrev pub IsBehindBreak : ℕ → List ℕ → ℕ → Type 0
IsBehindBreak before bytes behind = (last : Option ℕ) × IsLastByte (is_byte2 10 13) bytes last × (behind ≡ behind_place before (length bytes) last)

-- what a reader within bounds reads from
abbrev pub source_of : {R : Type 0} → BoundedReader R → R
source_of r = r.reader
