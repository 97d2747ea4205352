-- The lines of a class: the line that founds it, and those that add to it.
use Rattle.std.specs.Prelude.{◌≡◌, ℕ, ◌<◌, ◌≤◌, Bool, false, ◌==◌, if◌then◌else◌, List, [], ◌∷◌, length, slice_index_or, Option, Some, None}
use Rattle.rules.specs.Matches as matches
use Rattle.derivation.specs.declared.line.Line.{Line}
use Rattle.derivation.specs.declared.line.Line.TheVariants.{Founds, Adds, Unites, Alike, Gives}
use Rattle.derivation.specs.Logs.{Log, member, are_same}
use Rattle.logs.specs.declared.additions.Additions.{Additions}
use Rattle.logs.specs.Sets.{has_room}

-- ---- what is lent

abbrev pub once_if : Bool → ℕ
once_if b = if b then 1 else 0

abbrev pub is_of : Log → ℕ → Option matches.Line → Bool
is_of E g None = false
is_of E g (Some l) = are_same E l.class g

-- whether a line has an expression of a class, or of one that is the same
abbrev pub is_member : Log → ℕ → ℕ → Bool
is_member E g n = is_of E g (member E n)

-- ---- what is kept

-- the lines that add to a class, the last of them first
abbrev pub adding : ℕ → Log → List ℕ
adding c [] = []
adding c (Founds x ∷ E) = adding c E
adding c (Adds g s x ∷ E) = if c == g then length E ∷ adding c E else adding c E
adding c (Unites g h s ∷ E) = adding c E
adding c (Alike i j ∷ E) = adding c E
adding c (Gives g m f ∷ E) = adding c E

-- the class to which a line adds; the line itself where it adds to none
abbrev pub target : ℕ → Line → ℕ
target n (Founds x) = n
target n (Adds g s x) = g
target n (Unites g h s) = n
target n (Alike i j) = n
target n (Gives g m f) = n

-- from a number on, these lines are one behind the other, falling, and then comes the class
abbrev pub IsChain : List ℕ → ℕ → ℕ → List ℕ → Type 0
IsChain earlier c at [] = at ≡ c
IsChain earlier c at (n ∷ ns) = (at ≡ n) × (c < n) × (n < length earlier) × (slice_index_or earlier n 0 < n) × IsChain earlier c (slice_index_or earlier n 0) ns

-- the chain of each class has the lines that add to it
pub record AreAdditions (E : Log) (a : Additions) : Type 0 where
  pub last : length a.last.items ≡ length E
  pub earlier : length a.earlier.items ≡ length E
  pub chains : (c : ℕ) → c < length E → IsChain a.earlier.items c (slice_index_or a.last.items c 0) (adding c E)
  pub later : (c : ℕ) → length E ≤ c → adding c E ≡ []

-- there is room for one line more
pub record HasRoom (a : Additions) : Type 0 where
  pub last : has_room a.last
  pub earlier : has_room a.earlier

-- how often a class has a line with this expression, or without one
abbrev pub once_of : Option matches.Line → ℕ → ℕ
once_of None c = 0
once_of (Some l) c = once_if (c == l.class)
