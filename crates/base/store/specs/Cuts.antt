-- Where a part of a file can be cut.
use Rattle.std.specs.Prelude.{◌≡◌, ◌≤◌, ◌==◌, ◌||◌, ℕ, false, List, [], ◌∷◌, ◌++◌, length, take, drop, if◌then◌else◌}
use Rattle.std.specs.List.{list_any}
use Rattle.csv.specs.Machine.{step, carriage_return, line_feed}
use Rattle.csv.specs.Reading.{default_config}
use Rattle.csv.specs.declared.parser.State.{State}
use Rattle.csv.specs.declared.parser.State.TheVariants as st
use Rattle.store.specs.declared.cuts.Quotes.{Quotes}
use Rattle.store.specs.declared.cuts.Quotes.TheVariants.{Fresh, Plain, Open, Closed}
use Rattle.store.specs.Tables.{records_of}

-- the state of csv's machine behind the bytes
abbrev pub state_after : State → List ℕ → State
state_after s [] = s
state_after s (c ∷ rest) = state_after (step default_config s c).0 rest

-- what a quote would do behind a byte: the byte is in no quotes
abbrev pub quotes_outside : ℕ → Quotes
quotes_outside c = if c == 44 then Fresh else if (c == carriage_return) || (c == line_feed) then Fresh else Plain

-- the same of any byte
abbrev pub quotes_after : Quotes → ℕ → Quotes
quotes_after Fresh c = if c == 34 then Open else quotes_outside c
quotes_after Plain c = quotes_outside c
quotes_after Open c = if c == 34 then Closed else Open
quotes_after Closed c = if c == 34 then Open else quotes_outside c

-- the same of bytes, one by one
abbrev pub quotes_behind : Quotes → List ℕ → Quotes
quotes_behind quotes [] = quotes
quotes_behind quotes (c ∷ rest) = quotes_behind (quotes_after quotes c) rest

-- none of the bytes is a quote
abbrev pub IsQuoteless : List ℕ → Type 0
IsQuoteless bytes = list_any (λ y. y == 34) bytes ≡ false

-- what a quote does in the state; by default no byte escapes another, and none begins a comment
abbrev pub QuotesIn : Quotes → State → Type 0
QuotesIn quotes st.StartRecord = quotes ≡ Fresh
QuotesIn quotes st.AfterCr = quotes ≡ Fresh
QuotesIn quotes st.StartField = quotes ≡ Fresh
QuotesIn quotes st.InField = quotes ≡ Plain
QuotesIn quotes st.InQuoted = quotes ≡ Open
QuotesIn quotes st.AfterQuote = quotes ≡ Closed
QuotesIn quotes st.InEscape = ⊥
QuotesIn quotes st.InComment = ⊥

-- a line feed ends a record in the state, or there is none to end
abbrev pub EndsLine : State → Type 0
EndsLine st.StartRecord = Unit {0}
EndsLine st.AfterCr = Unit {0}
EndsLine st.StartField = Unit {0}
EndsLine st.InField = Unit {0}
EndsLine st.AfterQuote = Unit {0}
EndsLine st.InQuoted = ⊥
EndsLine st.InEscape = ⊥
EndsLine st.InComment = ⊥

-- a line feed is there
abbrev pub IsLineEnd : List ℕ → ℕ → Type 0
IsLineEnd bytes n = (rest : List ℕ) × (drop n bytes ≡ line_feed ∷ rest)

-- a line feed is there that is in no quotes
abbrev pub CutsText : List ℕ → ℕ → Type 0
CutsText text n = IsLineEnd text n × EndsLine (state_after st.StartRecord (take n text))

-- whatever comes behind the bytes: the records of the first n, and then those of the rest
pub record CutsFile (bytes : List ℕ) (n : ℕ) : Type 0 where
  pub within : n ≤ length bytes
  pub parts : (more : List ℕ) → records_of (bytes ++ more) ≡ records_of (take n bytes) ++ records_of (drop n bytes ++ more)
