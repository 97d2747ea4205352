-- A text has one tree at most, one fault at most, and never both.
use Rattle.std.proofs.Common.{◌≡◌, ◌<◌, ◌≤◌, ℕ, List, length, refl, sym, ◌∙◌, ap, inl, inr, arith}
use Rattle.std.specs.Str.{IsUtf8, IsValidUpTo}
use Rattle.std.proofs.lemmas.Str.{utf8_valid_len-IsValidUpTo}
use Rattle.grammar.specs.Faults.{Fault, Unexpected, TooDeep, IsFirstFault}
use Rattle.grammar.proofs.OneFault.{no_fault, one_fault}
use Rattle.grammar.proofs.Reporting.{report}
use Rattle.grammar.proofs.Verdicts.{one_tree}
use Rattle.sql_parse.specs.declared.fault.ParseReason.{ParseReason}
use Rattle.sql_parse.specs.declared.fault.ParseReason.TheVariants.{NoToken, OpenText, NumberRange, Unexpected as UnexpectedToken, TooDeep as DeepParenthesis, TooLong}
use Rattle.sql_parse.specs.declared.fault.ParseRefusal.{ParseRefusal}
use Rattle.sql_parse.specs.declared.statement_parser.TheConstants.{MAX_TEXT}
use Rattle.sql_parse.specs.declared.statement.Statement.{Statement}
use Rattle.sql_parse.specs.declared.token.Token.{Token}
use Rattle.sql_parse.specs.Reading.{refusal}
use Rattle.sql_parse.specs.Sql.{sql, a_statement}
use Rattle.sql_parse.specs.StatementReading.{reported}
use Rattle.sql_parse.specs.Statements.{ReadsStatement, IsFaultFor, limit}
use Rattle.sql_parse.specs.Tokens.{Bytes, AreTokens, IsLexicalFault}
use Rattle.sql_parse.specs.OneReading.{TreesAreOne, TreesHaveNoFault, FaultsAreOne}
use Rattle.sql_parse.proofs.OneTokens.{one_tokens, tokens_whole, one_break}
use Rattle.sql_parse.proofs.SqlDecided.{is_decided, statement_decided, statement_paired}

pub one_tree_of_text : TreesAreOne
one_tree_of_text bytes s t first other =
    let same = one_tokens bytes first.tokens other.tokens first.are_tokens other.are_tokens in
    one_tree sql is_decided a_statement statement_decided statement_paired other.tokens s t (rw same at first.reads) other.reads

-- ---- the four stages at which a text is refused

record IsLong (bytes : Bytes) (r : ParseRefusal) : Type 0 where
  long : MAX_TEXT < length bytes
  is : r ≡ refusal TooLong MAX_TEXT

record IsNoText (bytes : Bytes) (r : ParseRefusal) : Type 0 where
  short : length bytes ≤ MAX_TEXT
  bad : IsUtf8 bytes → ⊥
  valid : IsValidUpTo bytes r.at
  is : r.reason ≡ NoToken

record IsBroken (bytes : Bytes) (r : ParseRefusal) : Type 0 where
  short : length bytes ≤ MAX_TEXT
  utf8 : IsUtf8 bytes
  broken : IsLexicalFault bytes r

record IsNoStatement (bytes : Bytes) (r : ParseRefusal) : Type 0 where
  short : length bytes ≤ MAX_TEXT
  utf8 : IsUtf8 bytes
  tokens : List Token
  are_tokens : AreTokens bytes tokens
  fault : Fault Token
  is_first : IsFirstFault sql a_statement limit tokens fault
  is : r ≡ report (reported (length bytes)) fault

data Stage (bytes : Bytes) (r : ParseRefusal) : Type 0 where
  too_long : IsLong bytes r → Stage bytes r
  no_text : IsNoText bytes r → Stage bytes r
  broken : IsBroken bytes r → Stage bytes r
  no_statement : IsNoStatement bytes r → Stage bytes r

stage : (bytes : Bytes) (reason : ParseReason) (at : ℕ) → IsFaultFor reason at bytes → Stage bytes (refusal reason at)
stage bytes TooLong at (long, same) = too_long (record { long = long; is = ap (refusal TooLong) same })
stage bytes DeepParenthesis at h = no_statement (record {
  short = h.short;
  utf8 = h.utf8;
  tokens = h.tokens;
  are_tokens = h.are_tokens;
  fault = TooDeep h.rest;
  is_first = h.is_fault;
  is = ap (refusal DeepParenthesis) h.is_there;
})
stage bytes UnexpectedToken at h = no_statement (record {
  short = h.short;
  utf8 = h.utf8;
  tokens = h.tokens;
  are_tokens = h.are_tokens;
  fault = Unexpected h.rest;
  is_first = h.is_fault;
  is = ap (refusal UnexpectedToken) h.is_there;
})
stage bytes NoToken at (short, inl (utf8, fault)) = broken (record { short = short; utf8 = utf8; broken = fault })
stage bytes NoToken at (short, inr (bad, valid)) = no_text (record { short = short; bad = bad; valid = valid; is = refl })
stage bytes OpenText at (short, utf8, fault) = broken (record { short = short; utf8 = utf8; broken = fault })
stage bytes NumberRange at (short, utf8, fault) = broken (record { short = short; utf8 = utf8; broken = fault })

-- ---- a tree or a fault

never_both : (bytes : Bytes) (s : Statement) (r : ParseRefusal) → ReadsStatement bytes s → Stage bytes r → ⊥
never_both bytes s r reads (too_long h) = let short = reads.short in let long = h.long in omega arith
never_both bytes s r reads (no_text h) = h.bad reads.utf8
never_both bytes s r reads (broken h) = tokens_whole bytes reads.tokens r reads.are_tokens h.broken
never_both bytes s r reads (no_statement h) =
    let same = one_tokens bytes h.tokens reads.tokens h.are_tokens reads.are_tokens in
    no_fault sql a_statement limit reads.tokens s h.fault reads.reads reads.within (rw same at h.is_first)

pub tree_or_fault : TreesHaveNoFault
tree_or_fault bytes s r reads fault = never_both bytes s r reads (stage bytes r.reason r.at fault)

-- ---- one fault

one_end : (bytes : Bytes) (q r : ParseRefusal) → IsNoText bytes q → IsNoText bytes r → q ≡ r
one_end bytes q r g h =
    let at : q.at ≡ r.at = sym (utf8_valid_len-IsValidUpTo bytes q.at g.valid) ∙ utf8_valid_len-IsValidUpTo bytes r.at h.valid in
    let why : q.reason ≡ r.reason = g.is ∙ sym h.is in
    let all : refusal q.reason q.at ≡ refusal r.reason r.at = cc in
    all

one_statement : (bytes : Bytes) (q r : ParseRefusal) → IsNoStatement bytes q → IsNoStatement bytes r → q ≡ r
one_statement bytes q r g h =
    let same = one_tokens bytes g.tokens h.tokens g.are_tokens h.are_tokens in
    g.is ∙ ap (report (reported (length bytes))) (one_fault sql a_statement limit h.tokens g.fault h.fault (rw same at g.is_first) h.is_first) ∙ sym h.is

one_stage : (bytes : Bytes) (q r : ParseRefusal) → Stage bytes q → Stage bytes r → q ≡ r
one_stage bytes q r (too_long g) (too_long h) = g.is ∙ sym h.is
one_stage bytes q r (too_long g) (no_text h) = let long = g.long in let short = h.short in absurd (omega arith)
one_stage bytes q r (too_long g) (broken h) = let long = g.long in let short = h.short in absurd (omega arith)
one_stage bytes q r (too_long g) (no_statement h) = let long = g.long in let short = h.short in absurd (omega arith)
one_stage bytes q r (no_text g) (too_long h) = let long = h.long in let short = g.short in absurd (omega arith)
one_stage bytes q r (no_text g) (no_text h) = one_end bytes q r g h
one_stage bytes q r (no_text g) (broken h) = absurd (g.bad h.utf8)
one_stage bytes q r (no_text g) (no_statement h) = absurd (g.bad h.utf8)
one_stage bytes q r (broken g) (too_long h) = let long = h.long in let short = g.short in absurd (omega arith)
one_stage bytes q r (broken g) (no_text h) = absurd (h.bad g.utf8)
one_stage bytes q r (broken g) (broken h) = one_break bytes q r g.broken h.broken
one_stage bytes q r (broken g) (no_statement h) = absurd (tokens_whole bytes h.tokens q h.are_tokens g.broken)
one_stage bytes q r (no_statement g) (too_long h) = let long = h.long in let short = g.short in absurd (omega arith)
one_stage bytes q r (no_statement g) (no_text h) = absurd (h.bad g.utf8)
one_stage bytes q r (no_statement g) (broken h) = absurd (tokens_whole bytes g.tokens r g.are_tokens h.broken)
one_stage bytes q r (no_statement g) (no_statement h) = one_statement bytes q r g h

pub one_fault_of_text : FaultsAreOne
one_fault_of_text bytes q r first other = one_stage bytes q r (stage bytes q.reason q.at first) (stage bytes r.reason r.at other)
