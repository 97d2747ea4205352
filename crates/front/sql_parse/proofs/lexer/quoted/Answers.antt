use Rattle.std.proofs.Common.{arith, rules}
use Rattle.std.specs.Prelude.{string_bytes}
use Rattle.std.proofs.lemmas.Str.Ascii.{encode_ascii}
use Rattle.std.proofs.lemmas.Str.Pattern.{split_parts, strip_prefix_char}
use Rattle.sql_parse.specs.Reading.{quoted_at}
use Rattle.sql_parse.proofs.TextQuotes.{read_doubled, read_closed, read_unclosed}
use Rattle.sql_parse.proofs.lexer.quoted.Goals as goal

pub loop-before-preserved : goal.loop-before-preserved
loop-before-preserved c =
    let rest = c.loop-before.rest.now in
    let after = c.in-Some.after.now in
    let parts = rw c.in-Some.is at (split_parts 39 rest c.split_once.result c.split_once.ensures.cases (omega arith)) in
    let more = rw c.in-Some-strip_prefix.is at (strip_prefix_char 39 after c.strip_prefix.result c.strip_prefix.ensures.cases (omega arith)) in (
      search rules,
      rw (c.in_ok-push-in-Some-strip_prefix.ensures.bytes, c.in_ok-push_str.ensures.bytes, encode_ascii 39 (omega arith))
          (read_doubled (string_bytes c.loop-before.value) c.in-Some.before.now rest after c.in-Some-strip_prefix.more.now (quoted_at c.args.behind.now) parts.1 parts.0 more c.loop-before.invariant.1),
    )

pub returns-in-None : goal.returns-in-None
returns-in-None c =
    let rest = c.loop-before.rest.now in
    let after = c.in-Some.after.now in
    let parts = rw c.in-Some.is at (split_parts 39 rest c.split_once.result c.split_once.ensures.cases (omega arith)) in
    let more = rw c.in-None.is at (strip_prefix_char 39 after c.strip_prefix.result c.strip_prefix.ensures.cases (omega arith)) in
    rw (c.new.ensures, c.in_ok-push_str.ensures.bytes) (read_closed (string_bytes c.loop-before.value) c.in-Some.before.now rest after (quoted_at c.args.behind.now) parts.1 parts.0 more c.loop-before.invariant.1)

pub returns : goal.returns
returns c =
    let rest = c.loop-before.rest.now in
    let parts = rw c.in_default.is at (split_parts 39 rest c.split_once.result c.split_once.ensures.cases (omega arith)) in
    read_unclosed (string_bytes c.loop-before.value) rest (quoted_at c.args.behind.now) parts c.loop-before.invariant.1
