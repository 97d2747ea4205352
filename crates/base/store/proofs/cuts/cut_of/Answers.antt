use Rattle.std.proofs.Common.{ℕ, List, ◌≡◌, ◌-◌, length, take, drop, arith, length-drop, Option, Some, None, IfSome, sym, ◌∙◌}
use Rattle.std.proofs.lemmas.List.{take_all}
use Rattle.store.specs.Cuts.{IsQuoteless}
use Rattle.store.proofs.CutRecords.{cuts_quoteless, cuts_marked, cuts_unmarked}
use Rattle.store.proofs.cuts.cut_of.Goals as goal

if_some : (P Q : ℕ → Type 0) (o : Option ℕ) → ((n : ℕ) → P n → Q n) → IfSome o P → IfSome o Q
if_some P Q None f h = tt
if_some P Q (Some n) f h = f n h

all_left : (xs : List ℕ) → take (length xs - 3) (drop 3 xs) ≡ drop 3 xs
all_left xs = let long = length-drop 3 xs in take_all (length xs - 3) (drop 3 xs) (omega (arith, long))

pub returns-then-plain-bytes : goal.returns-then-plain-bytes
returns-then-plain-bytes c =
    let all = take_all c.until_quote-plain.result c.args.bytes.now (omega (arith, c.if-plain-bytes.true)) in
    let none : IsQuoteless c.args.bytes.now = rw all at c.until_quote-plain.ensures.plain in
    if_some _ _ c.last_line_feed.result (λ n h. cuts_quoteless c.args.bytes.now n none h) c.last_line_feed.ensures

pub returns-in-Some : goal.returns-in-Some
returns-in-Some c = cuts_marked c.args.bytes.now c.in-Some.cut (sym c.starts_with.ensures.value ∙ c.if-starts_with.true) (rw (← all_left c.args.bytes.now) c.in-Some.ensures)

pub returns : goal.returns
returns c = if_some _ _ c.last_outside-2.result (λ n h. cuts_unmarked c.args.bytes.now n (sym c.starts_with.ensures.value ∙ c.if-starts_with.false) h) c.last_outside-2.ensures
