use Rattle.std.proofs.Common.{◌≡◌, ap, sym, ◌∙◌, [], ◌++◌, ◌∷◌, ℕ, ◌+◌, map, reverse, drop, get_or, option_map, drop_of_length-le, Some, arith}
use Rattle.std.proofs.lemmas.List.{get_or_default, map-append, append-nil}
use Rattle.rules.specs.Matches as matches
use Rattle.rules.specs.Matches.{line_in}
use Rattle.derivation.specs.Replay as spec
use Rattle.logs.proofs.Members.{members-none, members-more}
use Rattle.logs.proofs.lookups.members.Goals as goal

pub returns-in-None : goal.returns-in-None
returns-in-None c =
    let uses = c.args.uses.now in
    let i : ℕ = c.loop-line.line-index in
    let none = sym c.member.ensures ∙ ap (option_map line_in) c.in-None.is in
    sym (members-none (reverse c.args.lines.now) uses i (get_or uses i 0) c.loop-line-test.true (get_or_default uses i 0 (get_or uses i 0) c.loop-line-test.true) (map line_in c.loop-line.found.items) none c.loop-line.invariant)

pub loop-line-preserved : goal.loop-line-preserved
loop-line-preserved c =
    let uses = c.args.uses.now in
    let E = reverse c.args.lines.now in
    let i : ℕ = c.loop-line.line-index in
    let l : matches.Line = line_in c.in-Some.member in
    let found = sym c.member.ensures ∙ ap (option_map line_in) c.in-Some.is in
    let more = members-more E uses i (get_or uses i 0) c.loop-line-test.true (get_or_default uses i 0 (get_or uses i 0) c.loop-line-test.true) (map line_in c.loop-line.found.items) l found c.loop-line.invariant in
    let items : map line_in c.push.new.self.items ≡ map line_in c.loop-line.found.items ++ l ∷ [] = ap (map line_in) c.in_ok-push-in-Some.ensures.items ∙ map-append line_in c.loop-line.found.items (c.in-Some.member ∷ []) in
    more ∙ ap (λ front. option_map (λ rest. front ++ rest) (spec.members E (drop (i + 1) uses))) (sym items)

pub returns : goal.returns
returns c =
    let uses = c.args.uses.now in
    let E = reverse c.args.lines.now in
    let none = drop_of_length-le uses {i = c.loop-line.line-index} (omega arith) in
    let end = c.loop-line.invariant ∙ ap (λ left. option_map (λ rest. map line_in c.loop-line.found.items ++ rest) (spec.members E left)) none in
    sym (end ∙ ap Some (append-nil (map line_in c.loop-line.found.items)))
