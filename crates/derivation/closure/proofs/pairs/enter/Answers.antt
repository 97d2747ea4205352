use Rattle.std.proofs.Common.{◌≡◌, ap, sym, ◌∙◌, ◌<◌, [], length, map, set, option_map, arith}
use Rattle.std.proofs.lemmas.List.{get_or-map}
use Rattle.algebra.specs.Columns.{has, columns_at}
use Rattle.rules.specs.Matches.{line_in}
use Rattle.closure.proofs.Agreeing.{place-bound, place-of-same, line-entered, lines-stay}
use Rattle.closure.proofs.pairs.enter.Goals as goal

within : (c : goal.In_ok-push) → c.in_ok-place.place < length c.args.over.now.items
within c = omega (arith, place-bound c.args.log.now.log c.in-Some.member.expr.now, c.in_ok-place.ensures, c.requires)

was : (c : goal.In_ok-push) → columns_at (map (λ v. v.items) c.args.over.now.items) c.in_ok-place.place ≡ c.index_mut.result.now.items
was c = get_or-map (λ v. v.items) c.args.over.now.items c.in_ok-place.place c.index_mut.result.now [] (within c) ∙ ap (λ v. v.items) (sym c.index_mut.ensures.value)

pub returns-in_ok-push-clause-entered : goal.returns-in_ok-push-clause-entered
returns-in_ok-push-clause-entered c = λ l there.
    let at = place-of-same c.args.log.now.log l (line_in c.in-Some.member) _ (sym there ∙ sym c.member.ensures ∙ ap (option_map line_in) c.in-Some.is) c.in_ok-place.ensures in
    ap (λ q. has (columns_at (map (λ v. v.items) (set c.args.over.now.items c.in_ok-place.place c.push.new.self)) q) c.args.line) at
    ∙ line-entered c.args.over.now.items c.in_ok-place.place c.args.line c.index_mut.result.now.items c.push.new.self (within c) (was c) c.in_ok-push.ensures.items

pub returns-in_ok-push-clause-stays : goal.returns-in_ok-push-clause-stays
returns-in_ok-push-clause-stays c = lines-stay c.args.over.now.items c.in_ok-place.place c.args.line c.index_mut.result.now.items c.push.new.self (within c) (was c) c.in_ok-push.ensures.items
