use Rattle.std.proofs.Common.{◌≡◌, sym, ◌∙◌, ℕ}
use Rattle.std.proofs.lemmas.List.{get_or_default}
use Rattle.std.proofs.lemmas.Result.{on_ok_weaker}
use Rattle.logs.specs.declared.sets.ClassSets.{ClassSets}
use Rattle.logs.specs.Sets.{set_at}
use Rattle.logs.proofs.MovedSets.{united-already, united-turned}
use Rattle.logs.proofs.sets.ClassSets.unite.Goals as goal

pub returns-then-one-other-clause-united : goal.returns-then-one-other-clause-united
returns-then-one-other-clause-united c =
    let s : ClassSets = c.args.self.now in
    let one : ℕ = c.index-one.result.now in
    let other : ℕ = c.index-other.result.now in
    let one-is : one ≡ set_at s.sets.items c.args.first = c.index-one.ensures ∙ get_or_default s.sets.items c.args.first one 0 c.requires.first in
    let other-is : other ≡ set_at s.sets.items c.args.second = c.index-other.ensures ∙ get_or_default s.sets.items c.args.second other 0 c.requires.second in
    united-already s c.requires.sets c.args.first c.args.second c.requires.first c.requires.second (sym one-is ∙ c.if-one-other.true ∙ other-is)

pub returns-then-len-clause-united : goal.returns-then-len-clause-united
returns-then-len-clause-united c = on_ok_weaker c.absorb.result (λ is. united-turned c.args.self.now c.absorb.new.self c.args.first c.args.second is) c.absorb.ensures.united
