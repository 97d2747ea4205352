use Rattle.std.proofs.Common.{ap, sym, ◌∙◌, Option, ℕ, map, option_to_list}
use Rattle.props.specs.Knowledge.{Knowledge}
use Rattle.derivation.specs.Logs.{least}
use Rattle.closure.specs.Numbers.{mixed, mixed_all}
use Rattle.closure.proofs.numbers.with_root.Goals as goal

pub returns-in-Some : goal.returns-in-Some
returns-in-Some c =
    c.mixed.ensures ∙ ap (mixed c.args.sum) (c.root.ensures ∙ ap (λ (K : Knowledge). K.root c.in-Some.class) c.classes.ensures.known)
    ∙ sym (ap (λ (o : Option ℕ). mixed_all c.args.sum (map (least c.args.log.now.log) (option_to_list o))) c.in-Some.is)
