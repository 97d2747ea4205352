use Rattle.std.proofs.Common.{◌≡◌, sym, ap, ◌∙◌, subst, ℕ, ◌<◌, length, take, if◌then◌else◌, slice_index_or, get_or, arith}
use Rattle.std.proofs.lemmas.List.{take_all, length-set}
use Rattle.algebra.specs.Columns.{has}
use Rattle.logs.proofs.Relabelled.{read-all, relabelled}
use Rattle.logs.proofs.sets.relabel.Goals as goal

pub loop-class-preserved : goal.loop-class-preserved
loop-class-preserved c =
    let classes = c.args.classes.now in
    let i : ℕ = c.loop-class.class-index in
    let within : get_or classes i 0 < length c.args.sets.now = read-all (λ g. g < length c.args.sets.now) classes i 0 c.requires c.loop-class-test.true in
    record {
      count = length-set c.loop-class.sets (get_or classes i 0) c.args.set ∙ c.loop-class.invariant.count;
      sets = relabelled c.loop-class.sets c.args.sets.now classes c.args.set i c.loop-class-test.true (subst (λ n. get_or classes i 0 < n) (sym c.loop-class.invariant.count) within) c.loop-class.invariant.sets;
    }

pub returns-clause-sets : goal.returns-clause-sets
returns-clause-sets c =
    let all : take c.loop-class.class-index c.args.classes.now ≡ c.args.classes.now = take_all c.loop-class.class-index c.args.classes.now (omega arith) in
    λ g. c.loop-class.invariant.sets g ∙ ap (λ classes. if has classes g then c.args.set else slice_index_or c.args.sets.now g 0) all
