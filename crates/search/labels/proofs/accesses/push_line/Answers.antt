use Rattle.std.proofs.Common.{List, ap, sym, ◌∙◌, option_map, slice_get}
use Rattle.std.proofs.lemmas.Result.{on_ok_weaker}
use Rattle.query.specs.declared.query.TableInstance.{TableInstance}
use Rattle.rules.specs.Matches.{line_in}
use Rattle.physical.specs.Indexes.{numbers_index}
use Rattle.labels.proofs.Indexed.{past-get}
use Rattle.labels.proofs.accesses.push_line.Goals as goal

pub returns : goal.returns
returns c =
    let L = c.args.log.now in
    let instance = c.in-Get.instance in
    let there = sym c.member.ensures ∙ ap (option_map line_in) c.in-Some.is in
    on_ok_weaker c.push_accesses.result (λ has.
    past-get L.instances L.log c.args.line instance c.in_ok-count.count (line_in c.in-Some.member) c.args.found.now.items c.push_accesses.new.found.items there c.in-Get.is
    (λ i. ap (λ (all : List TableInstance). numbers_index (slice_get all instance) i) (sym c.instances.ensures) ∙ c.in_ok-count.ensures i) has) c.push_accesses.ensures
