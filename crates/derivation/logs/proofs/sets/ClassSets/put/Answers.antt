use Rattle.std.proofs.Common.{ap, ◌∙◌, ◌++◌, [], ◌∷◌}
use Rattle.logs.specs.declared.sets.ClassSets.{ClassSets}
use Rattle.logs.proofs.PushedSets.{pushed-sets, pushed-roots, pushed-facts}
use Rattle.logs.proofs.sets.ClassSets.put.Goals as goal

pub returns-clause-sets : goal.returns-clause-sets
returns-clause-sets c =
    let t : ClassSets = record { sets = c.push_reserved.new.self; roots = c.push_reserved-2.new.self; members = c.push_reserved-3.new.self; facts = c.push_reserved-4.new.self } in
    let members = c.push_reserved-3.ensures.items ∙ ap (λ alone. c.args.self.now.members.items ++ alone ∷ []) c.one.ensures in
    let facts = c.push_reserved-4.ensures.items ∙ ap (λ none. c.args.self.now.facts.items ++ none ∷ []) c.none.ensures in
    pushed-sets c.args.self.now t c.requires.sets c.args.class c.requires.next c.push_reserved.ensures.items c.push_reserved-2.ensures.items members facts

pub returns-clause-roots : goal.returns-clause-roots
returns-clause-roots c =
    let t : ClassSets = record { sets = c.push_reserved.new.self; roots = c.push_reserved-2.new.self; members = c.push_reserved-3.new.self; facts = c.push_reserved-4.new.self } in
    let members = c.push_reserved-3.ensures.items ∙ ap (λ alone. c.args.self.now.members.items ++ alone ∷ []) c.one.ensures in
    let facts = c.push_reserved-4.ensures.items ∙ ap (λ none. c.args.self.now.facts.items ++ none ∷ []) c.none.ensures in
    pushed-roots c.args.self.now t c.requires.sets c.args.class c.requires.next c.push_reserved.ensures.items c.push_reserved-2.ensures.items members facts

pub returns-clause-facts : goal.returns-clause-facts
returns-clause-facts c =
    let t : ClassSets = record { sets = c.push_reserved.new.self; roots = c.push_reserved-2.new.self; members = c.push_reserved-3.new.self; facts = c.push_reserved-4.new.self } in
    let members = c.push_reserved-3.ensures.items ∙ ap (λ alone. c.args.self.now.members.items ++ alone ∷ []) c.one.ensures in
    let facts = c.push_reserved-4.ensures.items ∙ ap (λ none. c.args.self.now.facts.items ++ none ∷ []) c.none.ensures in
    pushed-facts c.args.self.now t c.requires.sets c.args.class c.requires.next c.push_reserved.ensures.items c.push_reserved-2.ensures.items members facts
