use Rattle.std.proofs.Common.{◌≡◌, subst, map, List, IfSome}
use Rattle.values.specs.declared.truth.Comparison.TheVariants as by
use Rattle.values.specs.Truth.{compare}
use Rattle.query.specs.Meaning.{any_of}
use Rattle.algebra.specs.Bags.{Env}
use Rattle.relations.specs.Relations.{given}
use Rattle.relations.specs.ValueLists.{among, values_in}
use Rattle.relations.proofs.ListedClasses.{first-listed, later-given}
use Rattle.relations.proofs.truth.+list_of.Goals as goal

pub returns-then-first-class : goal.returns-then-first-class
returns-then-first-class t c = λ e v.
    subst (λ (rows : List Env). IfSome c.list_of.result (λ list. any_of (map (λ s. compare by.Equal v (s c.args.column)) rows) ≡ among v (values_in list.now)))
    (later-given c.args.classes.now c.args.relations.now c.args.class e c.in-len1-up.len_at_least c.in-len1-up-relations.len_at_least c.if-first-class.true) (c.list_of.ensures e v)

pub returns-in-Some : goal.returns-in-Some
returns-in-Some t c = λ e v.
    subst (λ k. any_of (map (λ s. compare by.Equal v (s k)) (given c.args.classes.now c.args.relations.now c.args.class e)) ≡ among v (values_in c.in-Some.list)) c.if-list-column.true
    (first-listed c.args.classes.now c.args.relations.now c.args.lists.now c.args.class c.list-item.result c.in-Some.list c.in-len1-up.len_at_least c.in-len1-up-relations.len_at_least c.in-len1-up-lists.len_at_least
    c.if-first-class.false c.list-item.is c.in-Some.is c.requires e v)
