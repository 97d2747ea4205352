use Rattle.std.proofs.Common.{ap, sym, ◌∙◌}
use Rattle.values.specs.Cells.{value_of}
use Rattle.relations.proofs.ListedValues.{null-among, found-among, not-among, by-null}
use Rattle.relations.proofs.value_lists.ValueList.has.Goals as goal

pub returns-then-is_null : goal.returns-then-is_null
returns-then-is_null c = sym (null-among (value_of c.args.cell) c.args.self.now.values.keys (λ none. cc (c.if-is_empty.ensures.1 none)) (sym c.is_null.ensures ∙ c.if-is_null.true))

pub returns-then-contains : goal.returns-then-contains
returns-then-contains c = sym (found-among c.args.cell c.args.self.now.values.keys (sym c.is_null.ensures ∙ c.if-is_null.false) (sym c.contains.ensures ∙ c.if-contains.true))

pub returns-then-contains-2 : goal.returns-then-contains-2
returns-then-contains-2 c =
    sym (not-among c.args.cell c.args.self.now.values.keys (sym c.is_null.ensures ∙ c.if-is_null.false) (sym c.contains.ensures ∙ c.if-contains.false) ∙ ap by-null (sym c.contains-else-contains.ensures ∙ c.if-contains-2.true))

pub returns-else-contains-2 : goal.returns-else-contains-2
returns-else-contains-2 c =
    sym (not-among c.args.cell c.args.self.now.values.keys (sym c.is_null.ensures ∙ c.if-is_null.false) (sym c.contains.ensures ∙ c.if-contains.false) ∙ ap by-null (sym c.contains-else-contains.ensures ∙ c.if-contains-2.false))
