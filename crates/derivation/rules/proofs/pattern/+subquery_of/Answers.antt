use Rattle.std.proofs.Common.{ap, sym, ◌∙◌}
use Rattle.rules.specs.Patterns.{subquery_of}
use Rattle.rules.proofs.Subqueries.{subquery-Compare, subquery-IsNull, subquery-Not, subquery-And, subquery-Or, subquery-Exists, subquery-In}
use Rattle.rules.proofs.pattern.+subquery_of.Goals as goal

pub returns-in-Exists : goal.returns-in-Exists
returns-in-Exists t c = sym (ap subquery_of c.in-Exists.is ∙ subquery-Exists c.in-Exists.class)

pub returns-in-In : goal.returns-in-In
returns-in-In t c = sym (ap subquery_of c.in-In.is ∙ subquery-In c.in-In.field-0 c.in-In.class c.in-In.field-2)

pub returns-in-Not : goal.returns-in-Not
returns-in-Not t c = c.subquery_of.ensures ∙ ap subquery_of c.get.ensures ∙ sym (ap subquery_of c.in-Not.is ∙ subquery-Not c.in-Not.part)

pub returns-in-Compare : goal.returns-in-Compare
returns-in-Compare t c = sym (ap subquery_of c.in-Compare.is ∙ subquery-Compare c.in-Compare.field-0 c.in-Compare.field-1 c.in-Compare.field-2)

pub returns-in-IsNull : goal.returns-in-IsNull
returns-in-IsNull t c = sym (ap subquery_of c.in-IsNull.is ∙ subquery-IsNull c.in-IsNull.field-0)

pub returns-in-And : goal.returns-in-And
returns-in-And t c = sym (ap subquery_of c.in-And.is ∙ subquery-And c.in-And.field-0 c.in-And.field-1 c.in-And.field-2)

pub returns-in-Or : goal.returns-in-Or
returns-in-Or t c = sym (ap subquery_of c.in-Or.is ∙ subquery-Or c.in-Or.field-0 c.in-Or.field-1 c.in-Or.field-2)
