use Rattle.std.proofs.Common.{ap, sym, ◌∙◌, ◌&&◌}
use Rattle.algebra.proofs.Lists.{two}
use Rattle.operators.specs.Existence.{ask_existence, asks_existence}
use Rattle.operators.proofs.AskedExistence.{asks-Compare, asks-IsNull, asks-Not, asks-And, asks-Or, asks-Exists, asks-In}
use Rattle.operators.proofs.listed.+asked.Goals as goal

pub asked_column-returns-in-Compare : goal.asked_column-returns-in-Compare
asked_column-returns-in-Compare t c = sym (ap (asks_existence c.args.class) c.in-Compare.is ∙ asks-Compare _ _ _ c.args.class)

pub asked_column-returns-in-IsNull : goal.asked_column-returns-in-IsNull
asked_column-returns-in-IsNull t c = sym (ap (asks_existence c.args.class) c.in-IsNull.is ∙ asks-IsNull _ c.args.class)

pub asked_column-returns-in-Not : goal.asked_column-returns-in-Not
asked_column-returns-in-Not t c = c.asked_column.ensures ∙ ap (asks_existence c.args.class) c.get.ensures ∙ sym (ap (asks_existence c.args.class) c.in-Not.is ∙ asks-Not _ c.args.class)

pub asked_column-returns-in-And : goal.asked_column-returns-in-And
asked_column-returns-in-And t c =
    let g = c.args.class in
    c.first_of.ensures
    ∙ two (λ a b. a && b) (c.asked_column-in-And.ensures ∙ ap (asks_existence g) c.get-in-And.ensures)
    (two (λ a b. a && b) (c.asked_column-in-And-2.ensures ∙ ap (asks_existence g) c.get-in-And-2.ensures) (c.column_asked_by_some.ensures ∙ ap (λ cs. ask_existence cs g) c.as_slice.ensures))
    ∙ sym (ap (asks_existence g) c.in-And.is ∙ asks-And _ _ _ g)

pub asked_column-returns-in-Or : goal.asked_column-returns-in-Or
asked_column-returns-in-Or t c =
    let g = c.args.class in
    c.first_of-in-Or.ensures
    ∙ two (λ a b. a && b) (c.asked_column-in-Or.ensures ∙ ap (asks_existence g) c.get-in-Or.ensures)
    (two (λ a b. a && b) (c.asked_column-in-Or-2.ensures ∙ ap (asks_existence g) c.get-in-Or-2.ensures) (c.column_asked_by_some-in-Or.ensures ∙ ap (λ cs. ask_existence cs g) c.as_slice-in-Or.ensures))
    ∙ sym (ap (asks_existence g) c.in-Or.is ∙ asks-Or _ _ _ g)

pub asked_column-returns-in-Exists : goal.asked_column-returns-in-Exists
asked_column-returns-in-Exists t c = sym (ap (asks_existence c.args.class) c.in-Exists.is ∙ asks-Exists _ c.args.class)

pub asked_column-returns-in-In : goal.asked_column-returns-in-In
asked_column-returns-in-In t c = c.column_if.ensures ∙ sym (ap (asks_existence c.args.class) c.in-In.is ∙ asks-In _ _ _ c.args.class)
