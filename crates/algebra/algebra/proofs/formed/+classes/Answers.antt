use Rattle.std.proofs.Common.{◌≡◌, ◌∙◌, ap, true, nat_lt}
use Rattle.algebra.specs.Conditions.{all_classes}
use Rattle.algebra.specs.Expressions.{subqueries_pass}
use Rattle.algebra.proofs.Equations.{and_more, or_more}
use Rattle.algebra.proofs.formed.+classes.Goals as goal

pub names_below-returns-then-second : goal.names_below-returns-then-second
names_below-returns-then-second t c =
    let first : all_classes c.in-And.a (λ g. nat_lt g c.args.bound) ≡ true = rw (← c.get-in-And.ensures, ← c.names_below-first.ensures) c.if-first.true in
    let second : all_classes c.in-And.b (λ g. nat_lt g c.args.bound) ≡ true = rw (← c.get-in-And-2.ensures, ← c.names_below-second.ensures) c.if-second.true in
    c.all_name_below-more.ensures ∙ ap (subqueries_pass (λ g. nat_lt g c.args.bound)) c.as_slice.ensures
    ∙ and_more c.args.condition.now c.in-And.a c.in-And.b c.in-And.cs (λ g. nat_lt g c.args.bound) c.in-And.is first second

pub names_below-returns-then-second-2 : goal.names_below-returns-then-second-2
names_below-returns-then-second-2 t c =
    let first : all_classes c.in-Or.a (λ g. nat_lt g c.args.bound) ≡ true = rw (← c.get-in-Or.ensures, ← c.names_below-first-in-Or.ensures) c.if-first-2.true in
    let second : all_classes c.in-Or.b (λ g. nat_lt g c.args.bound) ≡ true = rw (← c.get-in-Or-2.ensures, ← c.names_below-second-in-Or.ensures) c.if-second-2.true in
    c.all_name_below-more-in-Or.ensures ∙ ap (subqueries_pass (λ g. nat_lt g c.args.bound)) c.as_slice-in-Or.ensures
    ∙ or_more c.args.condition.now c.in-Or.a c.in-Or.b c.in-Or.cs (λ g. nat_lt g c.args.bound) c.in-Or.is first second
