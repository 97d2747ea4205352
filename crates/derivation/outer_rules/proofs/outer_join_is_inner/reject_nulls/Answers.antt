use Rattle.std.proofs.Common.{rules, ◌≡◌, ap, ◌∙◌, ℕ, List}
use Rattle.algebra.specs.Columns.{has}
use Rattle.algebra.specs.GivenColumns.{given_columns}
use Rattle.props.specs.Outcomes.{never_true}
use Rattle.outer_rules.proofs.outer_join_is_inner.reject_nulls.Goals as goal

pub returns-in-Some : goal.returns-in-Some
returns-in-Some c =
    let are : c.in-Some.columns.now ≡ given_columns c.args.classes.columns c.args.class = search rules in
    c.reject_columns.ensures ∙ ap (λ (B : List ℕ). never_true c.args.conjuncts.now (has B)) are

pub returns-in-None : goal.returns-in-None
returns-in-None c =
    let are : c.from_vec.result ≡ given_columns c.args.classes.columns c.args.class = search rules in
    c.reject_columns-in-None-2.ensures ∙ ap (λ (B : List ℕ). never_true c.args.conjuncts.now (has B)) are
