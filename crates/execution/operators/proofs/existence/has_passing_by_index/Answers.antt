use Rattle.std.proofs.Common.{◌≡◌, ap, sym, ◌∙◌, subst, ℕ, Bool, filter, IfSome}
use Rattle.std.proofs.lemmas.Result.{IfOk-weaker}
use Rattle.algebra.specs.Conditions.{holds}
use Rattle.physical.specs.Outputs.{no_classes}
use Rattle.relations.specs.Relations.{env_of, numbered_env, numbers_of}
use Rattle.index_access.specs.Cuts.{columns_order}
use Rattle.operators.specs.Existence.{has_some}
use Rattle.operators.proofs.SomeRows.{some-filter, some-numbered, some-sorted}
use Rattle.operators.proofs.existence.has_passing_by_index.Goals as goal

pub returns-in-Some : goal.returns-in-Some
returns-in-Some c =
    let e = env_of c.args.env.now in
    let relation = c.args.relation.now in
    let p : ℕ → Bool = λ n. holds no_classes c.args.conditions.now (numbered_env relation e n) in
    let found = c.in-Some.found.now in
    let kept : filter p found ≡ filter p (numbers_of relation) =
    subst (λ found. IfSome found (λ n. filter p n.now ≡ filter p (numbers_of relation))) c.in-Some.is c.in_ok-found.ensures in
    IfOk-weaker c.has_passing_among.result _ _ (λ b is. is ∙ sym (some-filter p found) ∙ ap has_some kept ∙ some-filter p (numbers_of relation) ∙ some-numbered (holds no_classes c.args.conditions.now) relation e) c.has_passing_among.ensures

pub returns : goal.returns
returns c =
    let e = env_of c.args.env.now in
    let relation = c.args.relation.now in
    let row = numbered_env relation e in
    let p : ℕ → Bool = λ n. holds no_classes c.args.conditions.now (row n) in
    c.has_number.ensures ∙ ap has_some (c.as_slice.ensures.value ∙ c.in_ok-kept.ensures) ∙ some-sorted (columns_order row c.args.columns.now) (filter p (numbers_of relation)) ∙ some-filter p (numbers_of relation) ∙ some-numbered (holds no_classes c.args.conditions.now) relation e
