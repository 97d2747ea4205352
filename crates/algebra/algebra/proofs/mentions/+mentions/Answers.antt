use Rattle.std.proofs.Common.{refl, ap, sym, ◌∙◌}
use Rattle.algebra.specs.Conditions.{mentions}
use Rattle.algebra.specs.GivenColumns.{given_columns, given_free}
use Rattle.algebra.proofs.MentionedColumns.{mentions-Compare, mentions-IsNull, mentions-Not, mentions-And, mentions-Or, mentions-Exists, mentions-In, on_ok, also_same, also_both, also_parts}
use Rattle.algebra.proofs.mentions.+mentions.Goals as goal

pub add_mentioned-returns-in_ok-add_term-in-Compare : goal.add_mentioned-returns-in_ok-add_term-in-Compare
add_mentioned-returns-in_ok-add_term-in-Compare t c =
    on_ok _ (also_both _ _ _ _ _ _
    (λ k. sym (ap (λ d. mentions d (given_columns c.args.classes) (given_free c.args.classes) k) c.in-Compare.is ∙ mentions-Compare _ _ k c.in-Compare.field-0 c.in-Compare.a c.in-Compare.b))
    c.in_ok-add_term-in-Compare.ensures) c.add_term-in-Compare.ensures

pub add_mentioned-returns-in-IsNull : goal.add_mentioned-returns-in-IsNull
add_mentioned-returns-in-IsNull t c =
    on_ok _ (also_same _ _ _ _ (λ k. sym (ap (λ d. mentions d (given_columns c.args.classes) (given_free c.args.classes) k) c.in-IsNull.is ∙ mentions-IsNull _ _ k c.in-IsNull.a))) c.add_term-in-IsNull.ensures

pub add_mentioned-returns-in-Not : goal.add_mentioned-returns-in-Not
add_mentioned-returns-in-Not t c =
    on_ok _ (also_same _ _ _ _ (λ k.
    ap (λ d. mentions d (given_columns c.args.classes) (given_free c.args.classes) k) c.get.ensures
    ∙ sym (ap (λ d. mentions d (given_columns c.args.classes) (given_free c.args.classes) k) c.in-Not.is ∙ mentions-Not _ _ k c.in-Not.part))) c.add_mentioned.ensures

pub add_mentioned-returns-in_ok-add_mentioned-in-And-2 : goal.add_mentioned-returns-in_ok-add_mentioned-in-And-2
add_mentioned-returns-in_ok-add_mentioned-in-And-2 t c =
    on_ok _ (also_parts _ _ c.args.condition.now c.in-And.a c.in-And.b _ _ _ c.in-And.more _ _ _ _
    (λ k. ap (λ d. mentions d (given_columns c.args.classes) (given_free c.args.classes) k) c.in-And.is ∙ mentions-And _ _ k c.in-And.a c.in-And.b c.in-And.more)
    c.get-in-And.ensures c.get-in-And-2.ensures c.as_slice.ensures c.in_ok-add_mentioned-in-And.ensures c.in_ok-add_mentioned-in-And-2.ensures) c.add_all_mentioned.ensures

pub add_mentioned-returns-in_ok-add_mentioned-in-Or-2 : goal.add_mentioned-returns-in_ok-add_mentioned-in-Or-2
add_mentioned-returns-in_ok-add_mentioned-in-Or-2 t c =
    on_ok _ (also_parts _ _ c.args.condition.now c.in-Or.a c.in-Or.b _ _ _ c.in-Or.more _ _ _ _
    (λ k. ap (λ d. mentions d (given_columns c.args.classes) (given_free c.args.classes) k) c.in-Or.is ∙ mentions-Or _ _ k c.in-Or.a c.in-Or.b c.in-Or.more)
    c.get-in-Or.ensures c.get-in-Or-2.ensures c.as_slice-in-Or.ensures c.in_ok-add_mentioned-in-Or.ensures c.in_ok-add_mentioned-in-Or-2.ensures) c.add_all_mentioned-in-Or.ensures

pub add_mentioned-returns-in-Exists : goal.add_mentioned-returns-in-Exists
add_mentioned-returns-in-Exists t c =
    on_ok _ (also_same _ _ _ _ (λ k. sym (ap (λ d. mentions d (given_columns c.args.classes) (given_free c.args.classes) k) c.in-Exists.is ∙ mentions-Exists _ _ k c.in-Exists.class))) c.add_free.ensures

pub add_mentioned-returns-in_ok-add_free-in-In : goal.add_mentioned-returns-in_ok-add_free-in-In
add_mentioned-returns-in_ok-add_free-in-In t c =
    on_ok _ (also_both _ _ _ _ _ _
    (λ k. sym (ap (λ d. mentions d (given_columns c.args.classes) (given_free c.args.classes) k) c.in-In.is ∙ mentions-In _ _ k c.in-In.a c.in-In.class c.in-In.column))
    (also_both _ _ _ _ _ _ (λ k. refl) c.in_ok-add_term-in-In.ensures c.in_ok-add_free-in-In.ensures)) c.add_lacking.ensures
