use Rattle.std.proofs.Common.{sym, ap, ◌∙◌, ◌++◌}
use Rattle.std.proofs.lemmas.Result.{on_ok_weaker}
use Rattle.explain.specs.ConditionTexts as spec
use Rattle.explain.proofs.ConditionTexts.{form-Compare, added-IsNull, added-Not, added-And, added-Or, form-Exists, added-In}
use Rattle.explain.proofs.condition_text.+conditions.Goals as goal

pub push_form-returns-in-Compare : goal.push_form-returns-in-Compare
push_form-returns-in-Compare t c =
    let names = c.args.names.now in
    let old = c.args.text.now.items in
    on_ok_weaker c.push_comparison.result
    (λ last. last ∙ ap (λ x. old ++ x) (sym (form-Compare names c.in-Compare.comparison c.in-Compare.a c.in-Compare.b)) ∙ ap (λ d. old ++ spec.condition_text names d) (sym c.in-Compare.is)) c.push_comparison.ensures

pub push_form-returns-in_ok-push_term-in-IsNull : goal.push_form-returns-in_ok-push_term-in-IsNull
push_form-returns-in_ok-push_term-in-IsNull t c =
    let names = c.args.names.now in
    let old = c.args.text.now.items in
    on_ok_weaker c.push_text.result
    (λ last. added-IsNull names c.in-IsNull.a old _ _ c.in_ok-push_term-in-IsNull.ensures last ∙ ap (λ d. old ++ spec.condition_text names d) (sym c.in-IsNull.is)) c.push_text.ensures

pub push_form-returns-in_ok-push_condition-in-Not : goal.push_form-returns-in_ok-push_condition-in-Not
push_form-returns-in_ok-push_condition-in-Not t c =
    let names = c.args.names.now in
    let old = c.args.text.now.items in
    on_ok_weaker c.push_text-in-Not.result
    (λ last. added-Not names c.in-Not.part old _ _ (rw c.get.ensures at c.in_ok-push_condition-in-Not.ensures) last ∙ ap (λ d. old ++ spec.condition_text names d) (sym c.in-Not.is)) c.push_text-in-Not.ensures

pub push_form-returns-in_ok-push_more-in-And : goal.push_form-returns-in_ok-push_more-in-And
push_form-returns-in_ok-push_more-in-And t c =
    let names = c.args.names.now in
    let old = c.args.text.now.items in
    on_ok_weaker c.push_text-in-And.result
    (λ last. added-And names c.in-And.a c.in-And.b c.in-And.more old _ _ _ _ (rw c.get-in-And.ensures at c.in_ok-push_condition-in-And.ensures) (rw c.get-in-And-2.ensures at c.in_ok-push_condition-in-And-2.ensures) (rw c.as_slice.ensures at c.in_ok-push_more-in-And.ensures) last
    ∙ ap (λ d. old ++ spec.condition_text names d) (sym c.in-And.is)) c.push_text-in-And.ensures

pub push_form-returns-in_ok-push_more-in-Or : goal.push_form-returns-in_ok-push_more-in-Or
push_form-returns-in_ok-push_more-in-Or t c =
    let names = c.args.names.now in
    let old = c.args.text.now.items in
    on_ok_weaker c.push_text-in-Or.result
    (λ last. added-Or names c.in-Or.a c.in-Or.b c.in-Or.more old _ _ _ _ (rw c.get-in-Or.ensures at c.in_ok-push_condition-in-Or.ensures) (rw c.get-in-Or-2.ensures at c.in_ok-push_condition-in-Or-2.ensures) (rw c.as_slice-in-Or.ensures at c.in_ok-push_more-in-Or.ensures) last
    ∙ ap (λ d. old ++ spec.condition_text names d) (sym c.in-Or.is)) c.push_text-in-Or.ensures

pub push_form-returns-in-Exists : goal.push_form-returns-in-Exists
push_form-returns-in-Exists t c =
    let names = c.args.names.now in
    let old = c.args.text.now.items in
    on_ok_weaker c.push_number.result
    (λ last. last ∙ ap (λ x. old ++ x) (sym (form-Exists names c.in-Exists.class)) ∙ ap (λ d. old ++ spec.condition_text names d) (sym c.in-Exists.is)) c.push_number.ensures

pub push_form-returns-in_ok-push_term-in-In : goal.push_form-returns-in_ok-push_term-in-In
push_form-returns-in_ok-push_term-in-In t c =
    let names = c.args.names.now in
    let old = c.args.text.now.items in
    on_ok_weaker c.push_number-in-In.result
    (λ last. added-In names c.in-In.a c.in-In.class c.in-In.field-2 old _ _ c.in_ok-push_term-in-In.ensures last ∙ ap (λ d. old ++ spec.condition_text names d) (sym c.in-In.is)) c.push_number-in-In.ensures
