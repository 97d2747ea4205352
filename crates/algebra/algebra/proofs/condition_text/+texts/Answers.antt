use Rattle.std.proofs.Common.{sym, ap, ◌∙◌, ◌++◌, string_bytes}
use Rattle.std.proofs.lemmas.Result.{on_ok_weaker}
use Rattle.algebra.specs.ConjunctOrder as spec
use Rattle.algebra.proofs.TextEquations.{open-Compare, open-IsNull, open-Not, open-And, open-Or, open-Exists, open-In}
use Rattle.algebra.proofs.condition_text.+texts.Goals as goal

pub push_open-returns-in_ok-push_term-in-Compare : goal.push_open-returns-in_ok-push_term-in-Compare
push_open-returns-in_ok-push_term-in-Compare t c =
    on_ok_weaker c.push_term-in-Compare.result
    (λ last. open-Compare c.in-Compare.comparison c.in-Compare.a c.in-Compare.b (string_bytes c.args.text.now) _ _ _ _ c.comparison_text.ensures c.in_ok-push_str-in-Compare.ensures.bytes c.in_ok-push_term-in-Compare.ensures last
    ∙ ap (λ d. string_bytes c.args.text.now ++ spec.condition_text d) (sym c.in-Compare.is)) c.push_term-in-Compare.ensures

pub push_open-returns-in-IsNull : goal.push_open-returns-in-IsNull
push_open-returns-in-IsNull t c =
    on_ok_weaker c.push_term-in-IsNull.result
    (λ last. open-IsNull c.in-IsNull.a (string_bytes c.args.text.now) _ last ∙ ap (λ d. string_bytes c.args.text.now ++ spec.condition_text d) (sym c.in-IsNull.is)) c.push_term-in-IsNull.ensures

pub push_open-returns-in-Not : goal.push_open-returns-in-Not
push_open-returns-in-Not t c =
    on_ok_weaker c.push_condition.result
    (λ last. open-Not c.in-Not.part (string_bytes c.args.text.now) _ (rw c.get.ensures at last) ∙ ap (λ d. string_bytes c.args.text.now ++ spec.condition_text d) (sym c.in-Not.is)) c.push_condition.ensures

pub push_open-returns-in_ok-push_condition-in-And-2 : goal.push_open-returns-in_ok-push_condition-in-And-2
push_open-returns-in_ok-push_condition-in-And-2 t c =
    on_ok_weaker c.push_more.result
    (λ last. open-And c.in-And.a c.in-And.b c.in-And.more (string_bytes c.args.text.now) _ _ _ (rw c.get-in-And.ensures at c.in_ok-push_condition-in-And.ensures) (rw c.get-in-And-2.ensures at c.in_ok-push_condition-in-And-2.ensures) (rw c.as_slice.ensures at last)
    ∙ ap (λ d. string_bytes c.args.text.now ++ spec.condition_text d) (sym c.in-And.is)) c.push_more.ensures

pub push_open-returns-in_ok-push_condition-in-Or-2 : goal.push_open-returns-in_ok-push_condition-in-Or-2
push_open-returns-in_ok-push_condition-in-Or-2 t c =
    on_ok_weaker c.push_more-in-Or.result
    (λ last. open-Or c.in-Or.a c.in-Or.b c.in-Or.more (string_bytes c.args.text.now) _ _ _ (rw c.get-in-Or.ensures at c.in_ok-push_condition-in-Or.ensures) (rw c.get-in-Or-2.ensures at c.in_ok-push_condition-in-Or-2.ensures) (rw c.as_slice-in-Or.ensures at last)
    ∙ ap (λ d. string_bytes c.args.text.now ++ spec.condition_text d) (sym c.in-Or.is)) c.push_more-in-Or.ensures

pub push_open-returns-in-Exists : goal.push_open-returns-in-Exists
push_open-returns-in-Exists t c =
    on_ok_weaker c.push_number.result
    (λ last. open-Exists c.in-Exists.class (string_bytes c.args.text.now) _ last ∙ ap (λ d. string_bytes c.args.text.now ++ spec.condition_text d) (sym c.in-Exists.is)) c.push_number.ensures

pub push_open-returns-in_ok-push_number-in-In : goal.push_open-returns-in_ok-push_number-in-In
push_open-returns-in_ok-push_number-in-In t c =
    on_ok_weaker c.push_number-in-In-2.result
    (λ last. open-In c.in-In.a c.in-In.class c.in-In.column (string_bytes c.args.text.now) _ _ _ c.in_ok-push_term-in-In.ensures c.in_ok-push_number-in-In.ensures last
    ∙ ap (λ d. string_bytes c.args.text.now ++ spec.condition_text d) (sym c.in-In.is)) c.push_number-in-In-2.ensures
