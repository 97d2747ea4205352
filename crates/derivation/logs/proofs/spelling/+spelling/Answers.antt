use Rattle.std.proofs.Common.{ap, sym, ◌∙◌, reverse, option_map}
use Rattle.derivation.specs.Logs as logs
use Rattle.logs.proofs.Equations.{no-line, no-expr, with-class}
use Rattle.logs.proofs.spelling.+spelling.Goals as goal

pub class_of-returns-in_err-line : goal.class_of-returns-in_err-line
class_of-returns-in_err-line t c =
    ap (option_map (λ p. (p.0, p.1.now))) c.from_residual.ensures
    ∙ sym (no-line (logs.member (reverse c.args.lines.now)) c.args.shape c.in_default.not-Class c.args.makes.now c.in_err-line.ensures.cases)

pub class_of-returns-in_err-expr : goal.class_of-returns-in_err-expr
class_of-returns-in_err-expr t c =
    let none = sym c.expr_of.ensures ∙ ap (option_map (λ p. (p.0, p.1.now))) c.in_err-expr.was in
    ap (option_map (λ p. (p.0, p.1.now))) c.from_residual-in_err-expr.ensures
    ∙ sym (no-expr (logs.member (reverse c.args.lines.now)) c.args.shape c.in_default.not-Class c.args.makes.now c.in_ok-line.line.now c.in_ok-line.inner.now c.in_ok-line.ensures.cases.0 none)

pub class_of-returns-in_err-class : goal.class_of-returns-in_err-class
class_of-returns-in_err-class t c =
    let some = sym c.expr_of.ensures ∙ ap (option_map (λ p. (p.0, p.1.now))) c.in_ok-expr.was in
    let none = sym c.class_with.ensures ∙ c.in_err-class.was in
    ap (option_map (λ p. (p.0, p.1.now))) c.from_residual-in_err-class.ensures
    ∙ sym (with-class (logs.member (reverse c.args.lines.now)) c.args.shape c.in_default.not-Class c.args.makes.now c.in_ok-line.line.now c.in_ok-line.inner.now c.in_ok-line.ensures.cases.0 c.in_ok-expr.expr c.in_ok-expr.rest.now _ some none)

pub class_of-returns : goal.class_of-returns
class_of-returns t c =
    let some = sym c.expr_of.ensures ∙ ap (option_map (λ p. (p.0, p.1.now))) c.in_ok-expr.was in
    let found = sym c.class_with.ensures ∙ c.in_ok-class.was in
    sym (with-class (logs.member (reverse c.args.lines.now)) c.args.shape c.in_default.not-Class c.args.makes.now c.in_ok-line.line.now c.in_ok-line.inner.now c.in_ok-line.ensures.cases.0 c.in_ok-expr.expr c.in_ok-expr.rest.now _ some found)
