use Rattle.std.proofs.Common.{◌≡◌, refl}
use Rattle.algebra.specs.declared.expr.Expr.TheVariants.{Anti}
use Rattle.certificate_read.specs.WordReading.{conjuncts_wording, sides_wording}
use Rattle.certificate_read.specs.Wordings.{◌␣◌, left_words}
use Rattle.certificate_read.proofs.WideConjuncts.{conjuncts_told}
use Rattle.certificate_read.proofs.Wordings.{passes_two, passes_made, passes_more, first_refused, second_refused, handed_on}
use Rattle.certificate_read.proofs.derivation_lines.anti.Goals as goal

pub returns-in_err-ordinary : goal.returns-in_err-ordinary
returns-in_err-ordinary c =
    handed_on (conjuncts_wording ␣ sides_wording) (λ p. Anti p.0 p.1.0 p.1.1.0 p.1.1.1) c.args.words.now c.conjuncts.new.self c.from_residual.result c.in_err-ordinary.field-0.0 c.from_residual.ensures.1
    (first_refused conjuncts_wording sides_wording (left_words c.args.words.now) c.in_err-ordinary.field-0.0 c.in_err-ordinary.ensures)

pub returns-in_err-null_aware : goal.returns-in_err-null_aware
returns-in_err-null_aware c =
    handed_on (conjuncts_wording ␣ sides_wording) (λ p. Anti p.0 p.1.0 p.1.1.0 p.1.1.1) c.args.words.now c.sides.new.self c.from_residual-in_err-null_aware.result c.in_err-null_aware.field-0.0 c.from_residual-in_err-null_aware.ensures.1
    (second_refused conjuncts_wording sides_wording conjuncts_told (λ x. c.in_ok-ordinary.ordinary ≡ x) c.args.words.now c.conjuncts.new.self c.in_err-null_aware.field-0.0 c.in_ok-ordinary.ensures
    c.in_err-null_aware.ensures)

pub returns : goal.returns
returns c =
    passes_made (conjuncts_wording ␣ sides_wording) (λ p. Anti p.0 p.1.0 p.1.1.0 p.1.1.1) (c.in_ok-ordinary.ordinary, (c.in_ok-null_aware.null_aware, (c.in_ok-null_aware.a, c.in_ok-null_aware.b))) _ c.args.words.now c.sides.new.self refl
    (passes_two conjuncts_wording sides_wording c.in_ok-ordinary.ordinary (c.in_ok-null_aware.null_aware, (c.in_ok-null_aware.a, c.in_ok-null_aware.b)) c.args.words.now c.conjuncts.new.self c.sides.new.self c.in_ok-ordinary.ensures
    (passes_more sides_wording (λ s. (c.in_ok-null_aware.null_aware, c.in_ok-null_aware.a, c.in_ok-null_aware.b) ≡ (s.0, s.1.0, s.1.1)) (λ s. (c.in_ok-null_aware.null_aware, (c.in_ok-null_aware.a, c.in_ok-null_aware.b)) ≡ s) c.conjuncts.new.self c.sides.new.self
    (λ s e i. ((e i).0, ((e i).1, (e i).2))) c.in_ok-null_aware.ensures))
