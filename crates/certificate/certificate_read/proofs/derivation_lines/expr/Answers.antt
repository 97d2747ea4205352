use Rattle.std.proofs.Common.{◌≡◌, refl}
use Rattle.algebra.specs.declared.expr.Expr.TheVariants.{Get, Join, LeftJoin, Semi, Distinct}
use Rattle.certificate_read.specs.declared.forms.ExprForm.TheVariants as form
use Rattle.certificate_read.specs.LineReading.{expr_wording, expr_name, expr_behind, expr_parts}
use Rattle.certificate_read.specs.WordReading.{number_wording, sides_wording}
use Rattle.certificate_read.proofs.LineLaws.{expr_of, expr_back, expr_names}
use Rattle.certificate_read.proofs.Wordings.{passes_made, passes_more, handed_on, chosen_given, chosen_refused, chosen_reads}
use Rattle.certificate_read.proofs.derivation_lines.expr.Goals as goal

pub returns-in_err-number-in-Get : goal.returns-in_err-number-in-Get
returns-in_err-number-in-Get c =
    handed_on expr_wording (λ y. y) c.args.words.now c.number.new.self c.from_residual-in_err-number-in-Get.result c.in_err-number-in-Get.field-0.0 c.from_residual-in_err-number-in-Get.ensures.1
    (chosen_refused expr_name expr_behind expr_parts expr_of expr_back expr_names c.args.words.now c.expr_form.new.words c.in_ok-expr_form.field-0 form.Get c.in-Get.is c.in_ok-expr_form.ensures c.in_err-number-in-Get.field-0.0 c.in_err-number-in-Get.ensures)

pub returns-in_ok-number-in-Get : goal.returns-in_ok-number-in-Get
returns-in_ok-number-in-Get c =
    chosen_given expr_name expr_behind expr_parts expr_of expr_back expr_names c.args.words.now c.expr_form.new.words c.in_ok-expr_form.field-0 form.Get c.in-Get.is c.in_ok-expr_form.ensures c.number.new.self _
    (passes_made number_wording Get c.in_ok-number-in-Get.field-0 _ c.expr_form.new.words c.number.new.self refl c.in_ok-number-in-Get.ensures)

pub returns-in-Select : goal.returns-in-Select
returns-in-Select c =
    chosen_reads expr_name expr_behind expr_parts expr_of expr_back expr_names c.args.words.now c.expr_form.new.words c.in_ok-expr_form.field-0 form.Select c.in-Select.is c.in_ok-expr_form.ensures c.select.new.words c.select.result c.select.ensures

pub returns-in_err-conjuncts-in-Join : goal.returns-in_err-conjuncts-in-Join
returns-in_err-conjuncts-in-Join c =
    handed_on expr_wording (λ y. y) c.args.words.now c.sides.new.self c.from_residual-in_err-conjuncts-in-Join.result c.in_err-conjuncts-in-Join.field-0.0 c.from_residual-in_err-conjuncts-in-Join.ensures.1
    (chosen_refused expr_name expr_behind expr_parts expr_of expr_back expr_names c.args.words.now c.expr_form.new.words c.in_ok-expr_form.field-0 form.Join c.in-Join.is c.in_ok-expr_form.ensures c.in_err-conjuncts-in-Join.field-0.0 c.in_err-conjuncts-in-Join.ensures)

pub returns-in_ok-conjuncts-in-Join : goal.returns-in_ok-conjuncts-in-Join
returns-in_ok-conjuncts-in-Join c =
    chosen_given expr_name expr_behind expr_parts expr_of expr_back expr_names c.args.words.now c.expr_form.new.words c.in_ok-expr_form.field-0 form.Join c.in-Join.is c.in_ok-expr_form.ensures c.sides.new.self _
    (passes_more sides_wording (λ s. (c.in_ok-conjuncts-in-Join.conjuncts, c.in_ok-conjuncts-in-Join.a, c.in_ok-conjuncts-in-Join.b) ≡ (s.0, s.1.0, s.1.1)) (λ s. Join c.in_ok-conjuncts-in-Join.conjuncts c.in_ok-conjuncts-in-Join.a c.in_ok-conjuncts-in-Join.b ≡ Join s.0 s.1.0 s.1.1) c.expr_form.new.words c.sides.new.self (λ s e i. Join (e i).0 (e i).1 (e i).2) c.in_ok-conjuncts-in-Join.ensures)

pub returns-in_err-conjuncts-in-LeftJoin : goal.returns-in_err-conjuncts-in-LeftJoin
returns-in_err-conjuncts-in-LeftJoin c =
    handed_on expr_wording (λ y. y) c.args.words.now c.sides-in-LeftJoin.new.self c.from_residual-in_err-conjuncts-in-LeftJoin.result c.in_err-conjuncts-in-LeftJoin.field-0.0 c.from_residual-in_err-conjuncts-in-LeftJoin.ensures.1
    (chosen_refused expr_name expr_behind expr_parts expr_of expr_back expr_names c.args.words.now c.expr_form.new.words c.in_ok-expr_form.field-0 form.LeftJoin c.in-LeftJoin.is c.in_ok-expr_form.ensures c.in_err-conjuncts-in-LeftJoin.field-0.0 c.in_err-conjuncts-in-LeftJoin.ensures)

pub returns-in_ok-conjuncts-in-LeftJoin : goal.returns-in_ok-conjuncts-in-LeftJoin
returns-in_ok-conjuncts-in-LeftJoin c =
    chosen_given expr_name expr_behind expr_parts expr_of expr_back expr_names c.args.words.now c.expr_form.new.words c.in_ok-expr_form.field-0 form.LeftJoin c.in-LeftJoin.is c.in_ok-expr_form.ensures c.sides-in-LeftJoin.new.self _
    (passes_more sides_wording (λ s. (c.in_ok-conjuncts-in-LeftJoin.conjuncts, c.in_ok-conjuncts-in-LeftJoin.a, c.in_ok-conjuncts-in-LeftJoin.b) ≡ (s.0, s.1.0, s.1.1)) (λ s. LeftJoin c.in_ok-conjuncts-in-LeftJoin.conjuncts c.in_ok-conjuncts-in-LeftJoin.a c.in_ok-conjuncts-in-LeftJoin.b ≡ LeftJoin s.0 s.1.0 s.1.1) c.expr_form.new.words c.sides-in-LeftJoin.new.self (λ s e i. LeftJoin (e i).0 (e i).1 (e i).2) c.in_ok-conjuncts-in-LeftJoin.ensures)

pub returns-in_err-conjuncts-in-Semi : goal.returns-in_err-conjuncts-in-Semi
returns-in_err-conjuncts-in-Semi c =
    handed_on expr_wording (λ y. y) c.args.words.now c.sides-in-Semi.new.self c.from_residual-in_err-conjuncts-in-Semi.result c.in_err-conjuncts-in-Semi.field-0.0 c.from_residual-in_err-conjuncts-in-Semi.ensures.1
    (chosen_refused expr_name expr_behind expr_parts expr_of expr_back expr_names c.args.words.now c.expr_form.new.words c.in_ok-expr_form.field-0 form.Semi c.in-Semi.is c.in_ok-expr_form.ensures c.in_err-conjuncts-in-Semi.field-0.0 c.in_err-conjuncts-in-Semi.ensures)

pub returns-in_ok-conjuncts-in-Semi : goal.returns-in_ok-conjuncts-in-Semi
returns-in_ok-conjuncts-in-Semi c =
    chosen_given expr_name expr_behind expr_parts expr_of expr_back expr_names c.args.words.now c.expr_form.new.words c.in_ok-expr_form.field-0 form.Semi c.in-Semi.is c.in_ok-expr_form.ensures c.sides-in-Semi.new.self _
    (passes_more sides_wording (λ s. (c.in_ok-conjuncts-in-Semi.conjuncts, c.in_ok-conjuncts-in-Semi.a, c.in_ok-conjuncts-in-Semi.b) ≡ (s.0, s.1.0, s.1.1)) (λ s. Semi c.in_ok-conjuncts-in-Semi.conjuncts c.in_ok-conjuncts-in-Semi.a c.in_ok-conjuncts-in-Semi.b ≡ Semi s.0 s.1.0 s.1.1) c.expr_form.new.words c.sides-in-Semi.new.self (λ s e i. Semi (e i).0 (e i).1 (e i).2) c.in_ok-conjuncts-in-Semi.ensures)

pub returns-in-Anti : goal.returns-in-Anti
returns-in-Anti c =
    chosen_reads expr_name expr_behind expr_parts expr_of expr_back expr_names c.args.words.now c.expr_form.new.words c.in_ok-expr_form.field-0 form.Anti c.in-Anti.is c.in_ok-expr_form.ensures c.anti.new.words c.anti.result c.anti.ensures

pub returns-in-Keep : goal.returns-in-Keep
returns-in-Keep c =
    chosen_reads expr_name expr_behind expr_parts expr_of expr_back expr_names c.args.words.now c.expr_form.new.words c.in_ok-expr_form.field-0 form.Keep c.in-Keep.is c.in_ok-expr_form.ensures c.keep.new.words c.keep.result c.keep.ensures

pub returns-in_err-number-in-Distinct : goal.returns-in_err-number-in-Distinct
returns-in_err-number-in-Distinct c =
    handed_on expr_wording (λ y. y) c.args.words.now c.number-in-Distinct.new.self c.from_residual-in_err-number-in-Distinct.result c.in_err-number-in-Distinct.field-0.0 c.from_residual-in_err-number-in-Distinct.ensures.1
    (chosen_refused expr_name expr_behind expr_parts expr_of expr_back expr_names c.args.words.now c.expr_form.new.words c.in_ok-expr_form.field-0 form.Distinct c.in-Distinct.is c.in_ok-expr_form.ensures c.in_err-number-in-Distinct.field-0.0 c.in_err-number-in-Distinct.ensures)

pub returns-in_ok-number-in-Distinct : goal.returns-in_ok-number-in-Distinct
returns-in_ok-number-in-Distinct c =
    chosen_given expr_name expr_behind expr_parts expr_of expr_back expr_names c.args.words.now c.expr_form.new.words c.in_ok-expr_form.field-0 form.Distinct c.in-Distinct.is c.in_ok-expr_form.ensures c.number-in-Distinct.new.self _
    (passes_made number_wording Distinct c.in_ok-number-in-Distinct.field-0 _ c.expr_form.new.words c.number-in-Distinct.new.self refl c.in_ok-number-in-Distinct.ensures)

pub returns-in-Group : goal.returns-in-Group
returns-in-Group c =
    chosen_reads expr_name expr_behind expr_parts expr_of expr_back expr_names c.args.words.now c.expr_form.new.words c.in_ok-expr_form.field-0 form.Group c.in-Group.is c.in_ok-expr_form.ensures c.group.new.words c.group.result c.group.ensures
