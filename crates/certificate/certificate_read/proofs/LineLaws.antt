-- Expressions, steps, facts and lines are told by their words.
use Rattle.std.proofs.Common.{rules, ◌≡◌, Bool, if◌then◌else◌, List, [], ◌∷◌, Option, Some, None, refl, sym, ◌∙◌, ap, codes}
use lib.Dec.{eqb}
use lib.Pointwise.{pointwise}
use Rattle.algebra.specs.declared.expr.Expr.{Expr}
use Rattle.algebra.specs.declared.expr.Expr.TheVariants.{Get, Select, Join, LeftJoin, Semi, Anti, Keep, Distinct, Group}
use Rattle.props.specs.declared.fact.Fact.{Fact}
use Rattle.props.specs.declared.fact.Fact.TheVariants.{NotNull, WeakKey, StrongKey}
use Rattle.book.specs.Book as book
use Rattle.book.specs.Book.{code_of}
use Rattle.book.specs.declared.names.RuleName.{RuleName}
use Rattle.book.proofs.RuleLaws.{each_rule}
use Rattle.derivation.specs.declared.line.Step.{Step}
use Rattle.derivation.specs.declared.line.Line.{Line}
use Rattle.derivation.specs.declared.line.Line.TheVariants.{Founds, Adds, Unites, Alike, Gives}
use Rattle.certificate_text.specs.CertificateText.{Text}
use Rattle.certificate_read.specs.declared.forms.ExprForm.{ExprForm}
use Rattle.certificate_read.specs.declared.forms.ExprForm.TheVariants as expr
use Rattle.certificate_read.specs.declared.forms.FactForm.{FactForm}
use Rattle.certificate_read.specs.declared.forms.FactForm.TheVariants as fact
use Rattle.certificate_read.specs.declared.forms.LineForm.{LineForm}
use Rattle.certificate_read.specs.declared.forms.LineForm.TheVariants as line
use Rattle.certificate_read.specs.LineReading.{expr_name, fact_name, line_name, ExprParts, AnyExpr, expr_behind, expr_parts, expr_wording, rule_wording, StepParts, step_parts, step_wording, FactParts, AnyFact, fact_behind, fact_parts, fact_wording, LineParts, AnyLine, line_behind, line_parts, line_wording}
use Rattle.certificate_read.specs.Wordings.{IsAny, IsNever}
use Rattle.certificate_read.proofs.WideConjuncts.{conjuncts_told}
use Rattle.certificate_read.proofs.WordLaws.{number_told, numbers_told, columns_told, added_told, sides_told}
use Rattle.certificate_read.proofs.Wordings.{AreTold, one_told, both_told, named_told, parts_told}

-- ---- names

abbrev pub is_text : Text → Text → Bool
is_text v w = pointwise eqb v w

abbrev expr_at : Text → ExprForm
expr_at w =
    if is_text w (codes "get") then expr.Get else if is_text w (codes "select") then expr.Select else if is_text w (codes "join") then expr.Join else if is_text w (codes "left") then expr.LeftJoin
    else if is_text w (codes "semi") then expr.Semi else if is_text w (codes "anti") then expr.Anti else if is_text w (codes "keep") then expr.Keep else if is_text w (codes "distinct") then expr.Distinct else expr.Group

at_expr : (f : ExprForm) → expr_at (expr_name f) ≡ f
at_expr expr.Get = refl
at_expr expr.Select = refl
at_expr expr.Join = refl
at_expr expr.LeftJoin = refl
at_expr expr.Semi = refl
at_expr expr.Anti = refl
at_expr expr.Keep = refl
at_expr expr.Distinct = refl
at_expr expr.Group = refl

pub expr_names : (f g : ExprForm) → expr_name f ≡ expr_name g → f ≡ g
expr_names f g e = sym (at_expr f) ∙ ap expr_at e ∙ at_expr g

abbrev fact_at : Text → FactForm
fact_at w = if is_text w (codes "notnull") then fact.NotNull else if is_text w (codes "weak") then fact.WeakKey else fact.StrongKey

at_fact : (f : FactForm) → fact_at (fact_name f) ≡ f
at_fact fact.NotNull = refl
at_fact fact.WeakKey = refl
at_fact fact.StrongKey = refl

pub fact_names : (f g : FactForm) → fact_name f ≡ fact_name g → f ≡ g
fact_names f g e = sym (at_fact f) ∙ ap fact_at e ∙ at_fact g

abbrev line_at : Text → LineForm
line_at w =
    if is_text w (codes "F") then line.Founds else if is_text w (codes "A") then line.Adds else if is_text w (codes "S") then line.Unites else if is_text w (codes "G") then line.Alike else line.Gives

at_line : (f : LineForm) → line_at (line_name f) ≡ f
at_line line.Founds = refl
at_line line.Adds = refl
at_line line.Unites = refl
at_line line.Alike = refl
at_line line.Gives = refl

pub line_names : (f g : LineForm) → line_name f ≡ line_name g → f ≡ g
line_names f g e = sym (at_line f) ∙ ap line_at e ∙ at_line g

-- ---- rules

-- the first of the rules with this code
abbrev first_with : Text → List RuleName → Option RuleName
first_with w [] = None
first_with w (r ∷ R) = if is_text w (code_of r) then Some r else first_with w R

at_rule : (r : RuleName) → first_with (code_of r) book.rules ≡ Some r
at_rule = each_rule (λ r. first_with (code_of r) book.rules ≡ Some r) (search rules)

codes_differ : (r s : RuleName) → code_of r ≡ code_of s → r ≡ s
codes_differ r s e = let same : Some r ≡ Some s = sym (at_rule r) ∙ ap (λ w. first_with w book.rules) e ∙ at_rule s in cc

pub rule_told : AreTold rule_wording
rule_told = one_told code_of IsAny IsAny IsNever (λ x y h k e. codes_differ x y e) (λ x h over. over)

-- ---- expressions

abbrev pub expr_of : (form : ExprForm) → ExprParts form → Expr
expr_of expr.Get o = Get o
expr_of expr.Select p = Select p.0 p.1
expr_of expr.Join p = Join p.0 p.1.0 p.1.1
expr_of expr.LeftJoin p = LeftJoin p.0 p.1.0 p.1.1
expr_of expr.Semi p = Semi p.0 p.1.0 p.1.1
expr_of expr.Anti p = Anti p.0 p.1.0 p.1.1.0 p.1.1.1
expr_of expr.Keep p = Keep p.0 p.1
expr_of expr.Distinct x = Distinct x
expr_of expr.Group p = Group p.0 p.1.0 p.1.1

pub expr_back : (form : ExprForm) (p : ExprParts form) → ◌≡◌ {A = AnyExpr} (expr_parts (expr_of form p)) (form, p)
expr_back expr.Get o = refl
expr_back expr.Select p = refl
expr_back expr.Join p = refl
expr_back expr.LeftJoin p = refl
expr_back expr.Semi p = refl
expr_back expr.Anti p = refl
expr_back expr.Keep p = refl
expr_back expr.Distinct x = refl
expr_back expr.Group p = refl

expr_made : (x : Expr) → expr_of (expr_parts x).0 (expr_parts x).1 ≡ x
expr_made (Get o) = refl
expr_made (Select C x) = refl
expr_made (Join C a b) = refl
expr_made (LeftJoin C a b) = refl
expr_made (Semi C a b) = refl
expr_made (Anti S M a b) = refl
expr_made (Keep K x) = refl
expr_made (Distinct x) = refl
expr_made (Group K G x) = refl

expr_behind_told : (form : ExprForm) → AreTold (expr_behind form)
expr_behind_told expr.Get = number_told
expr_behind_told expr.Select = both_told conjuncts_told number_told
expr_behind_told expr.Join = sides_told
expr_behind_told expr.LeftJoin = sides_told
expr_behind_told expr.Semi = sides_told
expr_behind_told expr.Anti = both_told conjuncts_told sides_told
expr_behind_told expr.Keep = both_told columns_told number_told
expr_behind_told expr.Distinct = number_told
expr_behind_told expr.Group = both_told columns_told (both_told added_told number_told)

pub expr_told : AreTold expr_wording
expr_told = parts_told expr_parts (λ x. expr_of x.0 x.1) expr_made (named_told expr_name expr_behind expr_names expr_behind_told)

-- ---- steps

abbrev pub step_of : StepParts → Step
step_of p = record { rule = p.0; pick = p.1.0; uses = p.1.1.0; makes = p.1.1.1 }

pub step_told : AreTold step_wording
step_told = parts_told step_parts step_of (λ s. refl) (both_told rule_told (both_told number_told (both_told numbers_told numbers_told)))

-- ---- facts

abbrev pub fact_of : (form : FactForm) → FactParts form → Fact
fact_of fact.NotNull c = NotNull c
fact_of fact.WeakKey K = WeakKey K
fact_of fact.StrongKey K = StrongKey K

pub fact_back : (form : FactForm) (p : FactParts form) → ◌≡◌ {A = AnyFact} (fact_parts (fact_of form p)) (form, p)
fact_back fact.NotNull c = refl
fact_back fact.WeakKey K = refl
fact_back fact.StrongKey K = refl

fact_made : (f : Fact) → fact_of (fact_parts f).0 (fact_parts f).1 ≡ f
fact_made (NotNull c) = refl
fact_made (WeakKey K) = refl
fact_made (StrongKey K) = refl

fact_behind_told : (form : FactForm) → AreTold (fact_behind form)
fact_behind_told fact.NotNull = number_told
fact_behind_told fact.WeakKey = columns_told
fact_behind_told fact.StrongKey = columns_told

pub fact_told : AreTold fact_wording
fact_told = parts_told fact_parts (λ x. fact_of x.0 x.1) fact_made (named_told fact_name fact_behind fact_names fact_behind_told)

-- ---- lines

abbrev pub line_of : (form : LineForm) → LineParts form → Line
line_of line.Founds x = Founds x
line_of line.Adds p = Adds p.0 p.1.0 p.1.1
line_of line.Unites p = Unites p.0 p.1.0 p.1.1
line_of line.Alike p = Alike p.0 p.1
line_of line.Gives p = Gives p.0 p.1.0 p.1.1

pub line_back : (form : LineForm) (p : LineParts form) → ◌≡◌ {A = AnyLine} (line_parts (line_of form p)) (form, p)
line_back line.Founds x = refl
line_back line.Adds p = refl
line_back line.Unites p = refl
line_back line.Alike p = refl
line_back line.Gives p = refl

line_made : (l : Line) → line_of (line_parts l).0 (line_parts l).1 ≡ l
line_made (Founds x) = refl
line_made (Adds g s x) = refl
line_made (Unites g h s) = refl
line_made (Alike i j) = refl
line_made (Gives g m f) = refl

line_behind_told : (form : LineForm) → AreTold (line_behind form)
line_behind_told line.Founds = expr_told
line_behind_told line.Adds = both_told number_told (both_told step_told expr_told)
line_behind_told line.Unites = both_told number_told (both_told number_told step_told)
line_behind_told line.Alike = both_told number_told number_told
line_behind_told line.Gives = both_told number_told (both_told number_told fact_told)

pub line_told : AreTold line_wording
line_told = parts_told line_parts (λ x. line_of x.0 x.1) line_made (named_told line_name line_behind line_names line_behind_told)
