-- How a derivation's lines are spelled.
use Rattle.std.specs.Prelude.{ℕ, List, codes}
use Rattle.algebra.specs.declared.condition.Condition.{Condition}
use Rattle.algebra.specs.declared.expr.Aggregation.{Aggregation}
use Rattle.algebra.specs.declared.expr.Expr.{Expr}
use Rattle.algebra.specs.declared.expr.Expr.TheVariants.{Get, Select, Join, LeftJoin, Semi, Anti, Keep, Distinct, Group}
use Rattle.props.specs.declared.fact.Fact.{Fact}
use Rattle.props.specs.declared.fact.Fact.TheVariants.{NotNull, WeakKey, StrongKey}
use Rattle.book.specs.Book.{code_of}
use Rattle.book.specs.declared.names.RuleName.{RuleName}
use Rattle.derivation.specs.declared.line.Step.{Step}
use Rattle.derivation.specs.declared.line.Line.{Line}
use Rattle.derivation.specs.declared.line.Line.TheVariants.{Founds, Adds, Unites, Alike, Gives}
use Rattle.certificate_text.specs.CertificateText.{Text}
use Rattle.certificate_read.specs.declared.forms.ExprForm.{ExprForm}
use Rattle.certificate_read.specs.declared.forms.ExprForm.TheVariants as expr
use Rattle.certificate_read.specs.declared.forms.FactForm.{FactForm}
use Rattle.certificate_read.specs.declared.forms.FactForm.TheVariants as fact
use Rattle.certificate_read.specs.declared.forms.LineForm.{LineForm}
use Rattle.certificate_read.specs.declared.forms.LineForm.TheVariants as line
use Rattle.certificate_read.specs.WordReading.{Sides, number_wording, numbers_wording, columns_wording, aggregations_wording, conjuncts_wording, sides_wording}
use Rattle.certificate_read.specs.Wordings.{Wording, ◌␣◌, one, named, by_parts, IsAny, IsNever}

-- ---- first words

abbrev pub expr_name : ExprForm → Text
expr_name expr.Get = codes "get"
expr_name expr.Select = codes "select"
expr_name expr.Join = codes "join"
expr_name expr.LeftJoin = codes "left"
expr_name expr.Semi = codes "semi"
expr_name expr.Anti = codes "anti"
expr_name expr.Keep = codes "keep"
expr_name expr.Distinct = codes "distinct"
expr_name expr.Group = codes "group"

abbrev pub fact_name : FactForm → Text
fact_name fact.NotNull = codes "notnull"
fact_name fact.WeakKey = codes "weak"
fact_name fact.StrongKey = codes "strong"

abbrev pub line_name : LineForm → Text
line_name line.Founds = codes "F"
line_name line.Adds = codes "A"
line_name line.Unites = codes "S"
line_name line.Alike = codes "G"
line_name line.Gives = codes "L"

-- ---- expressions: the name of an operator, and its parts

abbrev pub ExprParts : ExprForm → Type 0
ExprParts expr.Get = ℕ
ExprParts expr.Select = List Condition × ℕ
ExprParts expr.Join = Sides
ExprParts expr.LeftJoin = Sides
ExprParts expr.Semi = Sides
ExprParts expr.Anti = List Condition × Sides
ExprParts expr.Keep = List ℕ × ℕ
ExprParts expr.Distinct = ℕ
ExprParts expr.Group = List ℕ × (List Aggregation × ℕ)

abbrev pub expr_behind : (form : ExprForm) → Wording (ExprParts form)
expr_behind expr.Get = number_wording
expr_behind expr.Select = conjuncts_wording ␣ number_wording
expr_behind expr.Join = sides_wording
expr_behind expr.LeftJoin = sides_wording
expr_behind expr.Semi = sides_wording
expr_behind expr.Anti = conjuncts_wording ␣ sides_wording
expr_behind expr.Keep = columns_wording ␣ number_wording
expr_behind expr.Distinct = number_wording
expr_behind expr.Group = columns_wording ␣ aggregations_wording ␣ number_wording

abbrev pub AnyExpr : Type 0
AnyExpr = (form : ExprForm) × ExprParts form

abbrev pub expr_parts : Expr → AnyExpr
expr_parts (Get o) = (expr.Get, o)
expr_parts (Select C x) = (expr.Select, (C, x))
expr_parts (Join C a b) = (expr.Join, (C, (a, b)))
expr_parts (LeftJoin C a b) = (expr.LeftJoin, (C, (a, b)))
expr_parts (Semi C a b) = (expr.Semi, (C, (a, b)))
expr_parts (Anti S M a b) = (expr.Anti, (S, (M, (a, b))))
expr_parts (Keep K x) = (expr.Keep, (K, x))
expr_parts (Distinct x) = (expr.Distinct, x)
expr_parts (Group K G x) = (expr.Group, (K, (G, x)))

abbrev pub expr_wording : Wording Expr
expr_wording = by_parts expr_parts (named expr_name expr_behind)

-- ---- steps: the rule, what is picked, the lines that it is applied to and those that spell what it gives

abbrev pub rule_wording : Wording RuleName
rule_wording = one code_of IsAny IsAny IsNever

abbrev pub StepParts : Type 0
StepParts = RuleName × (ℕ × (List ℕ × List ℕ))

abbrev pub step_parts : Step → StepParts
step_parts s = (s.rule, (s.pick, (s.uses, s.makes)))

abbrev pub step_wording : Wording Step
step_wording = by_parts step_parts (rule_wording ␣ number_wording ␣ numbers_wording ␣ numbers_wording)

-- ---- facts

abbrev pub FactParts : FactForm → Type 0
FactParts fact.NotNull = ℕ
FactParts fact.WeakKey = List ℕ
FactParts fact.StrongKey = List ℕ

abbrev pub fact_behind : (form : FactForm) → Wording (FactParts form)
fact_behind fact.NotNull = number_wording
fact_behind fact.WeakKey = columns_wording
fact_behind fact.StrongKey = columns_wording

abbrev pub AnyFact : Type 0
AnyFact = (form : FactForm) × FactParts form

abbrev pub fact_parts : Fact → AnyFact
fact_parts (NotNull c) = (fact.NotNull, c)
fact_parts (WeakKey K) = (fact.WeakKey, K)
fact_parts (StrongKey K) = (fact.StrongKey, K)

abbrev pub fact_wording : Wording Fact
fact_wording = by_parts fact_parts (named fact_name fact_behind)

-- ---- lines

abbrev pub LineParts : LineForm → Type 0
LineParts line.Founds = Expr
LineParts line.Adds = ℕ × (Step × Expr)
LineParts line.Unites = ℕ × (ℕ × Step)
LineParts line.Alike = ℕ × ℕ
LineParts line.Gives = ℕ × (ℕ × Fact)

abbrev pub line_behind : (form : LineForm) → Wording (LineParts form)
line_behind line.Founds = expr_wording
line_behind line.Adds = number_wording ␣ step_wording ␣ expr_wording
line_behind line.Unites = number_wording ␣ number_wording ␣ step_wording
line_behind line.Alike = number_wording ␣ number_wording
line_behind line.Gives = number_wording ␣ number_wording ␣ fact_wording

abbrev pub AnyLine : Type 0
AnyLine = (form : LineForm) × LineParts form

abbrev pub line_parts : Line → AnyLine
line_parts (Founds x) = (line.Founds, x)
line_parts (Adds g s x) = (line.Adds, (g, (s, x)))
line_parts (Unites g h s) = (line.Unites, (g, (h, s)))
line_parts (Alike i j) = (line.Alike, (i, j))
line_parts (Gives g m f) = (line.Gives, (g, (m, f)))

abbrev pub line_wording : Wording Line
line_wording = by_parts line_parts (named line_name line_behind)
