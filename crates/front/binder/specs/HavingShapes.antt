-- The shape of a HAVING, whatever its names mean: what it names, and what it asks of the row of these (this project's profile
-- of SQL).
use Rattle.std.specs.Prelude.{ℕ, ◌+◌, Bool, true, ◌&&◌, List, [], ◌∷◌, ◌++◌, flat_map, length, slice_get, sum_by, Option, Some, None}
use Rattle.schema.specs.declared.schema.Kind.{Kind}
use Rattle.sql_parse.specs.declared.statement.HavingTerm.{HavingTerm}
use Rattle.sql_parse.specs.declared.statement.HavingTerm.TheVariants as written
use Rattle.sql_parse.specs.declared.statement.HavingCondition.{HavingCondition}
use Rattle.sql_parse.specs.declared.statement.HavingCondition.TheOpen.{HavingCondition-F}
use Rattle.sql_parse.specs.declared.statement.HavingCondition.TheFolds.{fold-HavingCondition}
use Rattle.sql_parse.specs.declared.statement.ItemValue.{ItemValue}
use Rattle.sql_parse.specs.declared.statement.ItemValue.TheVariants as text
use Rattle.query.specs.declared.query.Cond.{Cond}
use Rattle.query.specs.declared.query.Cond.TheVariants as cond
use Rattle.query.specs.declared.query.Term.{Term}
use Rattle.query.specs.declared.query.Term.TheVariants as term
use Rattle.binder.specs.Kinds.{are_comparable, kind_of}
use Rattle.binder.specs.Lookups.{own}

-- ---- terms

-- the column or the aggregate that a term names, if it names one
abbrev pub named : HavingTerm → List ItemValue
named (written.Column c) = text.Column c ∷ []
named (written.Aggregate call) = text.Aggregate call ∷ []
named (written.Literal v) = []

-- a term, where what it names stands at this place
abbrev pub term_at : ℕ → HavingTerm → Term
term_at place (written.Column c) = term.Column (own place)
term_at place (written.Aggregate call) = term.Column (own place)
term_at place (written.Literal v) = term.Literal v

-- its kind, by those of all that is named
abbrev pub kind_at : List Kind → ℕ → HavingTerm → Option Kind
kind_at kinds place (written.Column c) = slice_get kinds place
kind_at kinds place (written.Aggregate call) = slice_get kinds place
kind_at kinds place (written.Literal v) = kind_of v

-- ---- conditions

-- of a condition: what it names, in the order of the text, and how many tests it has; what it becomes, and whether its
-- comparisons compare what goes together, where the first that it names stands at a place of the row
pub record HavingShape : Type 0 where
  pub values : List ItemValue
  pub tests : ℕ
  pub at : ℕ → Cond
  pub fits : List Kind → ℕ → Bool

abbrev pub all_at : List HavingShape → ℕ → List Cond
all_at [] place = []
all_at (c ∷ cs) place = c.at place ∷ all_at cs (place + length c.values)

abbrev pub all_fit : List HavingShape → List Kind → ℕ → Bool
all_fit [] kinds place = true
all_fit (c ∷ cs) kinds place = c.fits kinds place && all_fit cs kinds (place + length c.values)

abbrev pub several : (List Cond → Cond) → List HavingShape → HavingShape
several together cs = record {
  values = flat_map (λ c. c.values) cs;
  tests = sum_by (λ c. c.tests) cs;
  at = λ place. together (all_at cs place);
  fits = all_fit cs;
}

abbrev pub shape_layer : HavingCondition-F HavingShape → HavingShape
shape_layer (HavingCondition-F.Compare a op b) = record {
  values = named a ++ named b;
  tests = 1;
  at = λ place. cond.Compare op.comparison (term_at place a) (term_at (place + length (named a)) b);
  fits = λ kinds place. are_comparable (kind_at kinds place a) (kind_at kinds (place + length (named a)) b);
}
shape_layer (HavingCondition-F.IsNull a) = record { values = named a; tests = 1; at = λ place. cond.IsNull (term_at place a); fits = λ kinds place. true }
shape_layer (HavingCondition-F.Not c) = record { values = c.values; tests = c.tests; at = λ place. cond.Not (c.at place); fits = c.fits }
shape_layer (HavingCondition-F.And cs) = several (λ parts. cond.And parts) cs
shape_layer (HavingCondition-F.Or cs) = several (λ parts. cond.Or parts) cs

unfoldable pub having_shape : HavingCondition → HavingShape
having_shape = fold-HavingCondition HavingShape shape_layer

-- ---- a HAVING, if there is one

abbrev pub having_values : Option HavingCondition → List ItemValue
having_values None = []
having_values (Some h) = (having_shape h).values

abbrev pub having_tests : Option HavingCondition → ℕ
having_tests None = 0
having_tests (Some h) = (having_shape h).tests

-- what it becomes: it sees the row of all that it names
abbrev pub having_becomes : Option HavingCondition → Option Cond
having_becomes None = None
having_becomes (Some h) = Some ((having_shape h).at 0)

abbrev pub having_fits : List Kind → Option HavingCondition → Bool
having_fits kinds None = true
having_fits kinds (Some h) = (having_shape h).fits kinds 0
