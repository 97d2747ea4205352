-- The limits of a certificate's text, and the first line that is over one.
use Rattle.std.specs.Prelude.{ℕ, ◌+◌, ◌-◌, Bool, true, false, ◌&&◌, nat_le, nat_lt, List, [], ◌∷◌, ◌++◌, length, map, flat_map, Result, Ok, Err}
use Rattle.std.specs.List.{list_all}
use Rattle.values.specs.Faults.{◌>>=◌}
use Rattle.algebra.specs.declared.condition.Condition.{Condition}
use Rattle.algebra.specs.Expressions.{conditions}
use Rattle.derivation.specs.declared.line.Line.{Line}
use Rattle.derivation.specs.declared.line.Line.TheVariants.{Founds, Adds, Unites, Alike, Gives}
use Rattle.physical.specs.declared.plan.Matching.{Matching}
use Rattle.physical.specs.declared.plan.Matching.TheVariants as matching
use Rattle.physical.specs.declared.plan.Operator.{Operator}
use Rattle.physical.specs.declared.plan.Operator.TheVariants.{Scan, IndexScan, Filter, FilterSubqueries, Projection, JoinRows, IndexJoin, GroupRows, DistinctRows}
use Rattle.physical.specs.declared.plan.Node.{Node}
use Rattle.physical.specs.declared.plan.Node.TheVariants.{Implements, Sort}
use Rattle.physical.specs.declared.plan.Plan.{Plan, fold-Plan}
use Rattle.physical.specs.declared.plan.Plan.TheOpen.{Plan-F}
use Rattle.certificate.specs.declared.certificate.Certificate.{Certificate}
use Rattle.certificate_text.specs.Conditions.{nests_within}
use Rattle.certificate_text.specs.declared.fault.TextRefusal.{TextRefusal}
use Rattle.certificate_text.specs.declared.fault.TextReason.TheVariants.{OverLimit}
use Rattle.certificate_text.specs.CertificateText.{Text, node_count, certificate_text}

-- lines of the derivation
abbrev pub most_lines : ℕ
most_lines = 200000

abbrev pub most_nodes : ℕ
most_nodes = 200000

-- conditions in one another, with the innermost
abbrev pub most_nested : ℕ
most_nested = 256

-- nodes from the root down
abbrev pub most_deep : ℕ
most_deep = 1024

-- ---- conditions

abbrev pub all_nest_within : List Condition → ℕ → Bool
all_nest_within C room = list_all (λ c. nests_within c room) C

-- ---- lines

abbrev pub line_is_within : Line → Bool
line_is_within (Founds x) = all_nest_within (conditions x) most_nested
line_is_within (Adds g s x) = all_nest_within (conditions x) most_nested
line_is_within (Unites g h s) = true
line_is_within (Alike i j) = true
line_is_within (Gives g m f) = true

abbrev pub matching_conditions : Matching → List Condition
matching_conditions (matching.Inner C) = C
matching_conditions (matching.Left C) = C
matching_conditions (matching.Semi C) = C
matching_conditions (matching.Anti S M) = S ++ M

abbrev pub operator_conditions : Operator → List Condition
operator_conditions (Scan o) = []
operator_conditions (IndexScan a C) = C
operator_conditions (Filter C) = C
operator_conditions (FilterSubqueries C) = C
operator_conditions (Projection K) = []
operator_conditions (JoinRows m j) = matching_conditions j
operator_conditions (IndexJoin a j) = matching_conditions j
operator_conditions (GroupRows m K G) = []
operator_conditions (DistinctRows m) = []

abbrev pub node_is_within : Node → Bool
node_is_within (Implements line operator) = all_nest_within (operator_conditions operator) most_nested
node_is_within (Sort keys) = true

-- whether each node, in the order of the text, is within the limits, where there is room for so many from the root down
abbrev pub within_layer : Plan-F (ℕ → List Bool) → ℕ → List Bool
within_layer p room = (nat_lt 0 room && node_is_within p.node) ∷ flat_map (λ nodes. nodes (room - 1)) p.inputs

unfoldable pub nodes_within : Plan → ℕ → List Bool
nodes_within = fold-Plan (ℕ → List Bool) within_layer

-- whether each line of the text is within the limits; the last one always is
abbrev pub lines_within : Certificate → List Bool
lines_within c =
    (true ∷ nat_le (length c.lines) most_lines ∷ map line_is_within c.lines) ++ (nat_le (node_count c.plan) most_nodes ∷ nodes_within c.plan most_deep)

-- ---- the first line over a limit

abbrev pub over_limit : ℕ → TextRefusal
over_limit line = record { line = line; reason = OverLimit }

-- the refusal of the first line that isn't within the limits, lines being numbered on from a number; else the number after them
abbrev pub checked : ℕ → List Bool → Result ℕ TextRefusal
checked line [] = Ok line
checked line (true ∷ more) = checked (line + 1) more
checked line (false ∷ more) = Err (over_limit line)

-- the text of a certificate within the limits; else the first line over one
abbrev pub written : Certificate → Result Text TextRefusal
written c = checked 1 (lines_within c) >>= λ line. Ok (certificate_text c)
