-- Sort keys and nodes are told by their words.
use Rattle.std.proofs.Common.{◌≡◌, if◌then◌else◌, refl, sym, ◌∙◌, ap, codes}
use Rattle.certificate_text.specs.CertificateText.{Text}
use Rattle.certificate_read.specs.declared.node_forms.KindForm.{KindForm}
use Rattle.certificate_read.specs.declared.node_forms.KindForm.TheVariants as kind
use Rattle.certificate_read.specs.declared.node_forms.OperatorForm.{OperatorForm}
use Rattle.certificate_read.specs.declared.node_forms.OperatorForm.TheVariants as operator
use Rattle.certificate_read.specs.declared.node_forms.NodeForm.{NodeForm}
use Rattle.certificate_read.specs.declared.node_forms.NodeForm.TheVariants as node
use Rattle.certificate_read.specs.NodeReading.{kind_name, node_name, lists_behind, matching_wording, index_join_behind, nothing_wording, operator_behind, node_behind, node_wording}
use Rattle.certificate_read.proofs.KeyTexts.{keys_told}
use Rattle.certificate_read.proofs.LineLaws.{is_text}
use Rattle.certificate_read.proofs.WideConjuncts.{conjuncts_told}
use Rattle.certificate_read.proofs.WordLaws.{number_told, columns_told, added_told}
use Rattle.certificate_read.proofs.Wordings.{AreTold, both_told, named_told}

-- ---- names

abbrev kind_at : Text → KindForm
kind_at w = if is_text w (codes "inner") then kind.Inner else if is_text w (codes "left") then kind.Left else if is_text w (codes "semi") then kind.Semi else kind.Anti

at_kind : (f : KindForm) → kind_at (kind_name f) ≡ f
at_kind kind.Inner = refl
at_kind kind.Left = refl
at_kind kind.Semi = refl
at_kind kind.Anti = refl

pub kind_names : (f g : KindForm) → kind_name f ≡ kind_name g → f ≡ g
kind_names f g e = sym (at_kind f) ∙ ap kind_at e ∙ at_kind g

abbrev operator_at : Text → OperatorForm
operator_at w =
    if is_text w (codes "scan") then operator.Scan else if is_text w (codes "iscan") then operator.IndexScan else if is_text w (codes "filter") then operator.Filter else if is_text w (codes "filtersub") then operator.FilterSubqueries
    else if is_text w (codes "cut") then operator.Projection else if is_text w (codes "loop") then operator.NestedLoop else if is_text w (codes "hash") then operator.HashJoin else if is_text w (codes "merge") then operator.MergeJoin
    else if is_text w (codes "iloop") then operator.IndexJoin else if is_text w (codes "hgroup") then operator.HashGroup else if is_text w (codes "sgroup") then operator.SortedGroup
    else if is_text w (codes "hdistinct") then operator.HashDistinct else operator.SortedDistinct

abbrev node_at : Text → NodeForm
node_at w = if is_text w (codes "sort") then node.Sort else node.Implements (operator_at w)

at_node : (f : NodeForm) → node_at (node_name f) ≡ f
at_node node.Sort = refl
at_node (node.Implements operator.Scan) = refl
at_node (node.Implements operator.IndexScan) = refl
at_node (node.Implements operator.Filter) = refl
at_node (node.Implements operator.FilterSubqueries) = refl
at_node (node.Implements operator.Projection) = refl
at_node (node.Implements operator.NestedLoop) = refl
at_node (node.Implements operator.HashJoin) = refl
at_node (node.Implements operator.MergeJoin) = refl
at_node (node.Implements operator.IndexJoin) = refl
at_node (node.Implements operator.HashGroup) = refl
at_node (node.Implements operator.SortedGroup) = refl
at_node (node.Implements operator.HashDistinct) = refl
at_node (node.Implements operator.SortedDistinct) = refl

pub node_names : (f g : NodeForm) → node_name f ≡ node_name g → f ≡ g
node_names f g e = sym (at_node f) ∙ ap node_at e ∙ at_node g

-- ---- nodes

lists_told : (form : KindForm) → AreTold (lists_behind form)
lists_told kind.Inner = conjuncts_told
lists_told kind.Left = conjuncts_told
lists_told kind.Semi = conjuncts_told
lists_told kind.Anti = both_told conjuncts_told conjuncts_told

matching_told : AreTold matching_wording
matching_told = named_told kind_name lists_behind kind_names lists_told

nothing_told : AreTold nothing_wording
nothing_told =
    record {
      tells = λ x y a b h k e. (refl, e);
      within = λ x rest h over. over;
    }

operator_told : (form : OperatorForm) → AreTold (operator_behind form)
operator_told operator.Scan = number_told
operator_told operator.IndexScan = both_told number_told (both_told number_told (both_told number_told conjuncts_told))
operator_told operator.Filter = conjuncts_told
operator_told operator.FilterSubqueries = both_told conjuncts_told number_told
operator_told operator.Projection = columns_told
operator_told operator.NestedLoop = matching_told
operator_told operator.HashJoin = matching_told
operator_told operator.MergeJoin = both_told number_told (both_told number_told conjuncts_told)
operator_told operator.IndexJoin = both_told number_told (named_told kind_name index_join_behind kind_names (λ form. both_told number_told (both_told number_told (lists_told form))))
operator_told operator.HashGroup = both_told columns_told added_told
operator_told operator.SortedGroup = both_told columns_told added_told
operator_told operator.HashDistinct = nothing_told
operator_told operator.SortedDistinct = nothing_told

node_behind_told : (form : NodeForm) → AreTold (node_behind form)
node_behind_told node.Sort = keys_told
node_behind_told (node.Implements form) = both_told number_told (operator_told form)

pub node_told : AreTold node_wording
node_told = named_told node_name node_behind node_names node_behind_told
