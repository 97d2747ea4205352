-- The texts that are spelled out, by computation.
use Rattle.std.proofs.Common.{◌≡◌, refl, ap, sym, ◌∙◌, ℕ, List, ◌++◌, codes, map}
use Rattle.std.specs.Fmt.{digits}
use Rattle.hex.specs.Hex.{encode_with}
use Rattle.values.specs.declared.truth.Comparison.{Comparison}
use Rattle.algebra.specs.declared.condition.Condition.{fold-roll-Condition}
use Rattle.algebra.specs.declared.condition.Condition.TheVariants.{Compare, rolls-Compare}
use Rattle.algebra.specs.declared.condition.Condition.TheOpen.{Condition-F}
use Rattle.algebra.specs.declared.condition.Term.{Term}
use Rattle.algebra.specs.ConjunctOrder.{condition_text, text_layer, comparison_text, term_text}
use Rattle.physical.specs.declared.plan.Node.{Node}
use Rattle.physical.specs.declared.plan.Plan.{Plan, fold-roll-Plan}
use Rattle.certificate_text.specs.CertificateText.{Text, plan_layer, plan_text, count_layer, node_count}
use Rattle.certificate_text.specs.WorkedTexts.{a_plan, same_department, is_ops, CertificateIsSpelled, LinesAreSpelled, NodesAreSpelled}

text-Compare : (c : Comparison) (a b : Term) → condition_text (Compare c a b) ≡ comparison_text c ++ (codes "(" ++ (term_text a ++ (codes "," ++ (term_text b ++ codes ")"))))
unfolding condition_text
text-Compare c a b = ap condition_text (sym (rolls-Compare c a b)) ∙ fold-roll-Condition (List ℕ) text_layer (Condition-F.Compare c a b)

same-text : condition_text same_department ≡ codes "=(c4,c0)"
unfolding digits
same-text = text-Compare _ _ _

ops-text : condition_text is_ops ≡ codes "<>(c1,t6f7073)"
unfolding digits encode_with
ops-text = text-Compare _ _ _

text-plan : (n : Node) (inputs : List Plan) → plan_text (a_plan n inputs) ≡ plan_layer (record { node = n; inputs = map plan_text inputs })
unfolding plan_text
text-plan n inputs = fold-roll-Plan Text plan_layer (record { node = n; inputs = inputs })

count-plan : (n : Node) (inputs : List Plan) → node_count (a_plan n inputs) ≡ count_layer (record { node = n; inputs = map node_count inputs })
unfolding node_count
count-plan n inputs = fold-roll-Plan ℕ count_layer (record { node = n; inputs = inputs })

pub certificate_is_spelled : CertificateIsSpelled
unfolding digits
certificate_is_spelled = rw (text-plan, text-plan, text-plan, count-plan, count-plan, count-plan) refl

pub lines_are_spelled : LinesAreSpelled
unfolding digits
lines_are_spelled =
    (refl, rw (same-text, ops-text) refl, refl, rw same-text refl, rw same-text refl, rw same-text refl, refl, refl, refl, refl, refl, refl, refl, refl, refl)

pub nodes_are_spelled : NodesAreSpelled
unfolding digits
nodes_are_spelled =
    (refl, rw ops-text refl, rw ops-text refl, rw ops-text refl, refl, refl, rw same-text refl, rw same-text refl, rw same-text refl, refl, refl, refl, refl, refl)
