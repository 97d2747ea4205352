-- The plan of a text, and the end behind it.
use Rattle.std.proofs.Common.{◌≡◌, refl, sym, ap, subst, ◌∙◌, arith, ℕ, ◌<◌, ◌≤◌, inl, inr, List, [], ◌∷◌, drop, length, codes, decimal, Result, Ok, Err}
use Rattle.values.specs.declared.fault.Fault.{Fault}
use Rattle.values.specs.declared.fault.Fault.TheVariants.{Memory, Refused}
use Rattle.physical.specs.declared.plan.Node.{Node}
use Rattle.physical.specs.declared.plan.Plan.{Plan}
use Rattle.certificate.specs.NodeInputs.{nodes_of}
use Rattle.certificate_text.proofs.DecimalNumerals.{short_decimal}
use Rattle.certificate_text.proofs.Numerals.{numeral_injective}
use Rattle.certificate_text.specs.Numerals.{numeral}
use Rattle.certificate_text.specs.Parts.{IsShort}
use Rattle.certificate_text.proofs.PlanTexts.{some_nodes}
use Rattle.certificate_text.specs.declared.fault.TextReason.{TextReason}
use Rattle.certificate_text.specs.declared.fault.TextReason.TheVariants.{OtherForm}
use Rattle.certificate_text.specs.declared.fault.TextRefusal.{TextRefusal}
use Rattle.certificate_text.specs.CertificateText.{Text, ◌␣◌, node_count}
use Rattle.certificate_text.specs.Limits.{most_deep, most_nodes}
use Rattle.certificate_read.specs.declared.reading.Wanted.{Wanted}
use Rattle.certificate_read.specs.declared.text_lines.TextLines.{TextLines}
use Rattle.certificate_read.specs.TextCalls.{PassesLine, PassesLines, PassesNodes, PassesPlan, PassesWholePlan, RefusesFrom, RefusesNext}
use Rattle.certificate_read.specs.TextFaults.{nodes_words, plan_lines, ArePlan, IsFaultOfNodes, IsFaultOfPlan, IsOtherCount, LeadsTo}
use Rattle.certificate_read.specs.TextReading.{IsReadablePlan}
use Rattle.certificate_read.proofs.TextCuts.{wide_count_line}
use Rattle.certificate_read.proofs.TextSteps.{both_passed, from_as, leads_whole, next_as, one_passed}
use Rattle.certificate_read.proofs.WholePlans.{plan_listed}

-- ---- the count

plan_word : (n m : ℕ) → codes "plan" ␣ numeral n ≡ codes "plan" ␣ numeral m → n ≡ m
plan_word n m e = numeral_injective n m (ap (drop 5) e)

other_count : (line : Text) (reason : TextReason) → IsOtherCount (codes "plan") 0 most_nodes line reason → IsOtherCount (codes "plan") 1 most_nodes line reason
other_count line reason (inl h) = inl ((λ n l e. h.0 n (omega arith) e), h.1)
other_count line reason (inr h) = inr h

pub count_unread : (text : TextLines) (fault : Fault TextRefusal) → RefusesNext (IsOtherCount (codes "plan") 0 most_nodes) text fault → RefusesFrom IsFaultOfPlan text fault
count_unread text Memory h = tt
count_unread text (Refused r) h = inl (next_as (IsOtherCount (codes "plan") 0 most_nodes) (IsOtherCount (codes "plan") 1 most_nodes) text.left.now text.number r other_count h)

-- no plan has no nodes
pub none_counted : (text mid : TextLines) (n : ℕ) → PassesLine (codes "plan" ␣ numeral n) text mid → n ≡ 0 → IsFaultOfPlan text.left.now text.number (record { line = mid.number; reason = OtherForm })
none_counted text mid n passed e =
    inl (passed.1, inr (codes "plan" ␣ numeral n, mid.left.now, passed.0, (wide_count_line (codes "plan") n refl).1, inl ((λ m l is. omega (arith, e, l, plan_word n m is)), refl)))

module _ (text mid : TextLines) (n : ℕ) (passed : PassesLine (codes "plan" ␣ numeral n) text mid) (few : n ≤ most_nodes) (some : 0 < n) where
  short : IsShort n
  short = omega (arith, few)

  counted : PassesLine (codes "plan" ␣ decimal n) text mid
  counted = subst (λ t. PassesLine (codes "plan" ␣ t) text mid) (sym (short_decimal n short)) passed

  nodes_refused : (fault : Fault TextRefusal) → RefusesFrom (IsFaultOfNodes (1 ∷ []) n) mid fault → RefusesFrom IsFaultOfPlan text fault
  nodes_refused fault h =
      from_as (IsFaultOfNodes (1 ∷ []) n) IsFaultOfPlan text mid fault
      (λ r of_nodes. inr (n, mid.left.now, some, few, counted.0, subst (λ number. IsFaultOfNodes (1 ∷ []) n mid.left.now number r) counted.1 of_nodes)) h

  nodes_read : (before after : Wanted) (new : TextLines) (p : Plan) → before.counted ≡ n → PassesNodes (1 ∷ []) [] before after mid new (nodes_of p) × IsReadablePlan most_deep p → PassesLines (plan_lines (node_count p) (nodes_of p)) text new × ArePlan (node_count p) (nodes_of p) × IsReadablePlan most_deep p
  nodes_read before after new p is read = by (nodes_of p) refl where
    by : (ns : List (Node × ℕ)) → nodes_of p ≡ ns → PassesLines (plan_lines (node_count p) (nodes_of p)) text new × ArePlan (node_count p) (nodes_of p) × IsReadablePlan most_deep p
    by [] e = absurd (omega (arith, some_nodes p, (plan_listed p).1, ap length e))
    by (m ∷ ns) e =
        let leads : LeadsTo (1 ∷ []) n (m ∷ ns) [] after.counted = subst (λ k. LeadsTo (1 ∷ []) k (m ∷ ns) [] after.counted) is (subst (λ ns. LeadsTo (1 ∷ []) before.counted ns [] after.counted) e read.0.1) in
        let whole = leads_whole n m ns after.counted some leads in
        let count : n ≡ node_count p = whole.1 ∙ ap length (sym e) ∙ sym (plan_listed p).1 in (
          subst (λ k. PassesLines (plan_lines k (nodes_of p)) text new) count (both_passed ((codes "plan" ␣ decimal n) ∷ []) (nodes_words (nodes_of p)) text mid new (one_passed (codes "plan" ␣ decimal n) text mid counted) read.0.0),
          subst (λ k. ArePlan k (nodes_of p)) count (some, few, subst (λ ns. LeadsTo (1 ∷ []) n ns [] 0) (sym e) (subst (LeadsTo (1 ∷ []) n (m ∷ ns) []) whole.0 leads)),
          read.1,
        )

  pub plan_counted : (before after : Wanted) (new : TextLines) (r : Result Plan (Fault TextRefusal)) → before.counted ≡ n → PassesPlan most_deep 0 [] before after mid new r → PassesWholePlan text new r
  plan_counted before after new (Ok p) is h = nodes_read before after new p is h
  plan_counted before after new (Err fault) is h = nodes_refused fault (subst (λ k. RefusesFrom (IsFaultOfNodes (1 ∷ []) k) mid fault) is h)
