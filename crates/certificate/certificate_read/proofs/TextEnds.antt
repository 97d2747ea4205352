-- A text as far as it is read, and a certificate that is read of it.
use Rattle.std.proofs.Common.{◌≡◌, refl, sym, ap, subst, ◌∙◌, ℕ, ◌≤◌, inl, inr, ◌⊎◌, List, [], ◌∷◌, ◌++◌, length, map, flat_map, append_assoc, codes, decimal, Ok, Err}
use Rattle.values.specs.declared.fault.Fault.{Fault}
use Rattle.values.specs.declared.fault.Fault.TheVariants.{Memory, Refused}
use Rattle.derivation.specs.declared.line.Line.{Line}
use Rattle.physical.specs.declared.plan.Plan.{Plan}
use Rattle.certificate.specs.declared.certificate.Certificate.{Certificate}
use Rattle.certificate.specs.NodeInputs.{nodes_of}
use Rattle.certificate_text.specs.declared.fault.TextReason.TheVariants.{OtherVersion}
use Rattle.certificate_text.specs.declared.fault.TextRefusal.{TextRefusal}
use Rattle.certificate_text.specs.CertificateText.{Text, ◌␣◌, certificate_text, ended, line_text, line_words, node_count, plan_text}
use Rattle.certificate_text.specs.Limits.{most_deep, most_nodes, written}
use Rattle.certificate_read.specs.declared.text_lines.TextLines.{TextLines}
use Rattle.certificate_read.specs.TextCalls.{Ends, PassesLine, PassesLines, RefusesFrom, RefusesNext, RefusesText}
use Rattle.certificate_read.specs.TextFaults.{derivation_lines, nodes_words, plan_lines, version, AreDerivation, ArePlan, Behind, IsFaultBehindVersion, IsFaultOfDerivation, IsFaultOfEnd, IsFaultOfPlan, IsFaultToEnd, IsFirstFault, IsNextFault, IsNot}
use Rattle.certificate_read.specs.TextReading.{IsReadablePlan}
use Rattle.certificate_read.proofs.TextSteps.{from_as, one_passed}
use Rattle.certificate_read.proofs.WholePlans.{plan_listed, within_written}

behind_lines : (Is : Text → ℕ → TextRefusal → Type 0) (ls : List Text) (a b : TextLines) (r : TextRefusal) → PassesLines ls a b → Is b.left.now b.number r → Behind ls Is a.left.now a.number r
behind_lines Is ls a b r h k = (b.left.now, h.0, subst (λ n. Is b.left.now n r) h.1 k)

-- ---- the plan and the end

module _ (text now : TextLines) (p : Plan) (passed : PassesLines (plan_lines (node_count p) (nodes_of p)) text now × ArePlan (node_count p) (nodes_of p) × IsReadablePlan most_deep p) where
  pub end_refused : (fault : Fault TextRefusal) → Ends now (Err fault) → RefusesFrom IsFaultToEnd text fault
  end_refused Memory h = tt
  end_refused (Refused r) h = inr (node_count p, nodes_of p, passed.1, behind_lines IsFaultOfEnd (plan_lines (node_count p) (nodes_of p)) text now r passed.0 h)

  pub plan_ends : now.left.now ≡ ended (codes "end") → (text.left.now ≡ flat_map ended (plan_lines (node_count p) (nodes_of p)) ++ ended (codes "end")) × ArePlan (node_count p) (nodes_of p) × IsReadablePlan most_deep p
  plan_ends end = (passed.0.0 ∙ ap (λ t. flat_map ended (plan_lines (node_count p) (nodes_of p)) ++ t) end, passed.1, passed.2)

-- ---- the whole text

pub lines-text : (ls : List Line) → flat_map ended (map line_words ls) ≡ flat_map line_text ls
lines-text [] = refl
lines-text (l ∷ ls) = ap (λ t. line_text l ++ t) (lines-text ls)

module _ (bytes : Text) (text : TextLines) (left : text.left.now ≡ bytes) (number : text.number ≡ 0) where
  first_fault : (r : TextRefusal) → IsNextFault (IsNot version OtherVersion) text.left.now text.number r ⊎ Behind (version ∷ []) IsFaultBehindVersion text.left.now text.number r → IsFirstFault bytes r
  first_fault r h = subst (λ t. IsNextFault (IsNot version OtherVersion) t 0 r ⊎ Behind (version ∷ []) IsFaultBehindVersion t 0 r) left (subst (λ n. IsNextFault (IsNot version OtherVersion) text.left.now n r ⊎ Behind (version ∷ []) IsFaultBehindVersion text.left.now n r) number h)

  pub version_refused : (fault : Fault TextRefusal) → RefusesNext (IsNot version OtherVersion) text fault → RefusesText bytes fault
  version_refused Memory h = tt
  version_refused (Refused r) h = first_fault r (inl h)

  module _ (first : TextLines) (found : PassesLine version text first) where
    behind_version : (r : TextRefusal) → IsFaultBehindVersion first.left.now first.number r → IsFirstFault bytes r
    behind_version r h = first_fault r (inr (behind_lines IsFaultBehindVersion (version ∷ []) text first r (one_passed version text first found) h))

    pub derivation_refused : (fault : Fault TextRefusal) → RefusesFrom IsFaultOfDerivation first fault → RefusesText bytes fault
    derivation_refused Memory h = tt
    derivation_refused (Refused r) h = behind_version r (inl h)

    module _ (second : TextLines) (ls : List Line) (lines : PassesLines (derivation_lines (length ls) ls) first second × AreDerivation ls) where
      pub rest_refused : (fault : Fault TextRefusal) → RefusesFrom IsFaultToEnd second fault → RefusesText bytes fault
      rest_refused Memory h = tt
      rest_refused (Refused r) h = behind_version r (inr (ls, lines.1, behind_lines IsFaultToEnd (derivation_lines (length ls) ls) first second r lines.0 h))

      pub certificate_read : (p : Plan) → (second.left.now ≡ flat_map ended (plan_lines (node_count p) (nodes_of p)) ++ ended (codes "end")) × ArePlan (node_count p) (nodes_of p) × IsReadablePlan most_deep p → written (record { lines = ls; plan = p }) ≡ Ok bytes
      certificate_read p plan =
          let c : Certificate = record { lines = ls; plan = p } in
          let few : node_count p ≤ most_nodes = plan.1.1 in
          within_written c lines.1.1 lines.1.0 few plan.2 ∙ ap (λ t. Ok t) (sym whole) where
            head : Text
            head = ended (codes "lines" ␣ decimal (length ls))

            count : Text
            count = ended (codes "plan" ␣ decimal (node_count p))

            behind : second.left.now ≡ count ++ (plan_text p ++ ended (codes "end"))
            behind = plan.0 ∙ append_assoc count (flat_map ended (nodes_words (nodes_of p))) (ended (codes "end")) ∙ ap (λ t. count ++ (t ++ ended (codes "end"))) (sym (plan_listed p).0)

            whole : bytes ≡ certificate_text (record { lines = ls; plan = p })
            whole =
                sym left ∙ found.0
                ∙ ap (λ t. ended version ++ t) (lines.0.0 ∙ append_assoc head (flat_map ended (map line_words ls)) second.left.now ∙ (λ i. head ++ (lines-text ls i ++ behind i)))
