-- A text that begins with a certificate's, as far as it is read.
use Rattle.std.proofs.Common.{◌≡◌, sym, ap, ◌∙◌, arith, ℕ, suc, ◌+◌, ◌-◌, ◌≤◌, ◌^◌, min, inl, List, ◌++◌, length, map, flat_map, append_assoc, codes, decimal, Err}
use Rattle.std.proofs.lemmas.List.{length-map}
use Rattle.values.specs.declared.fault.Fault.{Fault}
use Rattle.values.specs.declared.fault.Fault.TheVariants.{Memory, Refused}
use Rattle.derivation.specs.declared.line.Line.{Line}
use Rattle.physical.specs.declared.plan.Node.{Node}
use Rattle.physical.specs.declared.plan.Plan.{Plan}
use Rattle.certificate.specs.declared.certificate.Certificate.{Certificate}
use Rattle.certificate.specs.NodeInputs.{nodes_of}
use Rattle.certificate_text.proofs.WholeTexts.{written_within}
use Rattle.certificate_text.specs.declared.fault.TextReason.TheVariants.{OtherForm}
use Rattle.certificate_text.specs.declared.fault.TextRefusal.{TextRefusal}
use Rattle.certificate_text.specs.CertificateText.{Text, ◌␣◌, certificate_text, ended, line_text, line_words, node_count, node_words, plan_text}
use Rattle.certificate_text.specs.Limits.{most_deep, most_nodes}
use Rattle.certificate_read.specs.declared.text_lines.TextLines.{TextLines}
use Rattle.certificate_read.specs.Fronts.{IsFront, line_count}
use Rattle.certificate_read.specs.TextCalls.{Ends, PassesLine, PassesLines, RefusesFrom, RefusesNext, RefusesText}
use Rattle.certificate_read.specs.TextFaults.{derivation_lines, nodes_words, plan_lines, version, AreDerivation, ArePlan, IsFaultOfPlan, IsFaultToEnd, IsNot}
use Rattle.certificate_read.specs.TextReading.{IsReadablePlan}
use Rattle.certificate_read.proofs.TextEnds.{end_refused, lines-text, rest_refused}
use Rattle.certificate_read.proofs.TextSteps.{from_as}
use Rattle.certificate_read.proofs.WholePlans.{plan_listed, within_written}

-- what stands behind six parts stands behind the last
behind_parts : (a b c d e f rest : Text) → (a ++ (b ++ (c ++ (d ++ (e ++ f))))) ++ rest ≡ a ++ (b ++ (c ++ (d ++ (e ++ (f ++ rest)))))
behind_parts a b c d e f rest =
    append_assoc a (b ++ (c ++ (d ++ (e ++ f)))) rest ∙ ap (λ t. a ++ t) (append_assoc b (c ++ (d ++ (e ++ f))) rest ∙ ap (λ t. b ++ t) (append_assoc c (d ++ (e ++ f)) rest
    ∙ ap (λ t. c ++ t) (append_assoc d (e ++ f) rest ∙ ap (λ t. d ++ t) (append_assoc e f rest))))

module _ (c : Certificate) (rest : Text) where
  abbrev pub plan_to_end : Text
  plan_to_end = ended (codes "plan" ␣ decimal (node_count c.plan)) ++ (plan_text c.plan ++ (ended (codes "end") ++ rest))

  abbrev pub lines_to_end : Text
  lines_to_end = ended (codes "lines" ␣ decimal (length c.lines)) ++ (flat_map line_text c.lines ++ plan_to_end)

  certificate_behind : certificate_text c ++ rest ≡ ended version ++ lines_to_end
  certificate_behind =
      behind_parts (ended version) (ended (codes "lines" ␣ decimal (length c.lines))) (flat_map line_text c.lines) (ended (codes "plan" ␣ decimal (node_count c.plan))) (plan_text c.plan) (ended (codes "end")) rest

  -- a text that begins with the certificate's
  pub front_is : (bytes : Text) → IsFront c rest bytes → bytes ≡ ended version ++ lines_to_end
  front_is bytes h = h.2 ∙ ap (λ t. t ++ rest) (written_within c h.0 h.1).3 ∙ certificate_behind

counted : (a b c d e l p : ℕ) → a ≡ 0 → b ≡ min (a + 1) (2 ^ 64 - 1) → c ≡ min (b + suc l) (2 ^ 64 - 1) → d ≡ min (c + suc p) (2 ^ 64 - 1) → e ≡ min (d + 1) (2 ^ 64 - 1) → l ≤ 200000 → p ≤ 200000 → e ≡ l + p + 4
counted a b c d e l p f g h i j few small = omega arith

module _ (bytes : Text) (text : TextLines) (left : text.left.now ≡ bytes) (number : text.number ≡ 0) (first : TextLines) (found : PassesLine version text first)
    (second : TextLines) (ls : List Line) (lines : PassesLines (derivation_lines (length ls) ls) first second × AreDerivation ls) where
  pub plan_refused : (fault : Fault TextRefusal) → RefusesFrom IsFaultOfPlan second fault → RefusesText bytes fault
  plan_refused fault h = rest_refused bytes text left number first found second ls lines fault (from_as IsFaultOfPlan IsFaultToEnd second second fault (λ r f. inl f) h)

  module _ (third : TextLines) (p : Plan) (plan : PassesLines (plan_lines (node_count p) (nodes_of p)) second third × ArePlan (node_count p) (nodes_of p) × IsReadablePlan most_deep p) where
    as_end : (fault : Fault TextRefusal) → RefusesNext (IsNot (codes "end") OtherForm) third fault → Ends third (Err fault)
    as_end Memory h = h
    as_end (Refused r) h = inl h

    pub end_missed : (fault : Fault TextRefusal) → RefusesNext (IsNot (codes "end") OtherForm) third fault → RefusesText bytes fault
    end_missed fault h = rest_refused bytes text left number first found second ls lines fault (end_refused second third p plan fault (as_end fault h))

    module _ (fourth : TextLines) (last : PassesLine (codes "end") third fourth) where
      abbrev whole : Certificate
      whole = record { lines = ls; plan = p }

      pub front_read : IsFront (record { lines = ls; plan = p }) fourth.left.now bytes
      front_read = (certificate_text whole, within_written whole lines.1.1 lines.1.0 few plan.2, sym left ∙ found.0 ∙ ap (λ t. ended version ++ t) from_lines ∙ sym (certificate_behind whole fourth.left.now)) where
        few : node_count p ≤ most_nodes
        few = plan.1.1

        from_plan : second.left.now ≡ plan_to_end whole fourth.left.now
        from_plan =
            plan.0.0 ∙ append_assoc (ended (codes "plan" ␣ decimal (node_count p))) (flat_map ended (nodes_words (nodes_of p))) third.left.now
            ∙ (λ i. ended (codes "plan" ␣ decimal (node_count p)) ++ (sym (plan_listed p).0 i ++ last.0 i))

        from_lines : first.left.now ≡ lines_to_end whole fourth.left.now
        from_lines =
            lines.0.0 ∙ append_assoc (ended (codes "lines" ␣ decimal (length ls))) (flat_map ended (map line_words ls)) second.left.now
            ∙ (λ i. ended (codes "lines" ␣ decimal (length ls)) ++ (lines-text ls i ++ from_plan i))

      pub front_lines : fourth.number ≡ line_count (record { lines = ls; plan = p })
      front_lines =
          let few : length ls ≤ 200000 = lines.1.1 in
          let small : node_count p ≤ 200000 = plan.1.1 in
          let own : length (nodes_words (nodes_of p)) ≡ node_count p = length-map (nodes_of p) (λ (n : Node × ℕ). node_words n.0 n.1) ∙ sym (plan_listed p).1 in
          counted text.number first.number second.number third.number fourth.number (length ls) (node_count p) number found.1 (lines.0.1 ∙ ap (λ n. min (first.number + suc n) (2 ^ 64 - 1)) (length-map ls line_words))
          (plan.0.1 ∙ ap (λ n. min (second.number + suc n) (2 ^ 64 - 1)) own) last.1 few small
