use Rattle.std.proofs.Common.{◌≡◌, refl, sym, subst}
use Rattle.physical.specs.declared.plan.Matching.TheVariants as matching
use Rattle.certificate_read.specs.NodeReading.{lists_behind, matching_of}
use Rattle.certificate_read.specs.WordReading.{conjuncts_wording}
use Rattle.certificate_read.specs.Wordings.{left_words, Refuses, Passes, ReadsWords}
use Rattle.certificate_read.proofs.Wordings.{passes_made, handed_on}
use Rattle.certificate_read.proofs.nodes.matching.Goals as goal

pub returns-in_err-conjuncts-in-Inner : goal.returns-in_err-conjuncts-in-Inner
returns-in_err-conjuncts-in-Inner c =
    handed_on (lists_behind c.args.kind) (matching_of c.args.kind) c.args.words.now c.conjuncts.new.self c.from_residual.result c.in_err-conjuncts-in-Inner.field-0.0 c.from_residual.ensures.1
    (subst (λ k. Refuses (lists_behind k) (left_words c.args.words.now) c.in_err-conjuncts-in-Inner.field-0.0) (sym c.in-Inner.is) c.in_err-conjuncts-in-Inner.ensures)

pub returns-in_ok-conjuncts-in-Inner : goal.returns-in_ok-conjuncts-in-Inner
returns-in_ok-conjuncts-in-Inner c =
    subst (λ k. Passes (lists_behind k) (λ p. matching.Inner c.in_ok-conjuncts-in-Inner.field-0 ≡ matching_of k p) c.args.words.now c.conjuncts.new.self) (sym c.in-Inner.is)
    (passes_made conjuncts_wording matching.Inner c.in_ok-conjuncts-in-Inner.field-0 _ c.args.words.now c.conjuncts.new.self refl c.in_ok-conjuncts-in-Inner.ensures)

pub returns-in_err-conjuncts-in-Left : goal.returns-in_err-conjuncts-in-Left
returns-in_err-conjuncts-in-Left c =
    handed_on (lists_behind c.args.kind) (matching_of c.args.kind) c.args.words.now c.conjuncts-in-Left.new.self c.from_residual-in_err-conjuncts-in-Left.result c.in_err-conjuncts-in-Left.field-0.0 c.from_residual-in_err-conjuncts-in-Left.ensures.1
    (subst (λ k. Refuses (lists_behind k) (left_words c.args.words.now) c.in_err-conjuncts-in-Left.field-0.0) (sym c.in-Left.is) c.in_err-conjuncts-in-Left.ensures)

pub returns-in_ok-conjuncts-in-Left : goal.returns-in_ok-conjuncts-in-Left
returns-in_ok-conjuncts-in-Left c =
    subst (λ k. Passes (lists_behind k) (λ p. matching.Left c.in_ok-conjuncts-in-Left.field-0 ≡ matching_of k p) c.args.words.now c.conjuncts-in-Left.new.self) (sym c.in-Left.is)
    (passes_made conjuncts_wording matching.Left c.in_ok-conjuncts-in-Left.field-0 _ c.args.words.now c.conjuncts-in-Left.new.self refl c.in_ok-conjuncts-in-Left.ensures)

pub returns-in_err-conjuncts-in-Semi : goal.returns-in_err-conjuncts-in-Semi
returns-in_err-conjuncts-in-Semi c =
    handed_on (lists_behind c.args.kind) (matching_of c.args.kind) c.args.words.now c.conjuncts-in-Semi.new.self c.from_residual-in_err-conjuncts-in-Semi.result c.in_err-conjuncts-in-Semi.field-0.0 c.from_residual-in_err-conjuncts-in-Semi.ensures.1
    (subst (λ k. Refuses (lists_behind k) (left_words c.args.words.now) c.in_err-conjuncts-in-Semi.field-0.0) (sym c.in-Semi.is) c.in_err-conjuncts-in-Semi.ensures)

pub returns-in_ok-conjuncts-in-Semi : goal.returns-in_ok-conjuncts-in-Semi
returns-in_ok-conjuncts-in-Semi c =
    subst (λ k. Passes (lists_behind k) (λ p. matching.Semi c.in_ok-conjuncts-in-Semi.field-0 ≡ matching_of k p) c.args.words.now c.conjuncts-in-Semi.new.self) (sym c.in-Semi.is)
    (passes_made conjuncts_wording matching.Semi c.in_ok-conjuncts-in-Semi.field-0 _ c.args.words.now c.conjuncts-in-Semi.new.self refl c.in_ok-conjuncts-in-Semi.ensures)

pub returns-in-Anti : goal.returns-in-Anti
returns-in-Anti c =
    subst (λ k. ReadsWords (lists_behind k) (matching_of k) c.args.words.now c.anti.new.words c.anti.result) (sym c.in-Anti.is) c.anti.ensures
