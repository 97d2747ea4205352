use Rattle.std.proofs.Common.{◌≡◌, ◌∙◌, ◌++◌, sym, subst, inl, inr, ap}
use Rattle.certificate_text.specs.ConditionReading.{part_condition_text, BeginsWith, IsShortCondition}
use Rattle.certificate_text.specs.Parts.{Noted}
use Rattle.certificate_text.proofs.ConjunctParts.{front_read, no_conjunct, not_other, not_unequal, noted_kept, one_conjunct, other_end}
use Rattle.certificate_text.proofs.conjunct_lists.Rising.add.Goals.{then-is_and-via-then-is_and, then-is_and-via-else-is_and+then-not-is_before, then-self, else-self}
use Rattle.certificate_text.proofs.conjunct_lists.Rising.add.Goals as goal

pub returns-then-ne : goal.returns-then-ne
returns-then-ne c =
    let read = c.in_ok-condition.ensures in
    rw c.into.ensures (other_end c.args.room c.args.part.now c.args.end.now c.args.self.now.last.now c.condition.new.self.left.now read.0 (subst (λ t. BeginsWith c.args.room t read.0 c.condition.new.self.left.now) c.at-cursor.ensures.left read.1)
    (λ same. not_other c.condition.new.self.left.now c.args.end.now c.ne.result same c.ne.ensures c.if-ne.true))

pub returns-then-is_and : goal.returns-then-is_and
returns-then-is_and c =
    let read = c.in_ok-condition.ensures in
    let begins = subst (λ t. BeginsWith c.args.room t read.0 c.condition.new.self.left.now) c.at-cursor.ensures.left read.1 in
    let same = not_unequal c.condition.new.self.left.now c.args.end.now c.ne.result c.ne.ensures c.if-ne.false in
    let is = front_read c.args.part.now c.args.end.now _ c.in-Some.text.now c.in-Some.ensures.cases.0 c.in-Some.ensures.cases.1.1 c.in-Some.ensures.cases.2 (begins.0 ∙ ap (λ t. part_condition_text read.0 ++ t) same) in
    rw c.into-then-is_and.ensures (no_conjunct c.args.room c.args.part.now c.args.end.now c.args.self.now.last.now c.condition.new.self.left.now read.0 begins c.in-Some.text.now same is
    (elim c.then-is_and.branch [
      | then-is_and-via-then-is_and w ↦ inl (rw w.if-is_and.true at c.is_and.ensures)
      | then-is_and-via-else-is_and+then-not-is_before w ↦ inr (sym w.is_before.ensures ∙ w.if-not-is_before.true)
    ]))

pub returns : goal.returns
returns c =
    let read = c.in_ok-condition.ensures in
    let begins = subst (λ t. BeginsWith c.args.room t read.0 c.condition.new.self.left.now) c.at-cursor.ensures.left read.1 in
    let same = not_unequal c.condition.new.self.left.now c.args.end.now c.ne.result c.ne.ensures c.if-ne.false in
    let is = front_read c.args.part.now c.args.end.now _ c.in-Some.text.now c.in-Some.ensures.cases.0 c.in-Some.ensures.cases.1.1 c.in-Some.ensures.cases.2 (begins.0 ∙ ap (λ t. part_condition_text read.0 ++ t) same) in (
      read.0,
      c.in_ok-condition.condition,
      one_conjunct c.args.room c.args.part.now c.args.end.now c.args.self.now.last.now c.condition.new.self.left.now read.0 begins c.in-Some.text.now same is (rw c.if-is_and.false at c.is_and.ensures) (sym c.is_before.ensures ∙ c.if-not-is_before.false),
      is,
      c.in_ok-push.ensures.ok,
      noted_kept c.args.self.now.in_range c.condition.new.self.in_range c.if-self.self (subst (λ b. Noted (IsShortCondition read.0) (c.in_ok-condition.condition ≡ read.0) b c.condition.new.self.in_range) c.at-cursor.ensures.in_range read.2)
          (elim c.if-self.branch [
            | then-self w ↦ inl (w.if-self.true, w.self-is)
            | else-self w ↦ inr (w.if-self.false, w.self-is ∙ w.if-self.false)
          ]),
    )
