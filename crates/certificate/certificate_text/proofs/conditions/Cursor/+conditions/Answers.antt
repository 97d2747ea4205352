use Rattle.std.proofs.Common.{◌≡◌, Ok, ℕ, inl, inr, List, refl, sym, ◌∙◌, ◌∷◌, ◌++◌, ap, subst, arith}
use Rattle.std.specs.List.{AllByRecursion}
use Rattle.algebra.specs.declared.condition.Condition.{Condition}
use Rattle.algebra.specs.declared.condition.Condition.TheVariants as condition
use Rattle.algebra.specs.declared.condition.Term.{Term}
use Rattle.certificate_text.specs.declared.conditions.Form.TheVariants as form
use Rattle.certificate_text.specs.ConditionReading.{part_condition_text, more_text, AreShortParts, BeginsMore, BeginsNumber, BeginsParts, BeginsTerm, BeginsWith, BehindParts, IsAny, IsMoreTooDeep, IsNever, IsShortCondition, IsShortComparison, IsShortMembership, BeginsComparison, BeginsMembership, IsTooDeep, Parts, Passes, PassesCondition}
use Rattle.certificate_text.specs.Parts.{IsShort, Noted}
use Rattle.certificate_text.specs.Spelled.{HasText, IsShortTerm}
use Rattle.certificate_text.proofs.Exits.{holds_of_fault}
use Rattle.certificate_text.proofs.FrontConditions.{Body}
use Rattle.certificate_text.proofs.FrontForms.{PassesBody, and_short, compare_short, exists_short, in_short, not_short, null_short, or_short, read_behind, short_and, short_compare, short_exists, short_in, short_not, short_null, short_or, unread_form}
use Rattle.certificate_text.proofs.MoreParts.{behind_first, behind_comma, behind_second, first_fails, second_fails, left_begins, left_deep, more_deep, more_end, more_over, more_unread, next_part, so_far_more}
use Rattle.certificate_text.proofs.Passing.{fails_behind, noted_any, noted_as, noted_both, passes_as}
use Rattle.certificate_text.proofs.SameFronts.{not_both_fronts, same_front}
use Rattle.certificate_text.proofs.conditions.Cursor.+conditions.Goals as goal

-- ---- condition

pub condition-returns-in_err-form : goal.condition-returns-in_err-form
condition-returns-in_err-form t c =
    holds_of_fault (PassesCondition c.args.room c.args.self.now c.form.new.self) c.from_residual.result c.in_err-form.field-0.0 c.from_residual.ensures.1
    (unread_form c.args.room c.in-Some.room c.args.self.now c.form.new.self c.form.new.self c.in_err-form.field-0.0 (omega (arith, c.in-Some.ensures.0, c.in-Some.ensures.1)) c.in_err-form.ensures)

pub condition-returns-in_err-condition-in-Not : goal.condition-returns-in_err-condition-in-Not
condition-returns-in_err-condition-in-Not t c =
    read_behind c.args.room c.in-Some.room c.in_ok-form.field-0 form.Not c.args.self.now c.form.new.self c.condition.new.self c.from_residual-in_err-condition-in-Not.result (omega (arith, c.in-Some.ensures.0, c.in-Some.ensures.1)) c.in_ok-form.ensures c.in-Not.is
    (holds_of_fault (PassesBody c.in-Some.room form.Not c.form.new.self c.condition.new.self) c.from_residual-in_err-condition-in-Not.result c.in_err-condition-in-Not.field-0.0 c.from_residual-in_err-condition-in-Not.ensures.1
    (fails_behind (Body HasText c.in-Some.room form.Not) IsShortCondition (IsTooDeep c.in-Some.room) (λ (d : Condition). d) (BeginsWith c.in-Some.room) IsShortCondition (IsTooDeep c.in-Some.room) (λ (d : Condition). d) c.form.new.self c.form.new.self c.condition.new.self c.condition.new.self c.in_err-condition-in-Not.field-0.0 c.in_err-condition-in-Not.ensures
    (λ x rest s. (s.0, 41 ∷ rest, (s.3, s.1))) inl (λ deep. deep)))

pub condition-returns-in_err-expect-in-Not : goal.condition-returns-in_err-expect-in-Not
condition-returns-in_err-expect-in-Not t c =
    let part = c.in_ok-condition-in-Not.ensures in
    read_behind c.args.room c.in-Some.room c.in_ok-form.field-0 form.Not c.args.self.now c.form.new.self c.expect.new.self c.from_residual-in_err-expect-in-Not.result (omega (arith, c.in-Some.ensures.0, c.in-Some.ensures.1)) c.in_ok-form.ensures c.in-Not.is
    (holds_of_fault (PassesBody c.in-Some.room form.Not c.form.new.self c.expect.new.self) c.from_residual-in_err-expect-in-Not.result c.in_err-expect-in-Not.field-0.0 c.from_residual-in_err-expect-in-Not.ensures.1
    (fails_behind (Body HasText c.in-Some.room form.Not) IsShortCondition (IsTooDeep c.in-Some.room) (λ (d : Condition). d) (λ t (u : Unit {0}) rest. t ≡ 41 ∷ rest) IsAny IsNever (λ (u : Unit {0}). u) c.form.new.self c.condition.new.self c.expect.new.self c.expect.new.self c.in_err-expect-in-Not.field-0.0 c.in_err-expect-in-Not.ensures
    (λ x rest s. (tt, rest, (same_front c.in-Some.room c.form.new.self.left.now part.0 s.0 c.condition.new.self.left.now (41 ∷ rest) part.1 (s.3, s.1)).1)) (λ deep. absurd (not_both_fronts c.in-Some.room c.form.new.self.left.now part.0 c.condition.new.self.left.now part.1 deep)) (λ never. absurd never)))

pub condition-returns-in_ok-expect-in-Not : goal.condition-returns-in_ok-expect-in-Not
condition-returns-in_ok-expect-in-Not t c =
    let part = c.in_ok-condition-in-Not.ensures in
    let end = c.in_ok-expect-in-Not.ensures in
    let kept = (noted_any c.condition.new.self.in_range c.expect.new.self.in_range end.2).1 in
    let body : PassesBody c.in-Some.room form.Not c.form.new.self c.expect.new.self (Ok (condition.Not c.in_ok-part-in-Not.part)) = (
      condition.Not part.0,
      (part.0, part.1.1, refl, part.1.0 ∙ ap (λ t. part_condition_text part.0 ++ t) end.1),
      subst (Noted (IsShortCondition (condition.Not part.0)) _ c.form.new.self.in_range) (sym kept)
          (noted_as c.form.new.self.in_range c.condition.new.self.in_range (not_short part.0) (short_not part.0) (λ same. ap condition.Not (c.in_ok-part-in-Not.ensures ∙ same)) part.2),
    ) in
    read_behind c.args.room c.in-Some.room c.in_ok-form.field-0 form.Not c.args.self.now c.form.new.self c.expect.new.self (Ok (condition.Not c.in_ok-part-in-Not.part)) (omega (arith, c.in-Some.ensures.0, c.in-Some.ensures.1)) c.in_ok-form.ensures c.in-Not.is body

pub condition-returns-in_err-first-in-And : goal.condition-returns-in_err-first-in-And
condition-returns-in_err-first-in-And t c =
    read_behind c.args.room c.in-Some.room c.in_ok-form.field-0 form.And c.args.self.now c.form.new.self c.parts.new.self c.from_residual-in_err-first-in-And.result (omega (arith, c.in-Some.ensures.0, c.in-Some.ensures.1)) c.in_ok-form.ensures c.in-And.is
    (holds_of_fault (PassesBody c.in-Some.room form.And c.form.new.self c.parts.new.self) c.from_residual-in_err-first-in-And.result c.in_err-first-in-And.field-0.0 c.from_residual-in_err-first-in-And.ensures.1
    (fails_behind (Body HasText c.in-Some.room form.And) IsShortCondition (BehindParts c.in-Some.room (IsTooDeep c.in-Some.room)) (λ (d : Condition). d) (BeginsParts c.in-Some.room) AreShortParts (BehindParts c.in-Some.room (IsTooDeep c.in-Some.room)) (λ (p : Parts). p) c.form.new.self c.form.new.self c.parts.new.self c.parts.new.self c.in_err-first-in-And.field-0.0 c.in_err-first-in-And.ensures
    (λ x rest s. ((s.0, s.1, s.2), rest, (s.7, s.3, s.4, s.5))) inl (λ deep. deep)))

pub condition-returns-in_ok-first-in-And : goal.condition-returns-in_ok-first-in-And
condition-returns-in_ok-first-in-And t c =
    let parts = c.in_ok-first-in-And.ensures in
    let body : PassesBody c.in-Some.room form.And c.form.new.self c.parts.new.self (Ok (condition.And c.in_ok-first-in-And.first c.in_ok-first-in-And.second c.in_ok-first-in-And.more)) = (
      condition.And parts.0.0 parts.0.1 parts.0.2,
      (parts.0.0, parts.0.1, parts.0.2, parts.1.1, parts.1.2, parts.1.3, refl, parts.1.0),
      noted_as c.form.new.self.in_range c.parts.new.self.in_range (and_short parts.0) (short_and parts.0) (λ same. ap (λ (p : Parts). condition.And p.0 p.1 p.2) same) parts.2,
    ) in
    read_behind c.args.room c.in-Some.room c.in_ok-form.field-0 form.And c.args.self.now c.form.new.self c.parts.new.self (Ok (condition.And c.in_ok-first-in-And.first c.in_ok-first-in-And.second c.in_ok-first-in-And.more)) (omega (arith, c.in-Some.ensures.0, c.in-Some.ensures.1)) c.in_ok-form.ensures c.in-And.is body

pub condition-returns-in_err-first-in-Or : goal.condition-returns-in_err-first-in-Or
condition-returns-in_err-first-in-Or t c =
    read_behind c.args.room c.in-Some.room c.in_ok-form.field-0 form.Or c.args.self.now c.form.new.self c.parts-in-Or.new.self c.from_residual-in_err-first-in-Or.result (omega (arith, c.in-Some.ensures.0, c.in-Some.ensures.1)) c.in_ok-form.ensures c.in-Or.is
    (holds_of_fault (PassesBody c.in-Some.room form.Or c.form.new.self c.parts-in-Or.new.self) c.from_residual-in_err-first-in-Or.result c.in_err-first-in-Or.field-0.0 c.from_residual-in_err-first-in-Or.ensures.1
    (fails_behind (Body HasText c.in-Some.room form.Or) IsShortCondition (BehindParts c.in-Some.room (IsTooDeep c.in-Some.room)) (λ (d : Condition). d) (BeginsParts c.in-Some.room) AreShortParts (BehindParts c.in-Some.room (IsTooDeep c.in-Some.room)) (λ (p : Parts). p) c.form.new.self c.form.new.self c.parts-in-Or.new.self c.parts-in-Or.new.self c.in_err-first-in-Or.field-0.0 c.in_err-first-in-Or.ensures
    (λ x rest s. ((s.0, s.1, s.2), rest, (s.7, s.3, s.4, s.5))) inl (λ deep. deep)))

pub condition-returns-in_ok-first-in-Or : goal.condition-returns-in_ok-first-in-Or
condition-returns-in_ok-first-in-Or t c =
    let parts = c.in_ok-first-in-Or.ensures in
    let body : PassesBody c.in-Some.room form.Or c.form.new.self c.parts-in-Or.new.self (Ok (condition.Or c.in_ok-first-in-Or.first c.in_ok-first-in-Or.second c.in_ok-first-in-Or.more)) = (
      condition.Or parts.0.0 parts.0.1 parts.0.2,
      (parts.0.0, parts.0.1, parts.0.2, parts.1.1, parts.1.2, parts.1.3, refl, parts.1.0),
      noted_as c.form.new.self.in_range c.parts-in-Or.new.self.in_range (or_short parts.0) (short_or parts.0) (λ same. ap (λ (p : Parts). condition.Or p.0 p.1 p.2) same) parts.2,
    ) in
    read_behind c.args.room c.in-Some.room c.in_ok-form.field-0 form.Or c.args.self.now c.form.new.self c.parts-in-Or.new.self (Ok (condition.Or c.in_ok-first-in-Or.first c.in_ok-first-in-Or.second c.in_ok-first-in-Or.more)) (omega (arith, c.in-Some.ensures.0, c.in-Some.ensures.1)) c.in_ok-form.ensures c.in-Or.is body

pub condition-returns-in_err-term-in-IsNull : goal.condition-returns-in_err-term-in-IsNull
condition-returns-in_err-term-in-IsNull t c =
    read_behind c.args.room c.in-Some.room c.in_ok-form.field-0 form.IsNull c.args.self.now c.form.new.self c.term.new.self c.from_residual-in_err-term-in-IsNull.result (omega (arith, c.in-Some.ensures.0, c.in-Some.ensures.1)) c.in_ok-form.ensures c.in-IsNull.is
    (holds_of_fault (PassesBody c.in-Some.room form.IsNull c.form.new.self c.term.new.self) c.from_residual-in_err-term-in-IsNull.result c.in_err-term-in-IsNull.field-0.0 c.from_residual-in_err-term-in-IsNull.ensures.1
    (fails_behind (Body HasText c.in-Some.room form.IsNull) IsShortCondition IsNever (λ (d : Condition). d) (BeginsTerm 41) IsShortTerm IsNever (λ (t : Term). t) c.form.new.self c.form.new.self c.term.new.self c.term.new.self c.in_err-term-in-IsNull.field-0.0 c.in_err-term-in-IsNull.ensures
    (λ x rest s. (s.0, rest, (s.3, s.1))) inl (λ never. never)))

pub condition-returns-in_ok-term-in-IsNull : goal.condition-returns-in_ok-term-in-IsNull
condition-returns-in_ok-term-in-IsNull t c =
    let a = c.in_ok-term-in-IsNull.ensures in
    let body : PassesBody c.in-Some.room form.IsNull c.form.new.self c.term.new.self (Ok (condition.IsNull c.in_ok-term-in-IsNull.field-0)) = (
      condition.IsNull a.0,
      (a.0, a.1.1, refl, a.1.0),
      noted_as c.form.new.self.in_range c.term.new.self.in_range (null_short a.0) (short_null a.0) (λ same. ap condition.IsNull same) a.2,
    ) in
    read_behind c.args.room c.in-Some.room c.in_ok-form.field-0 form.IsNull c.args.self.now c.form.new.self c.term.new.self (Ok (condition.IsNull c.in_ok-term-in-IsNull.field-0)) (omega (arith, c.in-Some.ensures.0, c.in-Some.ensures.1)) c.in_ok-form.ensures c.in-IsNull.is body

pub condition-returns-in_err-number-in-Exists : goal.condition-returns-in_err-number-in-Exists
condition-returns-in_err-number-in-Exists t c =
    read_behind c.args.room c.in-Some.room c.in_ok-form.field-0 form.Exists c.args.self.now c.form.new.self c.number.new.self c.from_residual-in_err-number-in-Exists.result (omega (arith, c.in-Some.ensures.0, c.in-Some.ensures.1)) c.in_ok-form.ensures c.in-Exists.is
    (holds_of_fault (PassesBody c.in-Some.room form.Exists c.form.new.self c.number.new.self) c.from_residual-in_err-number-in-Exists.result c.in_err-number-in-Exists.field-0.0 c.from_residual-in_err-number-in-Exists.ensures.1
    (fails_behind (Body HasText c.in-Some.room form.Exists) IsShortCondition IsNever (λ (d : Condition). d) (BeginsNumber 41) IsShort IsNever (λ (n : ℕ). n) c.form.new.self c.form.new.self c.number.new.self c.number.new.self c.in_err-number-in-Exists.field-0.0 c.in_err-number-in-Exists.ensures
    (λ x rest s. (s.0, rest, s.3)) inl (λ never. never)))

pub condition-returns-in_ok-number-in-Exists : goal.condition-returns-in_ok-number-in-Exists
condition-returns-in_ok-number-in-Exists t c =
    let g = c.in_ok-number-in-Exists.ensures in
    let body : PassesBody c.in-Some.room form.Exists c.form.new.self c.number.new.self (Ok (condition.Exists c.in_ok-number-in-Exists.field-0)) = (
      condition.Exists g.0,
      (g.0, tt, refl, g.1),
      noted_as c.form.new.self.in_range c.number.new.self.in_range (exists_short g.0) (short_exists g.0) (λ same. ap condition.Exists same) g.2,
    ) in
    read_behind c.args.room c.in-Some.room c.in_ok-form.field-0 form.Exists c.args.self.now c.form.new.self c.number.new.self (Ok (condition.Exists c.in_ok-number-in-Exists.field-0)) (omega (arith, c.in-Some.ensures.0, c.in-Some.ensures.1)) c.in_ok-form.ensures c.in-Exists.is body

pub condition-returns-in-In : goal.condition-returns-in-In
condition-returns-in-In t c =
    read_behind c.args.room c.in-Some.room c.in_ok-form.field-0 form.In c.args.self.now c.form.new.self c.membership.new.self c.membership.result (omega (arith, c.in-Some.ensures.0, c.in-Some.ensures.1)) c.in_ok-form.ensures c.in-In.is
    (passes_as BeginsMembership IsShortMembership IsNever (λ (x : Term × ℕ × ℕ). condition.In x.0 x.1 x.2) (Body HasText c.in-Some.room form.In) IsShortCondition IsNever c.form.new.self c.membership.new.self c.membership.result
    (λ x rest s. (x.0, x.1, x.2, s.1, tt, tt, refl, s.0)) (λ d rest s. ((s.0, s.1, s.2), (s.7, s.3))) in_short short_in (λ never. never) (λ never. never) c.membership.ensures)

pub condition-returns-in-Compare : goal.condition-returns-in-Compare
condition-returns-in-Compare t c =
    let op = c.in-Compare.comparison in
    read_behind c.args.room c.in-Some.room c.in_ok-form.field-0 (form.Compare op) c.args.self.now c.form.new.self c.comparison.new.self c.comparison.result (omega (arith, c.in-Some.ensures.0, c.in-Some.ensures.1)) c.in_ok-form.ensures c.in-Compare.is
    (passes_as BeginsComparison IsShortComparison IsNever (λ (x : Term × Term). condition.Compare op x.0 x.1) (Body HasText c.in-Some.room (form.Compare op)) IsShortCondition IsNever c.form.new.self c.comparison.new.self c.comparison.result
    (λ x rest s. (x.0, x.1, s.1, s.2, refl, s.0)) (λ d rest s. ((s.0, s.1), (s.5, s.2, s.3))) (compare_short op) (short_compare op) (λ never. never) (λ never. never) c.comparison.ensures)

-- ---- more

pub more-returns-then-passes : goal.more-returns-then-passes
more-returns-then-passes t c =
    more_end c.args.room c.args.self.now c.loop-count.self c.loop-count.more c.loop-count._count c.loop-count.invariant c.passes.new.self (rw c.if-passes.true at c.passes.ensures.passed) c.passes.ensures.in_range

pub more-returns-in_err-expect : goal.more-returns-in_err-expect
more-returns-in_err-expect t c =
    let none = rw c.if-passes.false at c.passes.ensures.passed in
    holds_of_fault (Passes (BeginsMore c.args.room) (AllByRecursion IsShortCondition) (IsMoreTooDeep c.args.room) (λ (cs : List Condition). cs) c.args.self.now c.expect.new.self) c.from_residual.result c.in_err-expect.field-0.0 c.from_residual.ensures.1
    (fails_behind (BeginsMore c.args.room) (AllByRecursion IsShortCondition) (IsMoreTooDeep c.args.room) (λ (cs : List Condition). cs) (λ t (u : Unit {0}) rest. t ≡ 44 ∷ rest) IsAny IsNever (λ (u : Unit {0}). u) c.args.self.now c.passes.new.self c.expect.new.self c.expect.new.self c.in_err-expect.field-0.0 c.in_err-expect.ensures
    (λ ds rest s.
    let it = left_begins c.args.room c.args.self.now c.loop-count.self c.loop-count.more c.loop-count._count c.loop-count.invariant ds rest s in
    let next = next_part c.args.room c.loop-count.self.left.now it.0 rest it.1 none.0 in
    (tt, next.1, none.1 ∙ next.2))
    (λ deep.
    let it = more_deep c.args.room c.loop-count.self.left.now (left_deep c.args.room c.args.self.now c.loop-count.self c.loop-count.more c.loop-count._count c.loop-count.invariant deep) in
    inr (tt, it.0, none.1 ∙ it.1)) (λ never. absurd never))

pub more-returns-in_err-condition : goal.more-returns-in_err-condition
more-returns-in_err-condition t c =
    let none = rw c.if-passes.false at c.passes.ensures.passed in
    let comma : c.loop-count.self.left.now ≡ 44 ∷ c.expect.new.self.left.now = sym none.1 ∙ c.in_ok-expect.ensures.1 in
    holds_of_fault (Passes (BeginsMore c.args.room) (AllByRecursion IsShortCondition) (IsMoreTooDeep c.args.room) (λ (cs : List Condition). cs) c.args.self.now c.condition.new.self) c.from_residual-in_err-condition.result c.in_err-condition.field-0.0 c.from_residual-in_err-condition.ensures.1
    (more_unread c.args.room c.args.self.now c.loop-count.self c.loop-count.more c.loop-count._count c.loop-count.invariant c.expect.new.self c.condition.new.self c.condition.new.self c.in_err-condition.field-0.0 comma none.0 c.in_err-condition.ensures)

pub more-loop-count-preserved : goal.more-loop-count-preserved
more-loop-count-preserved t c =
    let none = rw c.if-passes.false at c.passes.ensures.passed in
    let comma = c.in_ok-expect.ensures in
    let kept = (noted_any c.passes.new.self.in_range c.expect.new.self.in_range comma.2).1 ∙ c.passes.ensures.in_range in
    let part = c.in_ok-condition.ensures in
    so_far_more c.args.room c.args.self.now c.loop-count.self c.condition.new.self c.loop-count.more c.push.new.self c.loop-count._count c.in_ok-condition.field-0 c.expect.new.self.left.now c.loop-count.invariant (sym none.1 ∙ comma.1)
    (part.0, part.1, subst (λ b. Noted (IsShortCondition part.0) (c.in_ok-condition.field-0 ≡ part.0) b c.condition.new.self.in_range) kept part.2) c.in_ok-push.ensures.ok

pub more-returns : goal.more-returns
more-returns t c = rw c.into.ensures (more_over c.args.room c.args.self.now c.loop-count.self c.loop-count.more c.loop-count._count c.loop-count.invariant c.loop-count.self (omega (arith, c.loop-count-test.false)))

-- ---- parts

pub parts-returns-in_err-condition : goal.parts-returns-in_err-condition
parts-returns-in_err-condition t c =
    holds_of_fault (Passes (BeginsParts c.args.room) AreShortParts (BehindParts c.args.room (IsTooDeep c.args.room)) (λ (p : Parts). p) c.args.self.now c.condition.new.self) c.from_residual.result c.in_err-condition.field-0.0 c.from_residual.ensures.1
    (first_fails c.args.room (BeginsParts c.args.room) AreShortParts (λ (p : Parts). p) c.args.self.now c.condition.new.self c.condition.new.self c.in_err-condition.field-0.0 (λ x rest s. (x.0, 44 ∷ (part_condition_text x.1 ++ (more_text x.2 ++ (41 ∷ rest))), (s.0, s.1))) c.in_err-condition.ensures)

pub parts-returns-in_err-expect : goal.parts-returns-in_err-expect
parts-returns-in_err-expect t c =
    let first = c.in_ok-condition.ensures in
    holds_of_fault (Passes (BeginsParts c.args.room) AreShortParts (BehindParts c.args.room (IsTooDeep c.args.room)) (λ (p : Parts). p) c.args.self.now c.expect.new.self) c.from_residual-in_err-expect.result c.in_err-expect.field-0.0 c.from_residual-in_err-expect.ensures.1
    (fails_behind (BeginsParts c.args.room) AreShortParts (BehindParts c.args.room (IsTooDeep c.args.room)) (λ (p : Parts). p) (λ t (u : Unit {0}) rest. t ≡ 44 ∷ rest) IsAny IsNever (λ (u : Unit {0}). u) c.args.self.now c.condition.new.self c.expect.new.self c.expect.new.self c.in_err-expect.field-0.0 c.in_err-expect.ensures
    (λ x rest s. (tt, part_condition_text x.1 ++ (more_text x.2 ++ (41 ∷ rest)), (same_front c.args.room c.args.self.now.left.now first.0 x.0 c.condition.new.self.left.now (44 ∷ (part_condition_text x.1 ++ (more_text x.2 ++ (41 ∷ rest)))) first.1 (s.0, s.1)).1))
    (λ deep. let it = behind_first c.args.room c.args.self.now.left.now first.0 c.condition.new.self.left.now first.1 deep in inr (tt, it.0, it.1)) (λ never. absurd never))

pub parts-returns-in_err-condition-2 : goal.parts-returns-in_err-condition-2
parts-returns-in_err-condition-2 t c =
    holds_of_fault (Passes (BeginsParts c.args.room) AreShortParts (BehindParts c.args.room (IsTooDeep c.args.room)) (λ (p : Parts). p) c.args.self.now c.condition-2.new.self) c.from_residual-in_err-condition-2.result c.in_err-condition-2.field-0.0 c.from_residual-in_err-condition-2.ensures.1
    (behind_comma c.args.room c.args.self.now c.condition.new.self c.expect.new.self c.condition-2.new.self c.condition-2.new.self c.in_err-condition-2.field-0.0 c.in_ok-condition.ensures.0 c.in_ok-condition.ensures.1 c.in_ok-expect.ensures.1
    (second_fails c.args.room c.expect.new.self c.condition-2.new.self c.condition-2.new.self c.in_err-condition-2.field-0.0 c.in_err-condition-2.ensures))

pub parts-returns-in_err-more : goal.parts-returns-in_err-more
parts-returns-in_err-more t c =
    holds_of_fault (Passes (BeginsParts c.args.room) AreShortParts (BehindParts c.args.room (IsTooDeep c.args.room)) (λ (p : Parts). p) c.args.self.now c.more.new.self) c.from_residual-in_err-more.result c.in_err-more.field-0.0 c.from_residual-in_err-more.ensures.1
    (behind_comma c.args.room c.args.self.now c.condition.new.self c.expect.new.self c.more.new.self c.more.new.self c.in_err-more.field-0.0 c.in_ok-condition.ensures.0 c.in_ok-condition.ensures.1 c.in_ok-expect.ensures.1
    (behind_second c.args.room c.expect.new.self c.condition-2.new.self c.more.new.self c.more.new.self c.in_err-more.field-0.0 c.in_ok-condition-2.ensures.0 c.in_ok-condition-2.ensures.1 c.in_err-more.ensures))

pub parts-returns : goal.parts-returns
parts-returns t c =
    let first = c.in_ok-condition.ensures in
    let comma = c.in_ok-expect.ensures in
    let second = c.in_ok-condition-2.ensures in
    let more = c.in_ok-more.ensures in
    let kept = (noted_any c.condition.new.self.in_range c.expect.new.self.in_range comma.2).1 in
    let second_noted = subst (λ b. Noted (IsShortCondition second.0) (c.in_ok-condition-2.field-0 ≡ second.0) b c.condition-2.new.self.in_range) kept second.2 in (
      (first.0, second.0, more.0),
      (first.1.0 ∙ ap (λ t. part_condition_text first.0 ++ t) (comma.1 ∙ ap (λ t. 44 ∷ t) (second.1.0 ∙ ap (λ t. part_condition_text second.0 ++ t) more.1.0)), first.1.1, second.1.1, more.1.1),
      noted_as c.args.self.now.in_range c.more.new.self.in_range (λ all. (all.0, all.1.0, all.1.1)) (λ all. (all.0, (all.1, all.2)))
          (λ same. λ i. ((c.first.view_is ∙ c.in_ok-first.ensures ∙ same.0) i, (c.in_ok-second.ensures ∙ same.1.0) i, same.1.1 i))
          (noted_both c.args.self.now.in_range c.condition.new.self.in_range c.more.new.self.in_range first.2 (noted_both c.condition.new.self.in_range c.condition-2.new.self.in_range c.more.new.self.in_range second_noted more.2)),
    )
