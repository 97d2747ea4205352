-- The parts of an AND or an OR, as far as they are read.
use Rattle.std.proofs.Common.{◌≡◌, ℕ, ◌+◌, ◌≤◌, inl, List, [], ◌∷◌, ◌++◌, length, drop, get_or, append-nil, length-append, append_assoc, codes, Ok, Err, refl, sym, ◌∙◌, ap, subst, arith}
use Rattle.std.specs.List.{AllByRecursion}
use Rattle.values.proofs.Lists.{all_append}
use Rattle.values.specs.declared.fault.Fault.{Fault}
use Rattle.values.specs.declared.fault.Fault.TheVariants.{Memory, Refused}
use Rattle.algebra.specs.declared.condition.Condition.{Condition}
use Rattle.certificate_text.specs.declared.part_fault.PartReason.{PartReason}
use Rattle.certificate_text.specs.declared.part_fault.PartReason.TheVariants.{OtherForm, OverLimit}
use Rattle.certificate_text.specs.declared.conditions.Cursor.{Cursor}
use Rattle.certificate_text.specs.ConditionReading.{part_condition_text, parts_text, more_text, IsWithin, IsShortCondition, BeginsWith, BeginsMore, BeginsParts, AreShortParts, IsAny, Parts, BehindParts, IsTooDeep, IsMoreTooDeep, Passes, PassesCondition}
use Rattle.certificate_text.specs.Parts.{Noted}
use Rattle.certificate_text.specs.PartTexts.{Text}
use Rattle.certificate_text.proofs.Passing.{fails_behind, noted_as, noted_both}
use Rattle.certificate_text.proofs.SameFronts.{not_both_fronts, same_front}

abbrev Deep : ℕ → Text → Type 0
Deep room = BehindParts room (IsTooDeep room)

-- ---- behind a part that was read

first_text : (c : Condition) (cs : List Condition) (t : Text) → parts_text (c ∷ cs) ++ t ≡ part_condition_text c ++ (44 ∷ (parts_text cs ++ t))
first_text c cs t = append_assoc (part_condition_text c ++ codes ",") (parts_text cs) t ∙ append_assoc (part_condition_text c) (codes ",") (parts_text cs ++ t)

next_text : (c : Condition) (cs : List Condition) (t : Text) → more_text (c ∷ cs) ++ t ≡ 44 ∷ (part_condition_text c ++ (more_text cs ++ t))
next_text c cs t = ap (λ t. 44 ∷ t) (append_assoc (part_condition_text c) (more_text cs) t)

-- what is too deep behind the parts is behind the first one's comma
pub behind_first : (room : ℕ) (w : Text) (a : Condition) (mid : Text) → BeginsWith room w a mid → Deep room w → (m : Text) × (mid ≡ 44 ∷ m) × Deep room m
behind_first room w a mid h ([], rest, e, all, too) = absurd (not_both_fronts room w a mid h (subst (IsTooDeep room) (sym e) too))
behind_first room w a mid h (c ∷ cs, rest, e, all, too) =
    let first = same_front room w a c mid (44 ∷ (parts_text cs ++ rest)) h (e ∙ first_text c cs rest, all.0) in
    (parts_text cs ++ rest, first.1, (cs, rest, refl, all.1, too))

pub before_first : (room : ℕ) (w : Text) (a : Condition) (m : Text) → BeginsWith room w a (44 ∷ m) → Deep room m → Deep room w
before_first room w a m h (cs, rest, e, all, too) = (a ∷ cs, rest, h.0 ∙ ap (λ m. part_condition_text a ++ (44 ∷ m)) e ∙ sym (first_text a cs rest), (h.1, all), too)

-- commas before the parts, or behind them
commas : (cs : List Condition) (rest : Text) → 44 ∷ (parts_text cs ++ rest) ≡ more_text cs ++ (44 ∷ rest)
commas [] rest = refl
commas (c ∷ cs) rest = ap (λ t. 44 ∷ t) (first_text c cs rest) ∙ ap (λ t. 44 ∷ (part_condition_text c ++ t)) (commas cs rest) ∙ sym (next_text c cs (44 ∷ rest))

pub deep_more : (room : ℕ) (w m : Text) → w ≡ 44 ∷ m → Deep room m → IsMoreTooDeep room w
deep_more room w m e (cs, rest, is, all, too) = (cs, rest, e ∙ ap (λ m. 44 ∷ m) is ∙ commas cs rest, all, too)

pub more_deep : (room : ℕ) (w : Text) → IsMoreTooDeep room w → (m : Text) × (w ≡ 44 ∷ m) × Deep room m
more_deep room w (cs, rest, e, all, too) = (parts_text cs ++ rest, e ∙ sym (commas cs rest), (cs, rest, refl, all, too))

-- ---- a part that isn't read

-- where the first part fails, all do
pub first_fails : {X V : Type 0} (room : ℕ) (S : Text → X → Text → Type 0) (R : X → Type 0) (make : X → V) (old new end : Cursor) (fault : Fault PartReason)
    → ((x : X) (rest : Text) → S old.left.now x rest → (c : Condition) × (more : Text) × BeginsWith room old.left.now c more)
    → PassesCondition room old new (Err fault) → Passes S R (Deep room) make old end (Err fault)
first_fails room S R make old new end Memory begins h = tt
first_fails room S R make old new end (Refused OverLimit) begins h = ([], old.left.now, refl, tt, h)
first_fails {X} room S R make old new end (Refused OtherForm) begins h = ((λ x rest s. let c = begins x rest s in h.0 c.0 c.1 c.2), deep) where
  deep : Deep room old.left.now → ⊥
  deep ([], rest, e, all, too) = h.1 (subst (IsTooDeep room) (sym e) too)
  deep (c ∷ cs, rest, e, all, too) = h.0 c (44 ∷ (parts_text cs ++ rest)) (e ∙ first_text c cs rest, all.0)

-- the second part, those behind it, and the parenthesis
abbrev BeginsSecond : ℕ → Text → Condition × List Condition → Text → Type 0
BeginsSecond room t x rest = (t ≡ part_condition_text x.0 ++ (more_text x.1 ++ (41 ∷ rest))) × IsWithin room x.0 × AllByRecursion (IsWithin room) x.1

abbrev PassesSecond : ℕ → Cursor → Cursor → Fault PartReason → Type 0
PassesSecond room old new fault = Passes (BeginsSecond room) IsAny (Deep room) (λ (x : Condition × List Condition). x) old new (Err fault)

pub second_fails : (room : ℕ) (old new end : Cursor) (fault : Fault PartReason) → PassesCondition room old new (Err fault) → PassesSecond room old end fault
second_fails room old new end fault h = first_fails room (BeginsSecond room) IsAny (λ x. x) old new end fault (λ x rest s. (x.0, more_text x.1 ++ (41 ∷ rest), (s.0, s.1))) h

pub behind_comma : (room : ℕ) (old first mid new end : Cursor) (fault : Fault PartReason) (a : Condition) → BeginsWith room old.left.now a first.left.now → first.left.now ≡ 44 ∷ mid.left.now → PassesSecond room mid new fault → Passes (BeginsParts room) AreShortParts (Deep room) (λ (p : Parts). p) old end (Err fault)
behind_comma room old first mid new end fault a begins comma h =
    fails_behind (BeginsParts room) AreShortParts (Deep room) (λ (p : Parts). p) (BeginsSecond room) IsAny (Deep room) (λ (x : Condition × List Condition). x) old mid new end fault h
    (λ x rest s.
    let one = same_front room old.left.now a x.0 first.left.now (44 ∷ (part_condition_text x.1 ++ (more_text x.2 ++ (41 ∷ rest)))) begins (s.0, s.1) in
    ((x.1, x.2), rest, (ap (drop 1) (sym comma ∙ one.1), s.2, s.3)))
    (λ deep. let it = behind_first room old.left.now a first.left.now begins deep in inl (subst (Deep room) (ap (drop 1) (sym it.1 ∙ comma)) it.2))
    (λ deep. before_first room old.left.now a mid.left.now (subst (BeginsWith room old.left.now a) comma begins) deep)

pub behind_second : (room : ℕ) (old second new end : Cursor) (fault : Fault PartReason) (b : Condition) → BeginsWith room old.left.now b second.left.now → Passes (BeginsMore room) (AllByRecursion IsShortCondition) (IsMoreTooDeep room) (λ (cs : List Condition). cs) second new (Err fault) → PassesSecond room old end fault
behind_second room old second new end fault b begins h =
    fails_behind (BeginsSecond room) IsAny (Deep room) (λ (x : Condition × List Condition). x) (BeginsMore room) (AllByRecursion IsShortCondition) (IsMoreTooDeep room) (λ (cs : List Condition). cs) old second new end fault h
    (λ x rest s. (x.1, rest, ((same_front room old.left.now b x.0 second.left.now (more_text x.1 ++ (41 ∷ rest)) begins (s.0, s.1)).1, s.2)))
    (λ deep. let it = behind_first room old.left.now b second.left.now begins deep in inl (deep_more room second.left.now it.0 it.1 it.2))
    (λ deep. let it = more_deep room second.left.now deep in before_first room old.left.now b it.0 (subst (BeginsWith room old.left.now b) it.1 begins) it.2)

-- ---- the parts behind the second, as far as they are read

abbrev pub MoreSoFar : ℕ → Cursor → Cursor → List Condition → ℕ → Type 0
MoreSoFar room first now more count =
    (cs : List Condition) × (first.left.now ≡ more_text cs ++ now.left.now) × AllByRecursion (IsWithin room) cs × (length cs ≡ count)
    × Noted (AllByRecursion IsShortCondition cs) (more ≡ cs) first.in_range now.in_range

more_behind : (room : ℕ) (cs ds : List Condition) (w rest : Text) → AllByRecursion (IsWithin room) cs → AllByRecursion (IsWithin room) ds → more_text cs ++ w ≡ more_text ds ++ (41 ∷ rest) → (es : List Condition) × AllByRecursion (IsWithin room) es × (w ≡ more_text es ++ (41 ∷ rest))
more_behind room [] ds w rest h k e = (ds, k, e)
more_behind room (c ∷ cs) [] w rest h k e = absurd (omega (arith, ap (λ w. get_or w 0 0) e))
more_behind room (c ∷ cs) (d ∷ ds) w rest h k e =
    let first = same_front room (part_condition_text c ++ (more_text cs ++ w)) c d (more_text cs ++ w) (more_text ds ++ (41 ∷ rest)) (refl, h.0) (ap (drop 1) (sym (next_text c cs w) ∙ e ∙ next_text d ds (41 ∷ rest)), k.0) in
    more_behind room cs ds w rest h.1 k.1 first.1

deep_behind : (room : ℕ) (cs : List Condition) (w : Text) → AllByRecursion (IsWithin room) cs → IsMoreTooDeep room (more_text cs ++ w) → IsMoreTooDeep room w
deep_behind room [] w h deep = deep
deep_behind room (c ∷ cs) w h deep =
    let it = more_deep room (more_text (c ∷ cs) ++ w) deep in
    let later = behind_first room it.0 c (more_text cs ++ w) (ap (drop 1) (sym it.1 ∙ next_text c cs w), h.0) it.2 in
    deep_behind room cs w h.1 (deep_more room (more_text cs ++ w) later.0 later.1 later.2)

deep_before : (room : ℕ) (cs : List Condition) (w : Text) → AllByRecursion (IsWithin room) cs → IsMoreTooDeep room w → IsMoreTooDeep room (more_text cs ++ w)
deep_before room [] w h deep = deep
deep_before room (c ∷ cs) w h deep =
    let it = more_deep room (more_text cs ++ w) (deep_before room cs w h.1 deep) in
    deep_more room (more_text (c ∷ cs) ++ w) (part_condition_text c ++ (more_text cs ++ w)) (next_text c cs w)
    (before_first room (part_condition_text c ++ (more_text cs ++ w)) c it.0 (ap (λ t. part_condition_text c ++ t) it.1, h.0) it.2)

more_longer : (cs : List Condition) (c : Condition) → more_text (cs ++ (c ∷ [])) ≡ more_text cs ++ (44 ∷ part_condition_text c)
more_longer [] c = append-nil (44 ∷ part_condition_text c)
more_longer (d ∷ cs) c = ap (λ t. (44 ∷ part_condition_text d) ++ t) (more_longer cs c) ∙ sym (append_assoc (44 ∷ part_condition_text d) (more_text cs) (44 ∷ part_condition_text c))

long : (cs : List Condition) → length cs ≤ length (more_text cs)
long [] = omega arith
long (c ∷ cs) = omega (arith, long cs, length-append (part_condition_text c) (more_text cs))

module _ (room : ℕ) (first now : Cursor) (more : List Condition) (count : ℕ) (so_far : MoreSoFar room first now more count) where
  -- what is left of the parts stands there
  pub left_begins : (ds : List Condition) (rest : Text) → BeginsMore room first.left.now ds rest → (es : List Condition) × BeginsMore room now.left.now es rest
  left_begins ds rest begins =
      let it = more_behind room so_far.0 ds now.left.now rest so_far.2 begins.1 (sym so_far.1 ∙ begins.0) in
      (it.0, (it.2, it.1))

  pub left_deep : IsMoreTooDeep room first.left.now → IsMoreTooDeep room now.left.now
  left_deep deep = deep_behind room so_far.0 now.left.now so_far.2 (subst (IsMoreTooDeep room) so_far.1 deep)

  pub whole_deep : IsMoreTooDeep room now.left.now → IsMoreTooDeep room first.left.now
  whole_deep deep = subst (IsMoreTooDeep room) (sym so_far.1) (deep_before room so_far.0 now.left.now so_far.2 deep)

  -- the parenthesis ends them
  pub more_end : (new : Cursor) → now.left.now ≡ codes ")" ++ new.left.now → new.in_range ≡ now.in_range → Passes (BeginsMore room) (AllByRecursion IsShortCondition) (IsMoreTooDeep room) (λ cs. cs) first new (Ok more)
  more_end new is same = (so_far.0, (so_far.1 ∙ ap (λ t. more_text so_far.0 ++ t) is, so_far.2), subst (Noted (AllByRecursion IsShortCondition so_far.0) (more ≡ so_far.0) first.in_range) (sym same) so_far.4)

  -- they end within the text
  pub more_over : (new : Cursor) → length first.left.now ≤ count → Passes (BeginsMore room) (AllByRecursion IsShortCondition) (IsMoreTooDeep room) (λ (cs : List Condition). cs) first new (Err (Refused OtherForm))
  more_over new over = (begins, deep) where
    nothing : length now.left.now ≡ 0
    nothing = omega (arith, over, so_far.3, long so_far.0, ap length so_far.1, length-append (more_text so_far.0) now.left.now)

    begins : (ds : List Condition) (rest : Text) → BeginsMore room first.left.now ds rest → ⊥
    begins ds rest h = let it = left_begins ds rest h in omega (arith, nothing, ap length it.1.0, length-append (more_text it.0) (41 ∷ rest))

    deep : IsMoreTooDeep room first.left.now → ⊥
    deep h = let it = more_deep room now.left.now (left_deep h) in omega (arith, nothing, ap length it.1)

short_longer : (cs : List Condition) (c : Condition) → AllByRecursion IsShortCondition (cs ++ (c ∷ [])) → AllByRecursion IsShortCondition cs × IsShortCondition c
short_longer [] c h = (tt, h.0)
short_longer (d ∷ cs) c h = let more = short_longer cs c h.1 in ((h.0, more.0), more.1)

-- one more
pub so_far_more : (room : ℕ) (first now next : Cursor) (more grown : List Condition) (count : ℕ) (v : Condition) (mid : Text) → MoreSoFar room first now more count → now.left.now ≡ 44 ∷ mid
    → (c : Condition) × BeginsWith room mid c next.left.now × Noted (IsShortCondition c) (v ≡ c) now.in_range next.in_range → grown ≡ more ++ (v ∷ []) → MoreSoFar room first next grown (count + 1)
so_far_more room first now next more grown count v mid so_far comma part is =
    let cs = so_far.0 in
    let c = part.0 in (
      cs ++ (c ∷ []),
      so_far.1 ∙ ap (λ t. more_text cs ++ t) (comma ∙ ap (λ t. 44 ∷ t) part.1.0) ∙ sym (append_assoc (more_text cs) (44 ∷ part_condition_text c) next.left.now) ∙ ap (λ t. t ++ next.left.now) (sym (more_longer cs c)),
      all_append (IsWithin room) cs (c ∷ []) so_far.2 (part.1.1, tt),
      omega (arith, length-append cs (c ∷ []), so_far.3),
      noted_as first.in_range next.in_range (λ both. all_append IsShortCondition cs (c ∷ []) both.0 (both.1, tt)) (short_longer cs c) (λ same. is ∙ (λ i. same.0 i ++ (same.1 i ∷ []))) (noted_both first.in_range now.in_range next.in_range so_far.4 part.2),
    )

-- where the parenthesis doesn't stand there, a part does
pub next_part : (room : ℕ) (w : Text) (es : List Condition) (rest : Text) → BeginsMore room w es rest → ((after : Text) → w ≡ codes ")" ++ after → ⊥) → (x : Condition × List Condition) × (m : Text) × (w ≡ 44 ∷ m) × BeginsSecond room m x rest
next_part room w [] rest h none = absurd (none rest h.0)
next_part room w (e ∷ es) rest h none = ((e, es), part_condition_text e ++ (more_text es ++ (41 ∷ rest)), h.0 ∙ next_text e es (41 ∷ rest), (refl, h.1.0, h.1.1))

pub more_unread : (room : ℕ) (first now : Cursor) (more : List Condition) (count : ℕ) → MoreSoFar room first now more count → (mid new end : Cursor) (fault : Fault PartReason) → now.left.now ≡ 44 ∷ mid.left.now → ((after : Text) → now.left.now ≡ codes ")" ++ after → ⊥)
    → PassesCondition room mid new (Err fault) → Passes (BeginsMore room) (AllByRecursion IsShortCondition) (IsMoreTooDeep room) (λ (cs : List Condition). cs) first end (Err fault)
more_unread room first now more count so_far mid new end fault comma none h =
    fails_behind (BeginsMore room) (AllByRecursion IsShortCondition) (IsMoreTooDeep room) (λ (cs : List Condition). cs) (BeginsSecond room) IsAny (Deep room) (λ (x : Condition × List Condition). x) first mid new end fault (second_fails room mid new new fault h)
    (λ ds rest s.
    let it = left_begins room first now more count so_far ds rest s in
    let next = next_part room now.left.now it.0 rest it.1 none in
    (next.0, rest, subst (λ m. BeginsSecond room m next.0 rest) (ap (drop 1) (sym next.2 ∙ comma)) next.3))
    (λ deep. let it = more_deep room now.left.now (left_deep room first now more count so_far deep) in inl (subst (Deep room) (ap (drop 1) (sym it.1 ∙ comma)) it.2))
    (λ deep. whole_deep room first now more count so_far (deep_more room now.left.now mid.left.now comma deep))
