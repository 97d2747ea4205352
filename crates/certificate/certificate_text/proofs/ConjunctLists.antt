-- The conditions of a list of conjuncts, as far as they are read.
use Rattle.std.proofs.Common.{◌≡◌, ℕ, zero, suc, ◌+◌, ◌-◌, ◌<◌, ◌≤◌, ◌==◌, Bool, true, false, inl, inr, ◌⊎◌, List, [], ◌∷◌, ◌++◌, map, length, take, drop, get_or, refl, sym, ◌∙◌, ap, subst, arith, append-nil, append_assoc, length-append, codes, Result, Ok, Err, Option, Some, None}
use denote.Ref.{Bor}
use Rattle.std.proofs.Math.Seq.{take-suc}
use Rattle.std.proofs.lemmas.Bool.{cases_lt}
use Rattle.std.proofs.lemmas.List.{get_or-map, length-map, map-append}
use Rattle.std.specs.List.{AllByRecursion, join_by, join_with_byte, slice_split}
use Rattle.std.specs.Option.{option_map}
use Rattle.values.proofs.Lists.{all_append}
use Rattle.values.specs.declared.fault.Fault.{Fault}
use Rattle.values.specs.declared.fault.Fault.TheVariants.{Memory, Refused}
use Rattle.values.specs.Faults.{Gives}
use Rattle.algebra.specs.declared.condition.Condition.{Condition}
use Rattle.algebra.specs.declared.condition.Condition.TheVariants.{Exists}
use Rattle.algebra.specs.declared.condition.Term.{Term}
use Rattle.algebra.specs.ConjunctOrder.{condition_text, goes_before, AreRising, IsPart, TextsRise}
use Rattle.algebra.proofs.ConjunctLists.{and-is-no-part, one-part, rising-tail}
use Rattle.certificate_text.specs.declared.part_fault.PartReason.{PartReason}
use Rattle.certificate_text.specs.declared.part_fault.PartReason.TheVariants.{OtherForm, OverLimit}
use Rattle.certificate_text.specs.declared.conjunct_lists.Rising.{Rising}
use Rattle.certificate_text.specs.Conditions.{IsBefore, IsReadable, form_text, terms_of}
use Rattle.certificate_text.specs.ConditionReading.{part_condition_text, IsShortCondition, IsTooDeep, IsWithin}
use Rattle.certificate_text.specs.ListReading.{AddsConjunct, AreBehind, AreConjunctsWithin, AreShortConditions, Continues, IsListTooDeep, IsNoAnd, IsOneTooDeep, ReadsConjuncts, ReadsList, SpellEachAny, SpellsAnyConjuncts, part_conjuncts_text, part_ended, separate_text}
use Rattle.certificate_text.specs.Parts.{Noted}
use Rattle.certificate_text.specs.PartTexts.{Text}
use Rattle.certificate_text.specs.Spelled.{HasText, IsReadableTerm, IsShortTerm}
use Rattle.certificate_text.proofs.ConjunctTexts.{deep_first, deep_joined, first_part, list_cut, list_joined, separate_cut, separate_joined}
use Rattle.certificate_text.proofs.Exits.{not_both, not_none, same_ok, same_some}
use Rattle.certificate_text.proofs.FrontConditions.{all_split, opened, some_room}
use Rattle.certificate_text.proofs.NumberLists.{texts, texts_length}
use Rattle.certificate_text.proofs.Passing.{noted_as, noted_both}
use Rattle.certificate_text.proofs.SameFronts.{not_both_fronts, same_to}
use Rattle.certificate_text.proofs.TermParts.{readable_term}
use Rattle.certificate_text.proofs.WideConditions.{conditions_same}

-- ---- lists that are split at a place

module _ {X : Type 0} where
  pub at_place : (xs : List X) (i : ℕ) (any : X) → i < length xs → (before : List X) × (after : List X) × (xs ≡ before ++ (get_or xs i any ∷ after)) × (before ≡ take i xs) × (length before ≡ i)
  at_place [] i any l = absurd (omega arith)
  at_place (x ∷ xs) zero any l = ([], xs, refl, refl, refl)
  at_place (x ∷ xs) (suc i) any l =
      let more = at_place xs i any (omega arith) in
      (x ∷ more.0, more.1, ap (λ xs. x ∷ xs) more.2, ap (λ xs. x ∷ xs) more.3, omega (arith, more.4))

  -- of two lists that are split at one place
  same_middle : (xs ys : List X) (a b : X) (us vs : List X) → length xs ≡ length ys → xs ++ (a ∷ us) ≡ ys ++ (b ∷ vs) → (xs ≡ ys) × (a ≡ b) × (us ≡ vs)
  same_middle [] [] a b us vs l e = (refl, ap (λ t. get_or t 0 a) e, ap (drop 1) e)
  same_middle [] (y ∷ ys) a b us vs l e = absurd (omega (arith, l))
  same_middle (x ∷ xs) [] a b us vs l e = absurd (omega (arith, l))
  same_middle (x ∷ xs) (y ∷ ys) a b us vs l e =
      let more = same_middle xs ys a b us vs (omega (arith, l)) (ap (drop 1) e) in
      ((λ i. ap (λ t. get_or t 0 x) e i ∷ more.0 i), more.1, more.2)

  nothing_long : (xs : List X) → length xs ≤ 0 → xs ≡ []
  nothing_long [] l = refl
  nothing_long (x ∷ xs) l = absurd (omega (arith, l))

-- ---- texts that rise

abbrev pub last_of : Text → List Condition → Text
last_of last [] = last
last_of last (c ∷ C) = last_of (part_condition_text c) C

behind_more : (last : Text) (C : List Condition) (c : Condition) → AreBehind last C → IsBefore (last_of last C) (part_condition_text c) → AreBehind last (C ++ (c ∷ []))
behind_more last [] c h k = (k, tt)
behind_more last (d ∷ C) c h k = (h.0, behind_more (part_condition_text d) C c h.1 k)

behind_at : (last : Text) (E : List Condition) (d : Condition) (F : List Condition) → AreBehind last (E ++ (d ∷ F)) → IsBefore (last_of last E) (part_condition_text d)
behind_at last [] d F h = h.0
behind_at last (e ∷ E) d F h = behind_at (part_condition_text e) E d F h.1

last_more : (last : Text) (C : List Condition) (c : Condition) → last_of last (C ++ (c ∷ [])) ≡ part_condition_text c
last_more last [] c = refl
last_more last (d ∷ C) c = last_more (part_condition_text d) C c

last_same : (last : Text) (C D : List Condition) → map part_condition_text C ≡ map part_condition_text D → last_of last C ≡ last_of last D
last_same last [] [] e = refl
last_same last [] (d ∷ D) e = absurd (omega (arith, ap length e))
last_same last (c ∷ C) [] e = absurd (omega (arith, ap length e))
last_same last (c ∷ C) (d ∷ D) e = last_same (part_condition_text c) C D (ap (drop 1) e) ∙ ap (λ t. last_of t D) (ap (λ ts. get_or ts 0 []) e)

-- ---- the texts of parts

ended_append : (E : List Condition) (d : Condition) (F : List Condition) → part_ended (E ++ (d ∷ F)) ≡ map part_condition_text E ++ part_ended (d ∷ F)
ended_append [] d F = refl
ended_append (e ∷ []) d F = refl
ended_append (e ∷ g ∷ E) d F = ap (λ ts. part_condition_text e ∷ ts) (ended_append (g ∷ E) d F)

ended_length : (C : List Condition) → length (part_ended C) ≡ length C
ended_length [] = refl
ended_length (c ∷ []) = refl
ended_length (c ∷ d ∷ C) = omega (arith, ended_length (d ∷ C))

-- the text at a place of a list, with what stands behind it
ended_at : (d : Condition) (F : List Condition) (end : Text) (ts : List Text) → (0 < length F → end ≡ []) → (length F ≤ 0 → end ≡ codes "]") → (after : List Text) × (part_ended (d ∷ F) ≡ (part_condition_text d ++ end) ∷ after) × (length after ≡ length F)
ended_at d [] end ts inner last = ([], ap (λ e. (part_condition_text d ++ e) ∷ []) (sym (last (omega arith))), refl)
ended_at d (f ∷ F) end ts inner last = (part_ended (f ∷ F), ap (λ t. t ∷ part_ended (f ∷ F)) (sym (ap (λ e. part_condition_text d ++ e) (inner (omega arith)) ∙ append-nil (part_condition_text d))), ended_length (f ∷ F))

abbrev any : Condition
any = Exists 0

-- ---- the conditions so far

abbrev pub SoFar : ℕ → List Text → ℕ → List Condition → Text → Bool → Type 0
SoFar room ts place conditions last in_range =
    (C : List Condition) × AreConjunctsWithin room C × (length C ≡ place) × (place < length ts → take place ts ≡ map part_condition_text C) × (length ts ≤ place → ts ≡ part_ended C)
    × (last ≡ last_of [] C) × Noted (AreShortConditions C) (conditions ≡ C) true in_range

short_longer : (C : List Condition) (c : Condition) → AreShortConditions (C ++ (c ∷ [])) → AreShortConditions C × IsShortCondition c
short_longer C c h = let parts = all_split IsShortCondition C (c ∷ []) h in (parts.0, parts.1.0)

conjuncts_more : (room : ℕ) (C : List Condition) (c : Condition) → AreConjunctsWithin room C → IsWithin room c → IsNoAnd c → IsBefore (last_of [] C) (part_condition_text c) → AreConjunctsWithin room (C ++ (c ∷ []))
conjuncts_more room C c h within other behind = (all_append (IsWithin room) C (c ∷ []) h.0 (within, tt), all_append IsNoAnd C (c ∷ []) h.1 (other, tt), behind_more [] C c h.2 behind)

module _ (room : ℕ) (ts : List Text) (place : ℕ) (end : Text) (l : place < length ts) (inner : place + 1 < length ts → end ≡ []) (last : length ts ≤ place + 1 → end ≡ codes "]") (old new : Rising) (so_far : SoFar room ts place old.conditions old.last.now old.in_range) where
  abbrev here : Text
  here = get_or ts place []

  cut : (before : List Text) × (after : List Text) × (ts ≡ before ++ (here ∷ after)) × (before ≡ take place ts) × (length before ≡ place)
  cut = at_place ts place [] l

  abbrev had : List Condition
  had = so_far.0

  before_is : cut.0 ≡ map part_condition_text had
  before_is = cut.3 ∙ so_far.3 l

  whole : ts ≡ map part_condition_text had ++ (here ∷ cut.1)
  whole = cut.2 ∙ ap (λ b. b ++ (here ∷ cut.1)) before_is

  after_length : length ts ≡ place + (1 + length cut.1)
  after_length = ap length cut.2 ∙ omega (arith, length-append cut.0 (here ∷ cut.1), cut.4)

  pub part_added : (u : Unit) → AddsConjunct room here end old new (Ok u) → SoFar room ts (place + 1) new.conditions new.last.now new.in_range
  part_added u (c, v, follows, latest, grown, noted) = (
    had ++ (c ∷ []),
    conjuncts_more room had c so_far.1 follows.1 follows.2 (subst (λ t. IsBefore t (part_condition_text c)) so_far.5 follows.3),
    omega (arith, length-append had (c ∷ []), so_far.2),
    inside,
    ends,
    latest ∙ sym (last_more [] had c),
    noted_as true new.in_range (λ both. all_append IsShortCondition had (c ∷ []) both.0 (both.1, tt)) (short_longer had c) (λ same. grown ∙ (λ i. same.0 i ++ (same.1 i ∷ []))) (noted_both true old.in_range new.in_range so_far.6 noted),
  ) where
    longer : take (place + 1) ts ≡ map part_condition_text had ++ (here ∷ [])
    longer = let next : place + 1 ≡ suc place = omega arith in ap (λ n. take n ts) next ∙ take-suc ts place [] l ∙ ap (λ b. b ++ (here ∷ [])) (so_far.3 l)

    inside : place + 1 < length ts → take (place + 1) ts ≡ map part_condition_text (had ++ (c ∷ []))
    inside k = longer ∙ ap (λ t. map part_condition_text had ++ (t ∷ [])) (follows.0 ∙ ap (λ e. part_condition_text c ++ e) (inner k) ∙ append-nil (part_condition_text c)) ∙ sym (map-append part_condition_text had (c ∷ []))

    ends : length ts ≤ place + 1 → ts ≡ part_ended (had ++ (c ∷ []))
    ends k = whole ∙ ap (λ a. map part_condition_text had ++ (here ∷ a)) (nothing_long cut.1 (omega (arith, k, after_length))) ∙ ap (λ t. map part_condition_text had ++ (t ∷ [])) (follows.0 ∙ ap (λ e. part_condition_text c ++ e) (last k)) ∙ sym (ended_append had c [])

  -- ---- a part that isn't read

  -- a list that is spelled goes on here
  spelled_here : (D : List Condition) → SpellEachAny room ts D → (d : Condition) × Continues room here end old.last.now d
  spelled_here D (e, within) =
      let long : place < length D = omega (arith, l, ap length e, ended_length D) in
      let split = at_place D place any long in
      let d = get_or D place any in
      let F = split.1 in
      let parts : ts ≡ map part_condition_text split.0 ++ part_ended (d ∷ F) = e ∙ ap part_ended split.2 ∙ ended_append split.0 d F in
      let count : length ts ≡ place + (1 + length F) = ap length e ∙ ended_length D ∙ ap length split.2 ∙ omega (arith, length-append split.0 (d ∷ F), split.4) in
      let at = ended_at d F end ts (λ k. inner (omega (arith, k, count))) (λ k. last (omega (arith, k, count))) in
      let same = same_middle cut.0 (map part_condition_text split.0) here (part_condition_text d ++ end) cut.1 at.0 (omega (arith, cut.4, split.4, length-map split.0 part_condition_text)) (sym cut.2 ∙ parts ∙ ap (λ ts. map part_condition_text split.0 ++ ts) at.1) in
      let all = all_split (IsWithin room) split.0 (d ∷ F) (subst (AllByRecursion (IsWithin room)) split.2 within.0) in
      let others = all_split IsNoAnd split.0 (d ∷ F) (subst (AllByRecursion IsNoAnd) split.2 within.1) in
      let behind = behind_at [] split.0 d F (subst (AreBehind []) split.2 within.2) in
      (d, (same.1, all.1.0, others.1.0, subst (λ t. IsBefore t (part_condition_text d)) (sym (so_far.5 ∙ last_same [] had split.0 (sym before_is ∙ same.0))) behind))

  -- so does one that is too deep, unless this part is
  deep_here : IsOneTooDeep room ts → IsTooDeep room here ⊎ ((d : Condition) × Continues room here end old.last.now d)
  deep_here (D, t, more, e, within, too) = elim (cases_lt (length D) place) [
    | inl k ↦ absurd (earlier k)
    | inr k ↦ elim (cases_lt place (length D)) [
      | inl m ↦ inr (later m)
      | inr m ↦ inl (subst (IsTooDeep room) (same_middle (map part_condition_text D) cut.0 t here more cut.1 (omega (arith, k, m, cut.4, length-map D part_condition_text)) (sym e ∙ cut.2)).1 too)
    ]
  ] where
    earlier : length D < place → ⊥
    earlier k =
        let split = at_place had (length D) any (omega (arith, k, so_far.2)) in
        let c = get_or had (length D) any in
        let rest = map part_condition_text split.1 ++ (here ∷ cut.1) in
        let parts : ts ≡ map part_condition_text split.0 ++ (part_condition_text c ∷ rest) = whole ∙ ap (λ C. map part_condition_text C ++ (here ∷ cut.1)) split.2 ∙ ap (λ ts. ts ++ (here ∷ cut.1)) (map-append part_condition_text split.0 (c ∷ split.1)) ∙ append_assoc (map part_condition_text split.0) (part_condition_text c ∷ map part_condition_text split.1) (here ∷ cut.1) in
        let same = same_middle (map part_condition_text split.0) (map part_condition_text D) (part_condition_text c) t rest more (omega (arith, split.4, length-map split.0 part_condition_text, length-map D part_condition_text)) (sym parts ∙ e) in
        let all = all_split (IsWithin room) split.0 (c ∷ split.1) (subst (AllByRecursion (IsWithin room)) split.2 so_far.1.0) in
        not_both_fronts room t c [] (sym same.1 ∙ sym (append-nil (part_condition_text c)), all.1.0) too

    later : place < length D → (d : Condition) × Continues room here end old.last.now d
    later k =
        let split = at_place D place any k in
        let d = get_or D place any in
        let F = split.1 in
        let rest = map part_condition_text F ++ (t ∷ more) in
        let parts : ts ≡ map part_condition_text split.0 ++ (part_condition_text d ∷ rest) = e ∙ ap (λ D. map part_condition_text D ++ (t ∷ more)) split.2 ∙ ap (λ ts. ts ++ (t ∷ more)) (map-append part_condition_text split.0 (d ∷ F)) ∙ append_assoc (map part_condition_text split.0) (part_condition_text d ∷ map part_condition_text F) (t ∷ more) in
        let same = same_middle cut.0 (map part_condition_text split.0) here (part_condition_text d) cut.1 rest (omega (arith, cut.4, split.4, length-map split.0 part_condition_text)) (sym cut.2 ∙ parts) in
        let none : end ≡ [] = inner (omega (arith, k, ap length e, length-append (map part_condition_text D) (t ∷ more), length-map D part_condition_text)) in
        let all = all_split (IsWithin room) split.0 (d ∷ F) (subst (AllByRecursion (IsWithin room)) split.2 within.0) in
        let others = all_split IsNoAnd split.0 (d ∷ F) (subst (AllByRecursion IsNoAnd) split.2 within.1) in
        let behind = behind_at [] split.0 d F (subst (AreBehind []) split.2 within.2) in
        (d, (same.1 ∙ sym (ap (λ e. part_condition_text d ++ e) none ∙ append-nil (part_condition_text d)), all.1.0, others.1.0, subst (λ t. IsBefore t (part_condition_text d)) (sym (so_far.5 ∙ last_same [] had split.0 (sym before_is ∙ same.0))) behind))

  pub part_unread : {V : Type 0} (view : V → List Condition) (fault : Fault PartReason) → AddsConjunct room here end old new (Err fault) → ReadsList (SpellEachAny room) (IsOneTooDeep room) ts view (Err fault)
  part_unread view Memory h = tt
  part_unread view (Refused OverLimit) h = (had, here, cut.1, whole, so_far.1, h)
  part_unread view (Refused OtherForm) h = (
    (λ D spelled. let it = spelled_here D spelled in h.0 it.0 it.1),
    (λ deep. elim (deep_here deep) [
      | inl too ↦ h.1 too
      | inr it ↦ h.0 it.0 it.1
    ]),
  )

-- ---- conjuncts with their numbers in their ranges

readable : (c : Condition) (room : ℕ) → IsWithin room c → IsShortCondition c → IsReadable room c
readable c room h s = (h.0, each (terms_of c) h.1 s) where
  each : (ts : List Term) → AllByRecursion HasText ts → AllByRecursion IsShortTerm ts → AllByRecursion IsReadableTerm ts
  each [] h s = tt
  each (t ∷ ts) h s = (readable_term t s.0 h.0, each ts h.1 s.1)

algebras : (room : ℕ) (c : Condition) → IsWithin room c → IsShortCondition c → part_condition_text c ≡ condition_text c
algebras room c h s = (conditions_same room c (readable c room h s)).0

texts_rise : (room : ℕ) (last : Text) (C : List Condition) → AllByRecursion (IsWithin room) C → AreShortConditions C → AreBehind last C → TextsRise C
unfolding goes_before
texts_rise room last [] h s behind k d l = absurd (omega (arith, l))
texts_rise room last (c ∷ []) h s behind k d l = absurd (omega (arith, l))
texts_rise room last (c ∷ e ∷ C) h s behind zero d l = subst (λ t. IsBefore t (condition_text e)) (algebras room c h.0 s.0) (subst (IsBefore (part_condition_text c)) (algebras room e h.1.0 s.1.0) behind.1.0)
texts_rise room last (c ∷ e ∷ C) h s behind (suc k) d l =
    let next : suc (k + 1) ≡ suc k + 1 = omega arith in
    subst (λ n. goes_before (get_or (e ∷ C) k d) (get_or (c ∷ e ∷ C) n d) ≡ true) next (texts_rise room (part_condition_text c) (e ∷ C) h.1 s.1 behind.1 k d (omega (arith, l)))

pub within_rising : (room : ℕ) (C : List Condition) → AreConjunctsWithin room C → AreShortConditions C → AllByRecursion (IsReadable room) C × AreRising C
within_rising room C h s = (each C h.0 s, (others C h.1, texts_rise room [] C h.0 s h.2)) where
  each : (C : List Condition) → AllByRecursion (IsWithin room) C → AreShortConditions C → AllByRecursion (IsReadable room) C
  each [] h s = tt
  each (c ∷ C) h s = (readable c room h.0 s.0, each C h.1 s.1)

  others : (C : List Condition) → AllByRecursion IsNoAnd C → AllByRecursion IsPart C
  others [] h = tt
  others (c ∷ C) h = (one-part c h.0, others C h.1)

before_any : (w : Text) → 0 < length w → IsBefore [] w
before_any [] l = absurd (omega arith)
before_any (b ∷ w) l = refl

pub text_long : (room : ℕ) (c : Condition) → IsWithin room c → 0 < length (part_condition_text c)
text_long room c h =
    let room_is = some_room room c h.0 in
    let opens = opened HasText room (room - 1) c [] (omega (arith, room_is)) h in
    omega (arith, ap length opens.2, length-append (part_condition_text c) [], length-append (form_text opens.0) (40 ∷ opens.1))

rises_behind : (room : ℕ) (last : Text) (C : List Condition) → AllByRecursion (IsReadable room) C → TextsRise C → ((c : Condition) (D : List Condition) → C ≡ c ∷ D → IsBefore last (part_condition_text c)) → AreBehind last C
unfolding goes_before
rises_behind room last [] h rise first = tt
rises_behind room last (c ∷ []) h rise first = (first c [] refl, tt)
rises_behind room last (c ∷ d ∷ C) h rise first = (
  first c (d ∷ C) refl,
  rises_behind room (part_condition_text c) (d ∷ C) h.1 (rising-tail c (d ∷ C) rise)
      (λ e D is.
      let one : d ≡ e = ap (λ C. get_or C 0 d) is in
      subst (λ e. IsBefore (part_condition_text c) (part_condition_text e)) one
      (subst (λ t. IsBefore t (part_condition_text d)) (sym (conditions_same room c h.0).0) (subst (IsBefore (condition_text c)) (sym (conditions_same room d h.1.0).0) (rise 0 c (omega arith))))),
)

pub rising_within : (room : ℕ) (C : List Condition) → AllByRecursion (IsReadable room) C → AreRising C → AreConjunctsWithin room C × AreShortConditions C
rising_within room C h rise = ((each C h, others C rise.0, rises_behind room [] C h rise.1 (λ c D is. before_any (part_condition_text c) (text_long room c (conditions_same room c (subst (AllByRecursion (IsReadable room)) is h).0).1))), shorts C h) where
  each : (C : List Condition) → AllByRecursion (IsReadable room) C → AllByRecursion (IsWithin room) C
  each [] h = tt
  each (c ∷ C) h = ((conditions_same room c h.0).1, each C h.1)

  shorts : (C : List Condition) → AllByRecursion (IsReadable room) C → AreShortConditions C
  shorts [] h = tt
  shorts (c ∷ C) h = ((conditions_same room c h.0).2, shorts C h.1)

  others : (C : List Condition) → AllByRecursion IsPart C → AllByRecursion IsNoAnd C
  others [] h = tt
  others (c ∷ C) h = ((λ a b cs is. and-is-no-part a b cs (subst IsPart is h.0)), others C h.1)

-- ---- all conditions are read

pub all_read : (room : ℕ) (parts : List Text) (place : ℕ) (read : Rising) (r : Result (Option (List Condition)) (Fault PartReason)) → length parts ≤ place → SoFar room parts place read.conditions read.last.now read.in_range
    → (AreRising read.conditions → read.in_range ≡ true → Gives (option_map (λ (c : List Condition). c)) r (Ok (Some read.conditions))) → (read.in_range ≡ false → r ≡ Ok None) → ReadsList (SpellEachAny room) (IsOneTooDeep room) parts (λ c. c) r
all_read room parts place read r end (C, within, count, inside, ends, last, noted) whole past = elim noted [
  | inl h ↦
      let rising = subst AreRising (sym h.1) (within_rising room C within h.0).1 in
      given r (whole rising h.2) h.1 h.0
  | inr h ↦ subst (ReadsList (SpellEachAny room) (IsOneTooDeep room) parts (λ c. c)) (sym (past h.1)) (C, (ends end, within), h.0)
] where
  given : (r : Result (Option (List Condition)) (Fault PartReason)) → Gives (option_map (λ (c : List Condition). c)) r (Ok (Some read.conditions)) → read.conditions ≡ C → AreShortConditions C → ReadsList (SpellEachAny room) (IsOneTooDeep room) parts (λ c. c) r
  given (Ok (Some v)) gives same short =
      let is : v ≡ C = sym (same_some (Some read.conditions) read.conditions v refl (same_ok {E = PartReason} (Ok (Some read.conditions)) (Some read.conditions) (Some v) refl gives)) ∙ same in
      subst (λ v. SpellEachAny room parts v × AreShortConditions v) (sym is) ((ends end, within), short)
  given (Ok None) gives same short = absurd (not_none (Some read.conditions) read.conditions (same_ok {E = PartReason} (Ok (Some read.conditions)) (Some read.conditions) None refl gives) refl)
  given (Err Memory) gives same short = tt
  given (Err (Refused reason)) gives same short = absurd (not_both {E = PartReason} (Ok (Some read.conditions)) reason (Some read.conditions) gives refl)

-- ---- the list

-- a list is read as its parts are, but for the one without conditions
pub list_read : {V : Type 0} (room : ℕ) (list inside : Text) (ts : List Text) (view : V → List Condition) (r : Result (Option V) (Fault PartReason)) → (list ≡ codes "[]" → ⊥) → list ≡ 91 ∷ inside → ts ≡ slice_split (λ b. b == 59) inside
    → ReadsList (SpellEachAny room) (IsOneTooDeep room) ts view r → ReadsConjuncts room list view r
list_read {V} room list inside ts view r none bracket e = by r where
  text_of : (C : List Condition) → SpellEachAny room ts C → SpellsAnyConjuncts room list C
  text_of C s = (bracket ∙ list_joined inside C (sym e ∙ s.0), s.1)

  parts_of : (C : List Condition) → SpellsAnyConjuncts room list C → SpellEachAny room ts C
  parts_of [] s = absurd (none s.0)
  parts_of (c ∷ C) s = (e ∙ ap (slice_split (λ b. b == 59)) (ap (drop 1) (sym bracket ∙ s.0)) ∙ list_cut room c C s.1.0, s.1)

  deep_list : IsOneTooDeep room ts → IsListTooDeep room list
  deep_list (C, t, more, is, within, too) = (C, join_with_byte 59 (t ∷ more), bracket ∙ ap (λ t. 91 ∷ t) (separate_joined inside C t more (sym e ∙ is)), none, within, deep_joined room t more too)

  deep_part : IsListTooDeep room list → IsOneTooDeep room ts
  deep_part (C, rest, is, some, within, too) =
      let first = first_part rest in
      (C, first.0, first.1, e ∙ ap (slice_split (λ b. b == 59)) (ap (drop 1) (sym bracket ∙ is)) ∙ separate_cut room C rest within.0 ∙ ap (λ ts. map part_condition_text C ++ ts) first.2, within, deep_first room rest first.0 first.1 first.2 too)

  by : (r : Result (Option V) (Fault PartReason)) → ReadsList (SpellEachAny room) (IsOneTooDeep room) ts view r → ReadsConjuncts room list view r
  by (Ok (Some v)) h = (text_of (view v) h.0, h.1)
  by (Ok None) h = (h.0, text_of h.0 h.1, h.2)
  by (Err Memory) h = tt
  by (Err (Refused OtherForm)) h = ((λ C s. h.0 C (parts_of C s)), (λ deep. h.1 (deep_part deep)))
  by (Err (Refused OverLimit)) h = deep_list h

pub none_read : (room : ℕ) (list : Text) (v : List Condition) → list ≡ codes "[]" → v ≡ [] → SpellsAnyConjuncts room list v × AreShortConditions v
none_read room list v e none = subst (λ v. SpellsAnyConjuncts room list v × AreShortConditions v) (sym none) ((e, (tt, tt, tt)), tt)

-- a list begins with its bracket
pub unopened : (room : ℕ) (list : Text) → ((rest : Text) → list ≡ 91 ∷ rest → ⊥) → ((C : List Condition) → SpellsAnyConjuncts room list C → ⊥) × (IsListTooDeep room list → ⊥)
unopened room list none = ((λ C s. none (join_by part_condition_text (codes ";") C ++ codes "]") s.0), (λ deep. none (separate_text deep.0 ++ deep.1) deep.2))

-- ---- at a place of a slice of parts

pub at_part : (parts : List (Bor Text)) (place : ℕ) (d : Bor Text) → place < length parts → (end : Text) → (place + 1 < length parts → end ≡ []) → (length parts ≤ place + 1 → end ≡ codes "]")
    → (place < length (texts parts)) × (place + 1 < length (texts parts) → end ≡ []) × (length (texts parts) ≤ place + 1 → end ≡ codes "]") × ((get_or parts place d).now ≡ get_or (texts parts) place [])
at_part parts place d l end inner last = (omega (arith, l, texts_length parts), (λ k. inner (omega (arith, k, texts_length parts))), (λ k. last (omega (arith, k, texts_length parts))), sym (get_or-map (λ (part : Bor Text). part.now) parts place d [] l))

pub all_behind : (parts : List (Bor Text)) (place : ℕ) → length parts ≤ place → length (texts parts) ≤ place
all_behind parts place l = omega (arith, l, texts_length parts)

-- ---- a list that can be read, as algebra spells it

told_each : (room : ℕ) (C D : List Condition) → AllByRecursion (IsWithin room) C → AllByRecursion (IsWithin room) D → part_ended C ≡ part_ended D → C ≡ D
told_each room [] [] h k e = refl
told_each room [] (d ∷ D) h k e = absurd (omega (arith, ap length e, ended_length (d ∷ D)))
told_each room (c ∷ C) [] h k e = absurd (omega (arith, ap length e, ended_length (c ∷ C)))
told_each room (c ∷ []) (d ∷ []) h k e = ap (λ c. c ∷ []) (same_to room c d (codes "]") (codes "]") h.0 k.0 (ap (λ ts. get_or ts 0 []) e)).0
told_each room (c ∷ []) (d ∷ f ∷ D) h k e = absurd (omega (arith, ap length e, ended_length (f ∷ D)))
told_each room (c ∷ b ∷ C) (d ∷ []) h k e = absurd (omega (arith, ap length e, ended_length (b ∷ C)))
told_each room (c ∷ b ∷ C) (d ∷ f ∷ D) h k e =
    let first = (same_to room c d [] [] h.0 k.0 (ap (λ ts. get_or ts 0 [] ++ []) e)).0 in
    let more = told_each room (b ∷ C) (f ∷ D) h.1 k.1 (ap (drop 1) e) in
    λ i. first i ∷ more i

bracket_alone : (room : ℕ) (c : Condition) (C : List Condition) → IsWithin room c → part_conjuncts_text (c ∷ C) ≡ codes "[]" → ⊥
bracket_alone room c [] h e = omega (arith, text_long room c h, ap length e, length-append (part_condition_text c ++ []) (codes "]"), length-append (part_condition_text c) [])
bracket_alone room c (d ∷ C) h e =
    omega (arith, text_long room c h, ap length e, length-append (part_condition_text c ++ (59 ∷ join_by part_condition_text (codes ";") (d ∷ C))) (codes "]"), length-append (part_condition_text c) (59 ∷ join_by part_condition_text (codes ";") (d ∷ C)))

-- a text spells one list
pub conjuncts_told : (room : ℕ) (t : Text) (C D : List Condition) → SpellsAnyConjuncts room t C → SpellsAnyConjuncts room t D → C ≡ D
conjuncts_told room t [] [] s r = refl
conjuncts_told room t [] (d ∷ D) s r = absurd (bracket_alone room d D r.1.0.0 (sym r.0 ∙ s.0))
conjuncts_told room t (c ∷ C) [] s r = absurd (bracket_alone room c C s.1.0.0 (sym s.0 ∙ r.0))
conjuncts_told room t (c ∷ C) (d ∷ D) s r =
    told_each room (c ∷ C) (d ∷ D) s.1.0 r.1.0 (sym (list_cut room c C s.1.0) ∙ ap (λ t. slice_split (λ b. b == 59) (drop 1 t)) (sym s.0 ∙ r.0) ∙ list_cut room d D r.1.0)

joined_algebras : (room : ℕ) (C : List Condition) → AllByRecursion (IsReadable room) C → join_by part_condition_text (codes ";") C ≡ join_by condition_text (codes ";") C
joined_algebras room [] h = refl
joined_algebras room (c ∷ []) h = ap (λ t. t ++ []) (conditions_same room c h.0).0
joined_algebras room (c ∷ d ∷ C) h = let first = (conditions_same room c h.0).0 in let more = joined_algebras room (d ∷ C) h.1 in λ i. first i ++ (59 ∷ more i)

-- within the ranges it is the text that certificates have
pub conjuncts_algebras : (room : ℕ) (C : List Condition) → AllByRecursion (IsReadable room) C → part_conjuncts_text C ≡ codes "[" ++ (join_by condition_text (codes ";") C ++ codes "]")
conjuncts_algebras room C h = ap (λ t. codes "[" ++ (t ++ codes "]")) (joined_algebras room C h)

-- none of the texts of parts is too deep
deep_ended : (room : ℕ) (C D : List Condition) (u : Text) (more : List Text) → AllByRecursion (IsWithin room) C → IsTooDeep room u → part_ended C ≡ map part_condition_text D ++ (u ∷ more) → ⊥
deep_ended room [] D u more h too e = omega (arith, ap length e, length-append (map part_condition_text D) (u ∷ more))
deep_ended room (c ∷ []) [] u more h too e = not_both_fronts room u c (codes "]") (ap (λ ts. get_or ts 0 []) (sym e), h.0) too
deep_ended room (c ∷ b ∷ C) [] u more h too e = not_both_fronts room u c [] (ap (λ ts. get_or ts 0 []) (sym e) ∙ sym (append-nil (part_condition_text c)), h.0) too
deep_ended room (c ∷ []) (d ∷ D) u more h too e = omega (arith, ap length e, length-append (map part_condition_text D) (u ∷ more))
deep_ended room (c ∷ b ∷ C) (d ∷ D) u more h too e = deep_ended room (b ∷ C) D u more h.1 too (ap (drop 1) e)

-- a list that is spelled isn't too deep
pub list_shallow : (room : ℕ) (t : Text) (C : List Condition) → SpellsAnyConjuncts room t C → IsListTooDeep room t → ⊥
list_shallow room t [] s deep = deep.3 s.0
list_shallow room t (c ∷ C) s (D, rest, is, some, within, too) = deep_ended room (c ∷ C) D first.0 first.1 s.1.0 (deep_first room rest first.0 first.1 first.2 too) parts where
  first : (u : Text) × (more : List Text) × (slice_split (λ b. b == 59) rest ≡ u ∷ more)
  first = first_part rest

  parts : part_ended (c ∷ C) ≡ map part_condition_text D ++ (first.0 ∷ first.1)
  parts = sym (list_cut room c C s.1.0) ∙ ap (λ t. slice_split (λ b. b == 59) (drop 1 t)) (sym s.0 ∙ is) ∙ separate_cut room D rest within.0 ∙ ap (λ ts. map part_condition_text D ++ ts) first.2
