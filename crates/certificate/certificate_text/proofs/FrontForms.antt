-- A condition is read as what stands behind its form.
use Rattle.std.proofs.Common.{◌≡◌, ℕ, suc, ◌+◌, ◌-◌, nat_lt, Bool, true, ◌&&◌, inl, inr, ◌⊎◌, List, [], ◌∷◌, ◌++◌, map, flat_map, Result, Ok, Err, refl, sym, ◌∙◌, ap, subst, arith}
use Rattle.std.proofs.lemmas.Bool.Decides.{nat_tests}
use Rattle.std.specs.List.{list_all, AllByRecursion}
use Rattle.values.proofs.Lists.{all_append}
use Rattle.values.specs.declared.fault.Fault.{Fault}
use Rattle.values.specs.declared.fault.Fault.TheVariants.{Memory, Refused}
use Rattle.algebra.specs.declared.condition.Condition.{Condition}
use Rattle.algebra.specs.declared.condition.Condition.TheVariants.{Compare, IsNull, Not, And, Or, Exists, In, rolls-Compare, rolls-IsNull, rolls-Not, rolls-And, rolls-Or, rolls-Exists, rolls-In}
use Rattle.algebra.specs.declared.condition.Condition.TheOpen.{Condition-F}
use Rattle.algebra.specs.declared.condition.Term.{Term}
use Rattle.certificate_text.specs.declared.part_fault.PartReason.{PartReason}
use Rattle.certificate_text.specs.declared.part_fault.PartReason.TheVariants.{OtherForm, OverLimit}
use Rattle.certificate_text.specs.declared.conditions.Cursor.{Cursor}
use Rattle.certificate_text.specs.declared.conditions.Form.{Form}
use Rattle.certificate_text.specs.declared.conditions.Form.TheVariants as form
use Rattle.certificate_text.specs.Conditions.{form_text, terms_of, nests_within}
use Rattle.certificate_text.specs.ConditionReading.{part_condition_text, IsWithin, IsShortCondition, BeginsWith, BeginsForm, BehindParts, IsTooDeep, IsAny, IsNever, Passes, PassesCondition}
use Rattle.certificate_text.specs.Parts.{IsShort, Noted}
use Rattle.certificate_text.specs.PartTexts.{Text}
use Rattle.certificate_text.specs.Spelled.{HasText, IsShortTerm}
use Rattle.certificate_text.proofs.FrontConditions.{Body, all_split, opened, nests-at, terms-at, compare-text, null-text, not-text, and-text, or-text, exists-text, in-text}
use Rattle.certificate_text.proofs.Passing.{fails_behind}
use Rattle.certificate_text.proofs.SameFronts.{cut, form_front, name_lacks, same_form}

-- ---- the terms of each form

not-terms : (d : Condition) → terms_of (Not d) ≡ terms_of d
not-terms d = terms-at (Condition-F.Not d) (Not d) (rolls-Not d)

abbrev joined_terms : Condition → Condition → List Condition → List Term
joined_terms a b cs = terms_of a ++ (terms_of b ++ flat_map (λ c. c) (map terms_of cs))

and-terms : (a b : Condition) (cs : List Condition) → terms_of (And a b cs) ≡ joined_terms a b cs
and-terms a b cs = terms-at (Condition-F.And a b cs) (And a b cs) (rolls-And a b cs)

or-terms : (a b : Condition) (cs : List Condition) → terms_of (Or a b cs) ≡ joined_terms a b cs
or-terms a b cs = terms-at (Condition-F.Or a b cs) (Or a b cs) (rolls-Or a b cs)

module _ (Is : Term → Type 0) where
  abbrev Are : Condition → Type 0
  Are c = AllByRecursion Is (terms_of c)

  each_terms : (cs : List Condition) → AllByRecursion Is (flat_map (λ c. c) (map terms_of cs)) → AllByRecursion (λ c. AllByRecursion Is (terms_of c)) cs
  each_terms [] h = tt
  each_terms (c ∷ cs) h = let parts = all_split Is (terms_of c) (flat_map (λ c. c) (map terms_of cs)) h in (parts.0, each_terms cs parts.1)

  all_terms : (cs : List Condition) → AllByRecursion (λ c. AllByRecursion Is (terms_of c)) cs → AllByRecursion Is (flat_map (λ c. c) (map terms_of cs))
  all_terms [] h = tt
  all_terms (c ∷ cs) h = all_append Is (terms_of c) (flat_map (λ c. c) (map terms_of cs)) h.0 (all_terms cs h.1)

  pub of_joined : (a b : Condition) (cs : List Condition) → AllByRecursion Is (joined_terms a b cs) → AllByRecursion Is (terms_of a) × AllByRecursion Is (terms_of b) × AllByRecursion (λ c. AllByRecursion Is (terms_of c)) cs
  of_joined a b cs h =
      let first = all_split Is (terms_of a) (terms_of b ++ flat_map (λ c. c) (map terms_of cs)) h in
      let second = all_split Is (terms_of b) (flat_map (λ c. c) (map terms_of cs)) first.1 in
      (first.0, second.0, each_terms cs second.1)

  pub joined_of : (a b : Condition) (cs : List Condition) → AllByRecursion Is (terms_of a) → AllByRecursion Is (terms_of b) → AllByRecursion (λ c. AllByRecursion Is (terms_of c)) cs → AllByRecursion Is (joined_terms a b cs)
  joined_of a b cs h k m = all_append Is (terms_of a) (terms_of b ++ flat_map (λ c. c) (map terms_of cs)) h (all_append Is (terms_of b) (flat_map (λ c. c) (map terms_of cs)) k (all_terms cs m))

-- ---- a condition of what stands behind the form

each_within : (room : ℕ) (cs : List Condition) → AllByRecursion (IsWithin room) cs → (list_all (λ c. c room) (map nests_within cs) ≡ true) × AllByRecursion (λ c. AllByRecursion HasText (terms_of c)) cs
each_within room [] h = (refl, tt)
each_within room (c ∷ cs) h = let more = each_within room cs h.1 in ((λ i. h.0.0 i && more.0 i), (h.0.1, more.1))

some_left : (room : ℕ) → nat_lt 0 (suc room) ≡ true
some_left room = grind (arith, nat_tests)

one_less : (room : ℕ) (p : ℕ → Bool) → p room ≡ true → (nat_lt 0 (suc room) && p (suc room - 1)) ≡ true
one_less room p h = let e : suc room - 1 ≡ room = omega arith in λ i. some_left room i && (ap p e ∙ h) i

closed : (room : ℕ) (f : Form) (w : Text) (c : Condition) (rest : Text) → Body HasText room f w c rest → BeginsWith (suc room) (form_text f ++ (40 ∷ w)) c rest
closed room form.Not w c rest b =
    let d = b.0 in (
      ap (λ w. form_text form.Not ++ (40 ∷ w)) b.3 ∙ sym (not-text rest d) ∙ ap (λ c. part_condition_text c ++ rest) (sym b.2),
      (
        ap (λ c. nests_within c (suc room)) b.2 ∙ nests-at (Condition-F.Not d) (Not d) (suc room) (rolls-Not d) ∙ one_less room (nests_within d) b.1.0,
        subst (AllByRecursion HasText) (sym (ap terms_of b.2 ∙ not-terms d)) b.1.1,
      ),
    )
closed room form.And w c rest b =
    let nests = each_within room (b.0 ∷ b.1 ∷ b.2) (b.3, (b.4, b.5)) in (
      ap (λ w. form_text form.And ++ (40 ∷ w)) b.7 ∙ sym (and-text rest b.0 b.1 b.2) ∙ ap (λ c. part_condition_text c ++ rest) (sym b.6),
      (
        ap (λ c. nests_within c (suc room)) b.6 ∙ nests-at (Condition-F.And b.0 b.1 b.2) (And b.0 b.1 b.2) (suc room) (rolls-And b.0 b.1 b.2) ∙ one_less room (λ n. list_all (λ c. c n) (map nests_within (b.0 ∷ b.1 ∷ b.2))) nests.0,
        subst (AllByRecursion HasText) (sym (ap terms_of b.6 ∙ and-terms b.0 b.1 b.2)) (joined_of HasText b.0 b.1 b.2 b.3.1 b.4.1 nests.1.1.1),
      ),
    )
closed room form.Or w c rest b =
    let nests = each_within room (b.0 ∷ b.1 ∷ b.2) (b.3, (b.4, b.5)) in (
      ap (λ w. form_text form.Or ++ (40 ∷ w)) b.7 ∙ sym (or-text rest b.0 b.1 b.2) ∙ ap (λ c. part_condition_text c ++ rest) (sym b.6),
      (
        ap (λ c. nests_within c (suc room)) b.6 ∙ nests-at (Condition-F.Or b.0 b.1 b.2) (Or b.0 b.1 b.2) (suc room) (rolls-Or b.0 b.1 b.2) ∙ one_less room (λ n. list_all (λ c. c n) (map nests_within (b.0 ∷ b.1 ∷ b.2))) nests.0,
        subst (AllByRecursion HasText) (sym (ap terms_of b.6 ∙ or-terms b.0 b.1 b.2)) (joined_of HasText b.0 b.1 b.2 b.3.1 b.4.1 nests.1.1.1),
      ),
    )
closed room form.IsNull w c rest b = (
  ap (λ w. form_text form.IsNull ++ (40 ∷ w)) b.3 ∙ sym (null-text rest b.0) ∙ ap (λ c. part_condition_text c ++ rest) (sym b.2),
  (
    ap (λ c. nests_within c (suc room)) b.2 ∙ nests-at (Condition-F.IsNull b.0) (IsNull b.0) (suc room) (rolls-IsNull b.0) ∙ some_left room,
    subst (AllByRecursion HasText) (sym (ap terms_of b.2 ∙ terms-at (Condition-F.IsNull b.0) (IsNull b.0) (rolls-IsNull b.0))) (b.1, tt),
  ),
)
closed room form.Exists w c rest b = (
  ap (λ w. form_text form.Exists ++ (40 ∷ w)) b.3 ∙ sym (exists-text rest b.0) ∙ ap (λ c. part_condition_text c ++ rest) (sym b.2),
  (
    ap (λ c. nests_within c (suc room)) b.2 ∙ nests-at (Condition-F.Exists b.0) (Exists b.0) (suc room) (rolls-Exists b.0) ∙ some_left room,
    subst (AllByRecursion HasText) (sym (ap terms_of b.2 ∙ terms-at (Condition-F.Exists b.0) (Exists b.0) (rolls-Exists b.0))) (tt, tt),
  ),
)
closed room form.In w c rest b = (
  ap (λ w. form_text form.In ++ (40 ∷ w)) b.7 ∙ sym (in-text rest b.0 b.1 b.2) ∙ ap (λ c. part_condition_text c ++ rest) (sym b.6),
  (
    ap (λ c. nests_within c (suc room)) b.6 ∙ nests-at (Condition-F.In b.0 b.1 b.2) (In b.0 b.1 b.2) (suc room) (rolls-In b.0 b.1 b.2) ∙ some_left room,
    subst (AllByRecursion HasText) (sym (ap terms_of b.6 ∙ terms-at (Condition-F.In b.0 b.1 b.2) (In b.0 b.1 b.2) (rolls-In b.0 b.1 b.2))) (b.3, (tt, (tt, tt))),
  ),
)
closed room (form.Compare op) w c rest b = (
  ap (λ w. form_text (form.Compare op) ++ (40 ∷ w)) b.5 ∙ sym (compare-text rest op b.0 b.1) ∙ ap (λ c. part_condition_text c ++ rest) (sym b.4),
  (
    ap (λ c. nests_within c (suc room)) b.4 ∙ nests-at (Condition-F.Compare op b.0 b.1) (Compare op b.0 b.1) (suc room) (rolls-Compare op b.0 b.1) ∙ some_left room,
    subst (AllByRecursion HasText) (sym (ap terms_of b.4 ∙ terms-at (Condition-F.Compare op b.0 b.1) (Compare op b.0 b.1) (rolls-Compare op b.0 b.1))) (b.2, (b.3, tt)),
  ),
)

-- ---- numbers in their ranges

pub not_short : (d : Condition) → IsShortCondition d → IsShortCondition (Not d)
not_short d = subst (AllByRecursion IsShortTerm) (sym (not-terms d))

pub short_not : (d : Condition) → IsShortCondition (Not d) → IsShortCondition d
short_not d = subst (AllByRecursion IsShortTerm) (not-terms d)

abbrev pub AreShort3 : Condition × Condition × List Condition → Type 0
AreShort3 p = IsShortCondition p.0 × IsShortCondition p.1 × AllByRecursion IsShortCondition p.2

pub and_short : (p : Condition × Condition × List Condition) → AreShort3 p → IsShortCondition (And p.0 p.1 p.2)
and_short p s = subst (AllByRecursion IsShortTerm) (sym (and-terms p.0 p.1 p.2)) (joined_of IsShortTerm p.0 p.1 p.2 s.0 s.1 s.2)

pub short_and : (p : Condition × Condition × List Condition) → IsShortCondition (And p.0 p.1 p.2) → AreShort3 p
short_and p s = of_joined IsShortTerm p.0 p.1 p.2 (subst (AllByRecursion IsShortTerm) (and-terms p.0 p.1 p.2) s)

pub or_short : (p : Condition × Condition × List Condition) → AreShort3 p → IsShortCondition (Or p.0 p.1 p.2)
or_short p s = subst (AllByRecursion IsShortTerm) (sym (or-terms p.0 p.1 p.2)) (joined_of IsShortTerm p.0 p.1 p.2 s.0 s.1 s.2)

pub short_or : (p : Condition × Condition × List Condition) → IsShortCondition (Or p.0 p.1 p.2) → AreShort3 p
short_or p s = of_joined IsShortTerm p.0 p.1 p.2 (subst (AllByRecursion IsShortTerm) (or-terms p.0 p.1 p.2) s)

pub null_short : (a : Term) → IsShortTerm a → IsShortCondition (IsNull a)
null_short a s = subst (AllByRecursion IsShortTerm) (sym (terms-at (Condition-F.IsNull a) (IsNull a) (rolls-IsNull a))) (s, tt)

pub short_null : (a : Term) → IsShortCondition (IsNull a) → IsShortTerm a
short_null a s = (subst (AllByRecursion IsShortTerm) (terms-at (Condition-F.IsNull a) (IsNull a) (rolls-IsNull a)) s).0

pub exists_short : (g : ℕ) → IsShort g → IsShortCondition (Exists g)
exists_short g s = subst (AllByRecursion IsShortTerm) (sym (terms-at (Condition-F.Exists g) (Exists g) (rolls-Exists g))) (s, tt)

pub short_exists : (g : ℕ) → IsShortCondition (Exists g) → IsShort g
short_exists g s = (subst (AllByRecursion IsShortTerm) (terms-at (Condition-F.Exists g) (Exists g) (rolls-Exists g)) s).0

pub in_short : (x : Term × ℕ × ℕ) → IsShortTerm x.0 × IsShort x.1 × IsShort x.2 → IsShortCondition (In x.0 x.1 x.2)
in_short x s = subst (AllByRecursion IsShortTerm) (sym (terms-at (Condition-F.In x.0 x.1 x.2) (In x.0 x.1 x.2) (rolls-In x.0 x.1 x.2))) (s.0, (s.1, (s.2, tt)))

pub short_in : (x : Term × ℕ × ℕ) → IsShortCondition (In x.0 x.1 x.2) → IsShortTerm x.0 × IsShort x.1 × IsShort x.2
short_in x s = let all = subst (AllByRecursion IsShortTerm) (terms-at (Condition-F.In x.0 x.1 x.2) (In x.0 x.1 x.2) (rolls-In x.0 x.1 x.2)) s in (all.0, all.1.0, all.1.1.0)

pub compare_short : (op : _) (x : Term × Term) → IsShortTerm x.0 × IsShortTerm x.1 → IsShortCondition (Compare op x.0 x.1)
compare_short op x s = subst (AllByRecursion IsShortTerm) (sym (terms-at (Condition-F.Compare op x.0 x.1) (Compare op x.0 x.1) (rolls-Compare op x.0 x.1))) (s.0, (s.1, tt))

pub short_compare : (op : _) (x : Term × Term) → IsShortCondition (Compare op x.0 x.1) → IsShortTerm x.0 × IsShortTerm x.1
short_compare op x s = let all = subst (AllByRecursion IsShortTerm) (terms-at (Condition-F.Compare op x.0 x.1) (Compare op x.0 x.1) (rolls-Compare op x.0 x.1)) s in (all.0, all.1.0)

-- ---- what is told of the text behind the form is told of the condition

abbrev pub IsBodyTooDeep : ℕ → Form → Text → Type 0
IsBodyTooDeep room form.Not w = IsTooDeep room w
IsBodyTooDeep room form.And w = BehindParts room (IsTooDeep room) w
IsBodyTooDeep room form.Or w = BehindParts room (IsTooDeep room) w
IsBodyTooDeep room form.IsNull w = ⊥
IsBodyTooDeep room form.Exists w = ⊥
IsBodyTooDeep room form.In w = ⊥
IsBodyTooDeep room (form.Compare op) w = ⊥

abbrev pub PassesBody : ℕ → Form → Cursor → Cursor → Result Condition (Fault PartReason) → Type 0
PassesBody room f = Passes (Body HasText room f) IsShortCondition (IsBodyTooDeep room f) (λ c. c)

module _ (room : ℕ) (t : Text) (f : Form) (w : Text) (e : t ≡ form_text f ++ (40 ∷ w)) where
  behind : (g : Form) (v : Text) → t ≡ form_text g ++ (40 ∷ v) → IsBodyTooDeep room g v → IsBodyTooDeep room f w
  behind g v is deep =
      let parts = cut 40 (form_text g) (form_text f) v w (name_lacks g) (name_lacks f) (sym is ∙ e) in
      subst (λ f. IsBodyTooDeep room f w) (same_form g f parts.0) (subst (IsBodyTooDeep room g) parts.1 deep)

  body_deep : IsTooDeep (suc room) t → IsBodyTooDeep room f w
  body_deep (inl deep) = behind form.Not deep.0 deep.1 deep.2
  body_deep (inr deep) = elim deep.1 [
    | inl is ↦ behind form.And deep.0 is deep.2
    | inr is ↦ behind form.Or deep.0 is deep.2
  ]

deep_body : (room : ℕ) (t : Text) (f : Form) (w : Text) → t ≡ form_text f ++ (40 ∷ w) → IsBodyTooDeep room f w → IsTooDeep (suc room) t
deep_body room t form.Not w e deep = inl (w, e, deep)
deep_body room t form.And w e deep = inr (w, inl e, deep)
deep_body room t form.Or w e deep = inr (w, inr e, deep)
deep_body room t form.IsNull w e deep = absurd deep
deep_body room t form.Exists w e deep = absurd deep
deep_body room t form.In w e deep = absurd deep
deep_body room t (form.Compare op) w e deep = absurd deep

passed : (room : ℕ) (f : Form) (old mid new : Cursor) (r : Result Condition (Fault PartReason)) → old.left.now ≡ form_text f ++ (40 ∷ mid.left.now) → mid.in_range ≡ old.in_range → PassesBody room f mid new r → PassesCondition (suc room) old new r
passed room f old mid new (Ok v) e same h =
    (h.0, subst (λ t. BeginsWith (suc room) t h.0 new.left.now) (sym e) (closed room f mid.left.now h.0 new.left.now h.1), subst (λ b. Noted (IsShortCondition h.0) (v ≡ h.0) b new.in_range) same h.2)
passed room f old mid new (Err Memory) e same h = tt
passed room f old mid new (Err (Refused OtherForm)) e same h =
    ((λ c rest begins. h.0 c rest (form_front room old.left.now c rest f mid.left.now begins e)), (λ deep. h.1 (body_deep room old.left.now f mid.left.now e deep)))
passed room f old mid new (Err (Refused OverLimit)) e same h = deep_body room old.left.now f mid.left.now e h

-- the form that was read
form_read : (f g : Form) (old mid : Cursor) → Passes BeginsForm IsAny IsNever (λ f. f) old mid (Ok f) → f ≡ g → (old.left.now ≡ form_text g ++ (40 ∷ mid.left.now)) × (mid.in_range ≡ old.in_range)
form_read f g old mid h is = elim h.2 [
  | inl it ↦ (h.1 ∙ ap (λ f. form_text f ++ (40 ∷ mid.left.now)) (sym it.1 ∙ is), it.2)
  | inr out ↦ absurd (out.0 tt)
]

pub read_behind : (big room : ℕ) (f g : Form) (old mid new : Cursor) (r : Result Condition (Fault PartReason)) → big ≡ room + 1 → Passes BeginsForm IsAny IsNever (λ f. f) old mid (Ok f) → f ≡ g → PassesBody room g mid new r → PassesCondition big old new r
read_behind big room f g old mid new r e h is body =
    let read = form_read f g old mid h is in
    let more : suc room ≡ big = omega (arith, e) in
    subst (λ n. PassesCondition n old new r) more (passed room g old mid new r read.0 read.1 body)

-- no form is read
pub unread_form : (big room : ℕ) (old mid end : Cursor) (fault : Fault PartReason) → big ≡ room + 1 → Passes BeginsForm IsAny IsNever (λ (f : Form). f) old mid (Err fault) → PassesCondition big old end (Err fault)
unread_form big room old mid end fault e h =
    let more : suc room ≡ big = omega (arith, e) in
    subst (λ n. PassesCondition n old end (Err fault)) more
    (fails_behind (BeginsWith (suc room)) IsShortCondition (IsTooDeep (suc room)) (λ (c : Condition). c) BeginsForm IsAny IsNever (λ (f : Form). f) old old mid end fault h
    (λ c rest begins. let opens = opened HasText (suc room) room c rest (omega arith) begins.1 in (opens.0, opens.1, begins.0 ∙ opens.2)) deep (λ never. absurd never)) where
      deep : IsTooDeep (suc room) old.left.now → IsNever old.left.now ⊎ ((f : Form) × (more : Text) × BeginsForm old.left.now f more)
      deep (inl it) = inr (form.Not, it.0, it.1)
      deep (inr it) = elim it.1 [
        | inl is ↦ inr (form.And, it.0, is)
        | inr is ↦ inr (form.Or, it.0, is)
      ]
