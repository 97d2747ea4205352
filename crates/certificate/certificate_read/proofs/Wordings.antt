-- Values that are spelled one behind the other, and calls that read them so.
use Rattle.std.proofs.Common.{◌≡◌, inl, inr, Bool, false, List, [], ◌∷◌, ◌++◌, append-nil, append_assoc, length, true, arith, get_or, drop, Result, Ok, Err, MatchResult, refl, sym, ◌∙◌, ap, subst}
use Rattle.std.proofs.lemmas.Bool.{false≢true}
use Rattle.std.proofs.lemmas.Result.{err_from_is_err_and}
use Rattle.std.specs.Result.{IsErrAnd}
use Rattle.certificate_text.specs.Parts.{Noted}
use Rattle.certificate_text.specs.CertificateText.{Text}
use Rattle.certificate_read.specs.declared.line_fault.LineFault.{LineFault}
use Rattle.certificate_read.specs.declared.line_fault.LineFault.TheVariants.{Memory, OtherForm, OutOfRange, OverLimit}
use Rattle.certificate_read.specs.declared.words.Words.{Words}
use Rattle.certificate_read.specs.Wordings.{Wording, ◌␣◌, deep, one, IsAny, IsNever, named, by_parts, left_words, Passes, Refuses, ReadsWords, ReadsLine, EndsLine}

-- ---- values that are told by their words

-- the words tell a value from each other one, whatever stands behind them, and from words over a limit
pub record AreTold {X : Type 0} (W : Wording X) : Type 0 where
  pub tells : (x y : X) (a b : List Text) → W.Is x → W.Is y → W.words x ++ a ≡ W.words y ++ b → (x ≡ y) × (a ≡ b)
  pub within : (x : X) (rest : List Text) → W.Is x → W.IsOver (W.words x ++ rest) → ⊥

nil≢cons : (w : Text) (ws : List Text) → [] ≡ w ∷ ws → ⊥
nil≢cons w ws e = absurd (omega (arith, ap length e))

head_same : (v w : Text) (a b : List Text) → v ∷ a ≡ w ∷ b → v ≡ w
head_same v w a b e = ap (λ ws. get_or ws 0 []) e

tail_same : (v w : Text) (a b : List Text) → v ∷ a ≡ w ∷ b → a ≡ b
tail_same v w a b e = ap (drop 1) e

module _ {X : Type 0} (text : X → Text) (Is InRange : X → Type 0) (IsOver : Text → Type 0)
    (told : (x y : X) → Is x → Is y → text x ≡ text y → x ≡ y) (within : (x : X) → Is x → IsOver (text x) → ⊥) where
  pub one_told : AreTold (one text Is InRange IsOver)
  one_told =
      record {
        tells = λ x y a b h k e. (told x y h k (head_same (text x) (text y) a b e), tail_same (text x) (text y) a b e);
        within = λ x rest h over. within x h (subst IsOver (sym (head_same (text x) over.0 rest over.1 over.2)) over.3);
      }

-- what stands behind the first value
both_cut : {X Y : Type 0} (F : Wording X) (G : Wording Y) → AreTold F → (x y : X) (v : Y) (a b : List Text) → F.Is x → F.Is y → (F.words x ++ G.words v) ++ a ≡ F.words y ++ b → (x ≡ y) × (G.words v ++ a ≡ b)
both_cut F G f x y v a b h k e = f.tells x y (G.words v ++ a) b h k (sym (append_assoc (F.words x) (G.words v) a) ∙ e)

pub both_told : {X Y : Type 0} {F : Wording X} {G : Wording Y} → AreTold F → AreTold G → AreTold (F ␣ G)
both_told {X} {Y} {F} {G} f g =
    record {
      tells = λ x y a b h k e.
          let first = both_cut F G f x.0 y.0 x.1 a (G.words y.1 ++ b) h.0 k.0 (e ∙ append_assoc (F.words y.0) (G.words y.1) b) in
          let second = g.tells x.1 y.1 a b h.1 k.1 first.1 in
          ((λ i. (first.0 i, second.0 i)), second.1);
      within = by;
    } where
      by : (x : X × Y) (rest : List Text) → F.Is x.0 × G.Is x.1 → (F ␣ G).IsOver ((F.words x.0 ++ G.words x.1) ++ rest) → ⊥
      by x rest h (inl over) = f.within x.0 (G.words x.1 ++ rest) h.0 (subst F.IsOver (append_assoc (F.words x.0) (G.words x.1) rest) over)
      by x rest h (inr over) = g.within x.1 rest h.1 (subst G.IsOver (sym (both_cut F G f x.0 over.0 x.1 rest over.1 h.0 over.2 over.3).1) over.4)

module _ {F : Type 0} {P : F → Type 0} (name : F → Text) (behind : (f : F) → Wording (P f)) (names : (f g : F) → name f ≡ name g → f ≡ g) (told : (f : F) → AreTold (behind f)) where
  same_behind : (f g : F) → f ≡ g → (p : P f) (q : P g) (a b : List Text) → (behind f).Is p → (behind g).Is q → (behind f).words p ++ a ≡ (behind g).words q ++ b → (◌≡◌ {A = (f : F) × P f} (f, p) (g, q)) × (a ≡ b)
  same_behind f g is = subst (λ g. (p : P f) (q : P g) (a b : List Text) → (behind f).Is p → (behind g).Is q → (behind f).words p ++ a ≡ (behind g).words q ++ b → (◌≡◌ {A = (f : F) × P f} (f, p) (g, q)) × (a ≡ b)) is
      (λ p q a b h k e. let same = (told f).tells p q a b h k e in ((λ i. (f, same.0 i)), same.1))

  over_behind : (f g : F) → g ≡ f → (p : P f) (rest : List Text) → (behind f).Is p → (behind g).IsOver ((behind f).words p ++ rest) → ⊥
  over_behind f g is p rest h over = (told f).within p rest h (subst (λ g. (behind g).IsOver ((behind f).words p ++ rest)) is over)

  pub named_told : AreTold (named name behind)
  named_told =
      record {
        tells = λ x y a b h k e.
            let is = names x.0 y.0 (head_same (name x.0) (name y.0) ((behind x.0).words x.1 ++ a) ((behind y.0).words y.1 ++ b) e) in
            same_behind x.0 y.0 is x.1 y.1 a b h k (tail_same (name x.0) (name y.0) ((behind x.0).words x.1 ++ a) ((behind y.0).words y.1 ++ b) e);
        within = λ x rest h over.
            let is = names x.0 over.0 (head_same (name x.0) (name over.0) ((behind x.0).words x.1 ++ rest) over.1 over.2) in
            over_behind x.0 over.0 (sym is) x.1 rest h (subst (behind over.0).IsOver (sym (tail_same (name x.0) (name over.0) ((behind x.0).words x.1 ++ rest) over.1 over.2)) over.3);
      }

pub parts_told : {X Y : Type 0} {W : Wording X} (parts : Y → X) (make : X → Y) → ((y : Y) → make (parts y) ≡ y) → AreTold W → AreTold (by_parts parts W)
parts_told parts make made told =
    record {
      tells = λ x y a b h k e. let same = told.tells (parts x) (parts y) a b h k e in (sym (made x) ∙ ap make same.0 ∙ made y, same.1);
      within = λ x rest h over. told.within (parts x) rest h over;
    }

-- ---- one call after the other

pub both_noted : (A a B b C : Type 0) (old mid new : Bool) → (a → b → C) → Noted A a old mid → Noted B b mid new → Noted (A × B) C old new
both_noted A a B b C old mid new make (inl h) (inl k) = inl ((h.0, k.0), make h.1 k.1, k.2 ∙ h.2)
both_noted A a B b C old mid new make (inl h) (inr k) = inr ((λ x. k.0 x.1), k.1)
both_noted A a B b C old mid new make (inr h) (inl k) = inr ((λ x. h.0 x.0), k.2 ∙ h.1)
both_noted A a B b C old mid new make (inr h) (inr k) = inr ((λ x. h.0 x.0), k.1)

noted_kept : (A b C : Type 0) (old mid new : Bool) → (b → C) → mid ≡ old → Noted A b mid new → Noted A C old new
noted_kept A b C old mid new make kept (inl h) = inl (h.0, make h.1, h.2 ∙ kept)
noted_kept A b C old mid new make kept (inr h) = inr h

pub passes_more : {X : Type 0} (W : Wording X) (IsFirst IsGiven : X → Type 0) (old new : Words) → ((x : X) → IsFirst x → IsGiven x) → Passes W IsFirst old new → Passes W IsGiven old new
passes_more W IsFirst IsGiven old new make h = (h.0, h.1, h.2, noted_kept (W.IsInRange h.0) (IsFirst h.0) (IsGiven h.0) old.in_range old.in_range new.in_range (make h.0) refl h.3)

pub passes_made : {V X : Type 0} (W : Wording X) (make : X → V) (x : X) (v : V) (old new : Words) → v ≡ make x → Passes W (λ y. x ≡ y) old new → Passes W (λ y. v ≡ make y) old new
passes_made W make x v old new is h = passes_more W (λ y. x ≡ y) (λ y. v ≡ make y) old new (λ y e. is ∙ ap make e) h

-- a fault that another call gave is handed on
pub handed_on : {V X : Type 0} (W : Wording X) (make : X → V) (old new : Words) (result : Result V LineFault) (fault : LineFault) → IsErrAnd result (λ given. given ≡ fault) → Refuses W (left_words old) fault → ReadsWords W make old new result
handed_on W make old new result fault e h =
    let x = err_from_is_err_and result e in
    subst (ReadsWords W make old new) (sym (x.1 ∙ ap (λ fault. Err fault) x.2)) h

module _ {X Y : Type 0} (parts : Y → X) (W : Wording X) where
  pub parts_passes : (make : X → Y) (IsParts : X → Type 0) (IsGiven : Y → Type 0) (old new : Words) → ((x : X) → parts (make x) ≡ x) → ((x : X) → IsParts x → IsGiven (make x)) → Passes W IsParts old new → Passes (by_parts parts W) IsGiven old new
  parts_passes make IsParts IsGiven old new back given h = (
    make h.0,
    h.1 ∙ ap (λ x. W.words x ++ left_words new) (sym (back h.0)),
    subst W.Is (sym (back h.0)) h.2,
    noted_kept (W.IsInRange (parts (make h.0))) (IsParts h.0) (IsGiven (make h.0)) old.in_range old.in_range new.in_range (given h.0) refl (subst (λ x. Noted (W.IsInRange x) (IsParts h.0) old.in_range new.in_range) (sym (back h.0)) h.3),
  )

  pub parts_refused : (ws : List Text) (fault : LineFault) → Refuses W ws fault → Refuses (by_parts parts W) ws fault
  parts_refused ws Memory h = tt
  parts_refused ws OtherForm h = ((λ y rest is e. h.0 (parts y) rest is e), h.1)
  parts_refused ws OverLimit h = h
  parts_refused ws OutOfRange h = absurd h

module _ {X Y : Type 0} (F : Wording X) (G : Wording Y) where
  pub passes_both : (IsFirst : X → Type 0) (IsSecond : Y → Type 0) (IsGiven : X × Y → Type 0) (old mid new : Words) → ((x : X) (y : Y) → IsFirst x → IsSecond y → IsGiven (x, y))
      → Passes F IsFirst old mid → Passes G IsSecond mid new → Passes (F ␣ G) IsGiven old new
  passes_both IsFirst IsSecond IsGiven old mid new make h k = (
    (h.0, k.0),
    h.1 ∙ ap (λ ws. F.words h.0 ++ ws) k.1 ∙ sym (append_assoc (F.words h.0) (G.words k.0) (left_words new)),
    (h.2, k.2),
    both_noted (F.IsInRange h.0) (IsFirst h.0) (G.IsInRange k.0) (IsSecond k.0) (IsGiven (h.0, k.0)) old.in_range mid.in_range new.in_range (make h.0 k.0) h.3 k.3,
  )

  -- what both give
  pub passes_two : (v : X) (w : Y) (old mid new : Words) → Passes F (λ x. v ≡ x) old mid → Passes G (λ y. w ≡ y) mid new → Passes (F ␣ G) (λ p. (v, w) ≡ p) old new
  passes_two v w old mid new h k = passes_both (λ x. v ≡ x) (λ y. w ≡ y) (λ p. (v, w) ≡ p) old mid new (λ x y e f i. (e i, f i)) h k

  -- the first call fails
  pub first_refused : (ws : List Text) (fault : LineFault) → Refuses F ws fault → Refuses (F ␣ G) ws fault
  first_refused ws Memory h = tt
  first_refused ws OtherForm h = ((λ x rest is e. h.0 x.0 (G.words x.1 ++ rest) is.0 (e ∙ append_assoc (F.words x.0) (G.words x.1) rest)), by) where
    by : (F ␣ G).IsOver ws → ⊥
    by (inl over) = h.1 over
    by (inr over) = h.0 over.0 over.1 over.2 over.3
  first_refused ws OverLimit h = inl h
  first_refused ws OutOfRange h = absurd h

  -- the second fails behind it
  pub second_refused : (told : AreTold F) (IsFirst : X → Type 0) (old mid : Words) (fault : LineFault) → Passes F IsFirst old mid → Refuses G (left_words mid) fault → Refuses (F ␣ G) (left_words old) fault
  second_refused told IsFirst old mid Memory h k = tt
  second_refused told IsFirst old mid OtherForm h k = (
    (λ x rest is e.
        let behind = told.tells h.0 x.0 (left_words mid) (G.words x.1 ++ rest) h.2 is.0 (sym h.1 ∙ e ∙ append_assoc (F.words x.0) (G.words x.1) rest) in
        k.0 x.1 rest is.1 behind.1),
    by,
  ) where
    by : (F ␣ G).IsOver (left_words old) → ⊥
    by (inl over) = told.within h.0 (left_words mid) h.2 (subst F.IsOver h.1 over)
    by (inr over) = k.1 (subst G.IsOver (sym (told.tells h.0 over.0 (left_words mid) over.1 h.2 over.2 (sym h.1 ∙ over.3)).1) over.4)
  second_refused told IsFirst old mid OverLimit h k = inr (h.0, left_words mid, h.2, h.1, k)
  second_refused told IsFirst old mid OutOfRange h k = absurd k

-- ---- behind a name

-- the call has passed the name of a form, and goes on with what is wanted behind it
module _ {F : Type 0} {P : F → Type 0} (name : F → Text) (behind : (f : F) → Wording (P f)) (old mid : Words) (f g : F) (is : f ≡ g)
    (begins : left_words old ≡ name f ∷ left_words mid) (kept : mid.in_range ≡ old.in_range) where
  from_here : left_words old ≡ name g ∷ left_words mid
  from_here = begins ∙ ap (λ f. name f ∷ left_words mid) is

  pub behind_passes : (IsBehind : P g → Type 0) (IsGiven : (f : F) × P f → Type 0) (new : Words) → ((p : P g) → IsBehind p → IsGiven (g, p)) → Passes (behind g) IsBehind mid new → Passes (named name behind) IsGiven old new
  behind_passes IsBehind IsGiven new make h = (
    (g, h.0),
    from_here ∙ ap (λ ws. name g ∷ ws) h.1,
    h.2,
    noted_kept ((behind g).IsInRange h.0) (IsBehind h.0) (IsGiven (g, h.0)) old.in_range mid.in_range new.in_range (make h.0) kept h.3,
  )

  pub behind_refused : ((f g : F) → name f ≡ name g → f ≡ g) → (fault : LineFault) → Refuses (behind g) (left_words mid) fault → Refuses (named name behind) (left_words old) fault
  behind_refused names Memory h = tt
  behind_refused names OtherForm h = (
    (λ x rest is e. refused x.0 (names g x.0 (ap (λ ws. get_or ws 0 []) (sym from_here ∙ e))) x.1 rest is (ap (drop 1) (sym from_here ∙ e))),
    (λ over. h.1 (subst (λ g. (behind g).IsOver (left_words mid)) (sym (names g over.0 (ap (λ ws. get_or ws 0 []) (sym from_here ∙ over.2)))) (subst (behind over.0).IsOver (sym (ap (drop 1) (sym from_here ∙ over.2))) over.3))),
  ) where
    refused : (f : F) → g ≡ f → (p : P f) (rest : List Text) → (behind f).Is p → left_words mid ≡ (behind f).words p ++ rest → ⊥
    refused f same = subst (λ f. (p : P f) (rest : List Text) → (behind f).Is p → left_words mid ≡ (behind f).words p ++ rest → ⊥) same h.0
  behind_refused names OverLimit h = (g, left_words mid, from_here, h)
  behind_refused names OutOfRange h = absurd h

-- the name is of no form
pub name_refused : {F : Type 0} {P : F → Type 0} (name : F → Text) (behind : (f : F) → Wording (P f)) (ws : List Text) (fault : LineFault) → (fault ≡ OtherForm) × ((form : F) (rest : List Text) → ws ≡ name form ∷ rest → ⊥) → Refuses (named name behind) ws fault
name_refused name behind ws fault h = subst (Refuses (named name behind) ws) (sym h.0) ((λ x rest is e. h.1 x.0 ((behind x.0).words x.1 ++ rest) e), (λ over. h.1 over.0 over.1 over.2))

-- ---- values of one word

module _ {X : Type 0} (text : X → Text) (Is InRange : X → Type 0) (IsOver : Text → Type 0) where
  -- no word is left
  pub no_word : (ws : List Text) (fault : LineFault) → (fault ≡ OtherForm) × (ws ≡ []) → Refuses (one text Is InRange IsOver) ws fault
  no_word ws fault h = subst (Refuses (one text Is InRange IsOver) ws) (sym h.0) ((λ x rest is e. nil≢cons (text x) rest (sym h.1 ∙ e)), (λ over. nil≢cons over.0 over.1 (sym h.1 ∙ over.2)))

  -- the call has passed the word, and judges it
  module _ (old mid : Words) (w : Text) (passed : (left_words old ≡ w ∷ left_words mid) × (mid.in_range ≡ old.in_range)) where
    pub word_given : (IsGiven : X → Type 0) (x : X) → w ≡ text x → Is x → InRange x → IsGiven x → Passes (one text Is InRange IsOver) IsGiven old mid
    word_given IsGiven x e is range given = (x, passed.0 ∙ ap (λ w. w ∷ left_words mid) e, is, inl (range, given, passed.1))

    pub word_past : (IsGiven : X → Type 0) (new : Words) (x : X) → w ≡ text x → Is x → (InRange x → ⊥) → left_words new ≡ left_words mid → new.in_range ≡ false → Passes (one text Is InRange IsOver) IsGiven old new
    word_past IsGiven new x e is past left noted = (x, passed.0 ∙ (λ i. e i ∷ sym left i), is, inr (past, noted))

    pub word_refused : ((x : X) → Is x → w ≡ text x → ⊥) → (IsOver w → ⊥) → Refuses (one text Is InRange IsOver) (left_words old) OtherForm
    word_refused none within = (
      (λ x rest is e. none x is (head_same w (text x) (left_words mid) rest (sym passed.0 ∙ e))),
      (λ over. within (subst IsOver (sym (head_same w over.0 (left_words mid) over.1 (sym passed.0 ∙ over.2))) over.3)),
    )

    pub word_over : IsOver w → Refuses (one text Is InRange IsOver) (left_words old) OverLimit
    word_over over = (w, left_words mid, passed.0, over)

-- a name that is a value
pub name_passes : {F : Type 0} (name : F → Text) (f : F) (old mid : Words) → (left_words old ≡ name f ∷ left_words mid) × (mid.in_range ≡ old.in_range) → Passes (one name IsAny IsAny IsNever) (λ x. f ≡ x) old mid
name_passes name f old mid passed = word_given name IsAny IsAny IsNever old mid (name f) passed (λ x. f ≡ x) f refl tt tt refl

-- ---- whole lines

module _ {V X : Type 0} (W : Wording X) (is_within : Bool) (make : X → V) (start : Words) (in_range : start.in_range ≡ true) where
  pub line_refused : (result : Result V LineFault) (fault : LineFault) → IsErrAnd result (λ given. given ≡ fault) → Refuses W (left_words start) fault → ReadsLine (deep is_within W) make (left_words start) result
  line_refused result fault e h =
      let x = err_from_is_err_and result e in
      subst (ReadsLine (deep is_within W) make (left_words start)) (sym (x.1 ∙ ap (λ fault. Err fault) x.2)) (by fault h) where
        by : (fault : LineFault) → Refuses W (left_words start) fault → ReadsLine (deep is_within W) make (left_words start) (Err fault)
        by Memory h = tt
        by OtherForm h = (
          (λ x is e. h.0 x [] is.1 (e ∙ sym (append-nil (W.words x)))),
          (λ over. elim over [
            | inl o ↦ h.1 o
            | inr o ↦ h.0 o.1 [] o.2 (o.3 ∙ sym (append-nil (W.words o.1)))
          ]),
        )
        by OverLimit h = inl h
        by OutOfRange h = absurd h

  module _ (told : AreTold W) (last : Words) (v : V) (passed : Passes W (λ x. v ≡ make x) start last) where
    whole : left_words last ≡ [] → left_words start ≡ W.words passed.0
    whole none = passed.1 ∙ ap (λ ws. W.words passed.0 ++ ws) none ∙ append-nil (W.words passed.0)

    -- the words are those of no more than what was passed
    none_left : (x : X) → W.Is x → left_words start ≡ W.words x → left_words last ≡ []
    none_left x is e = (told.tells passed.0 x (left_words last) [] passed.2 is (sym passed.1 ∙ e ∙ sym (append-nil (W.words x)))).1

    pub line_given : EndsLine last is_within (Ok tt) → ReadsLine (deep is_within W) make (left_words start) (Ok v)
    line_given end = by passed.3 where
      by : Noted (W.IsInRange passed.0) (v ≡ make passed.0) start.in_range last.in_range → ReadsLine (deep is_within W) make (left_words start) (Ok v)
      by (inl h) = (passed.0, whole end.0, (end.1, passed.2), h.0, h.1)
      by (inr h) = absurd (false≢true (sym h.1 ∙ end.2))

    at_end : (fault : LineFault) → EndsLine last is_within (Err fault) → ReadsLine (deep is_within W) make (left_words start) (Err fault)
    at_end Memory h = tt
    at_end OtherForm h = (
      (λ x is e. h (none_left x is.1 e)),
      (λ over. elim over [
        | inl o ↦ told.within passed.0 (left_words last) passed.2 (subst W.IsOver passed.1 o)
        | inr o ↦ h (none_left o.1 o.2 o.3)
      ]),
    )
    at_end OverLimit h = inr (h.1, passed.0, passed.2, whole h.0)
    at_end OutOfRange h = by passed.3 where
      by : Noted (W.IsInRange passed.0) (v ≡ make passed.0) start.in_range last.in_range → ReadsLine (deep is_within W) make (left_words start) (Err OutOfRange)
      by (inl k) = absurd (false≢true (sym h.2 ∙ k.2 ∙ in_range))
      by (inr k) = (passed.0, whole h.0, (h.1, passed.2), k.0)

    pub end_refused : (result : Result V LineFault) (fault : LineFault) → IsErrAnd result (λ given. given ≡ fault) → EndsLine last is_within (Err fault) → ReadsLine (deep is_within W) make (left_words start) result
    end_refused result fault e h =
        let x = err_from_is_err_and result e in
        subst (ReadsLine (deep is_within W) make (left_words start)) (sym (x.1 ∙ ap (λ fault. Err fault) x.2)) (at_end fault h)

-- a line that stands at no depth
pub not_deep : {V X : Type 0} (W : Wording X) (make : X → V) (ws : List Text) (r : Result V LineFault) → ReadsLine (deep true W) make ws r → ReadsLine W make ws r
not_deep W make ws (Ok v) h = (h.0, h.1, h.2.1, h.3, h.4)
not_deep W make ws (Err Memory) h = tt
not_deep W make ws (Err OtherForm) h = ((λ x is e. h.0 x (refl, is) e), (λ over. h.1 (inl over)))
not_deep W make ws (Err OverLimit) (inl over) = over
not_deep W make ws (Err OverLimit) (inr over) = absurd (false≢true (sym over.0))
not_deep W make ws (Err OutOfRange) h = (h.0, h.1, h.2.1, h.3)

pub deep_told : {X : Type 0} {W : Wording X} (is_within : Bool) → AreTold W → AreTold (deep is_within W)
deep_told {X} {W} is_within told =
    record {
      tells = λ x y a b h k e. told.tells x y a b h.1 k.1 e;
      within = by;
    } where
      by : (x : X) (rest : List Text) → (is_within ≡ true) × W.Is x → (deep is_within W).IsOver (W.words x ++ rest) → ⊥
      by x rest h (inl over) = told.within x rest h.1 over
      by x rest h (inr over) = false≢true (sym over.0 ∙ h.0)

-- the words of a value in range are read as it
pub read_back : {V X : Type 0} (W : Wording X) (make : X → V) (told : AreTold W) (x : X) (ws : List Text) (result : Result V LineFault) → W.Is x → W.IsInRange x → ws ≡ W.words x → ReadsLine W make ws result
    → MatchResult result (λ v. v ≡ make x) (λ fault. fault ≡ Memory)
read_back {V} {X} W make told x ws result is range e = by result where
  same : (y : X) → W.Is y → ws ≡ W.words y → y ≡ x
  same y h f = (told.tells y x [] [] h is (ap (λ ws. ws ++ []) (sym f ∙ e))).0

  by : (result : Result V LineFault) → ReadsLine W make ws result → MatchResult result (λ v. v ≡ make x) (λ fault. fault ≡ Memory)
  by (Ok v) h = h.4 ∙ ap make (same h.0 h.2 h.1)
  by (Err Memory) h = refl
  by (Err OtherForm) h = absurd (h.0 x is e)
  by (Err OverLimit) h = absurd (told.within x [] is (subst W.IsOver (e ∙ sym (append-nil (W.words x))) h))
  by (Err OutOfRange) h = absurd (h.3 (subst W.IsInRange (sym (same h.0 h.2 h.1)) range))

-- ---- values that are chosen by a name

module _ {F Y : Type 0} {P : F → Type 0} (name : F → Text) (behind : (f : F) → Wording (P f)) (parts : Y → (f : F) × P f) (make : (f : F) → P f → Y) where
  -- the call has passed a name, and goes on behind it
  module _ (back : (f : F) (p : P f) → ◌≡◌ {A = (f : F) × P f} (parts (make f p)) (f, p)) (names : (f g : F) → name f ≡ name g → f ≡ g)
      (old mid : Words) (f g : F) (is : f ≡ g) (passed : (left_words old ≡ name f ∷ left_words mid) × (mid.in_range ≡ old.in_range)) where
    pub chosen_given : (new : Words) (v : Y) → Passes (behind g) (λ p. v ≡ make g p) mid new → Passes (by_parts parts (named name behind)) (λ y. v ≡ y) old new
    chosen_given new v h =
        parts_passes parts (named name behind) (λ x. make x.0 x.1) (λ x. v ≡ make x.0 x.1) (λ y. v ≡ y) old new (λ x. back x.0 x.1) (λ x e. e)
        (behind_passes name behind old mid f g is passed.0 passed.1 (λ p. v ≡ make g p) (λ x. v ≡ make x.0 x.1) new (λ p e. e) h)

    pub chosen_refused : (fault : LineFault) → Refuses (behind g) (left_words mid) fault → Refuses (by_parts parts (named name behind)) (left_words old) fault
    chosen_refused fault h = parts_refused parts (named name behind) (left_words old) fault (behind_refused name behind old mid f g is passed.0 passed.1 names fault h)

    pub chosen_reads : (new : Words) (r : Result Y LineFault) → ReadsWords (behind g) (make g) mid new r → ReadsWords (by_parts parts (named name behind)) (λ y. y) old new r
    chosen_reads new (Ok v) h = chosen_given new v h
    chosen_reads new (Err fault) h = chosen_refused fault h

  pub unnamed : (ws : List Text) (fault : LineFault) → (fault ≡ OtherForm) × ((form : F) (rest : List Text) → ws ≡ name form ∷ rest → ⊥) → Refuses (by_parts parts (named name behind)) ws fault
  unnamed ws fault h = parts_refused parts (named name behind) ws fault (name_refused name behind ws fault h)

module _ {F Y : Type 0} {P : F → Type 0} (name : F → Text) (behind : (f : F) → Wording (P f)) (make : (f : F) → P f → Y) (names : (f g : F) → name f ≡ name g → f ≡ g)
    (old mid : Words) (f g : F) (is : f ≡ g) (passed : (left_words old ≡ name f ∷ left_words mid) × (mid.in_range ≡ old.in_range)) where
  pub named_reads : (new : Words) (r : Result Y LineFault) → ReadsWords (behind g) (make g) mid new r → ReadsWords (named name behind) (λ x. make x.0 x.1) old new r
  named_reads new (Ok v) h = behind_passes name behind old mid f g is passed.0 passed.1 (λ p. v ≡ make g p) (λ x. v ≡ make x.0 x.1) new (λ p e. e) h
  named_reads new (Err fault) h = behind_refused name behind old mid f g is passed.0 passed.1 names fault h
