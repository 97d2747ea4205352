-- The accesses of a log, line by line.
use Rattle.std.proofs.Common.{◌≡◌, refl, ap, sym, ◌∙◌, ℕ, ◌+◌, ◌<◌, ◌≤◌, Bool, true, false, ◌&&◌, nat_lt, List, [], ◌∷◌, ◌++◌, length, slice_get, Option, Some, None, arith}
use Rattle.std.specs.List.{list_all}
use Rattle.std.proofs.lemmas.Bool.{and_parts, eqb-true, ltb-false, ltb-true}
use Rattle.std.proofs.lemmas.List.Folds.{list_all-append}
use Rattle.query.specs.declared.query.TableInstance.{TableInstance}
use Rattle.algebra.specs.declared.expr.Expr.TheVariants.{Get}
use Rattle.rules.specs.Matches as matches
use Rattle.derivation.specs.Logs.{Log, member}
use Rattle.derivation.proofs.Lookups.{member-within}
use Rattle.physical.specs.declared.plan.IndexAccess.{IndexAccess}
use Rattle.physical.specs.Indexes.{numbers_index}
use Rattle.certificate.specs.Replay.{is_get_of}
use Rattle.labels.specs.Candidates.{AreAccesses, HasAccesses, HasAccessesBelow, gets_instance, is_access}

-- ---- the indexes of one instance

pub none-yet : (line instance : ℕ) (old : List IndexAccess) → HasAccesses line instance 0 old old
none-yet line instance old = record { before = λ p all. all; own = λ p all i lt. absurd (omega (arith, lt)) }

pub one-more : (line instance count : ℕ) (old mid new : List IndexAccess) → HasAccesses line instance count old mid → new ≡ mid ++ record { line = line; instance = instance; index = count } ∷ []
    → HasAccesses line instance (count + 1) old new
one-more line instance count old mid new has news = record {
  before = λ p all. has.before p (parts p all).0;
  own = λ p all i lt. by p all i lt (nat_lt i count) refl;
}
  where
    access : ℕ → IndexAccess
    access i = record { line = line; instance = instance; index = i }

    parts : (p : IndexAccess → Bool) → list_all p new ≡ true → (list_all p mid ≡ true) × ((p (access count) && true) ≡ true)
    parts p all = and_parts (list_all p mid) (p (access count) && true) (sym (ap (list_all p) news ∙ list_all-append p mid (access count ∷ [])) ∙ all)

    by : (p : IndexAccess → Bool) → list_all p new ≡ true → (i : ℕ) → i < count + 1 → (b : Bool) → nat_lt i count ≡ b → p (access i) ≡ true
    by p all i lt true is = has.own p (parts p all).0 i (ltb-true i count is)
    by p all i lt false is =
        let last : i ≡ count = omega (arith, lt, ltb-false i count is) in
        ap (λ k. p (access k)) last ∙ (and_parts (p (access count)) true (parts p all).1).0

-- ---- line by line

module _ (instances : List TableInstance) (E : Log) where
  pub none-below : (list : List IndexAccess) → HasAccessesBelow instances E 0 list
  none-below list = λ p all a lt is. absurd (omega (arith, lt))

  gets-it : (a : IndexAccess) → is_access instances E a ≡ true → (gets_instance (member E a.line) a.instance ≡ true) × (numbers_index (slice_get instances a.instance) a.index ≡ true)
  gets-it a is = and_parts (gets_instance (member E a.line) a.instance) (numbers_index (slice_get instances a.instance) a.index) is

  -- the line itself, or one before it
  or-last : (a : IndexAccess) (line : ℕ) (P : Type 0) → a.line < line + 1 → (a.line < line → P) → (a.line ≡ line → P) → P
  or-last a line P lt before last = by (nat_lt a.line line) refl
    where
      by : (b : Bool) → nat_lt a.line line ≡ b → P
      by true is = before (ltb-true a.line line is)
      by false is = last (omega (arith, lt, ltb-false a.line line is))

  -- a line that gets no instance
  pub past-other : (line : ℕ) (list : List IndexAccess) → ((o : ℕ) → gets_instance (member E line) o ≡ false) → HasAccessesBelow instances E line list → HasAccessesBelow instances E (line + 1) list
  past-other line list other below = λ p all a lt is. or-last a line (p a ≡ true) lt (λ before. below p all a before is) (λ last.
      let never : false ≡ true = sym (other a.instance) ∙ ap (λ k. gets_instance (member E k) a.instance) (sym last) ∙ (gets-it a is).0 in absurd (cc))

  -- a line that gets one
  pub past-get : (line instance count : ℕ) (l : matches.Line) (old new : List IndexAccess) → member E line ≡ Some l → l.expr ≡ Get instance
      → ((i : ℕ) → numbers_index (slice_get instances instance) i ≡ nat_lt i count) → HasAccesses line instance count old new
      → HasAccessesBelow instances E line old → HasAccessesBelow instances E (line + 1) new
  past-get line instance count l old new there get counted has below = λ p all a lt is. or-last a line (p a ≡ true) lt (λ before. below p (has.before p all) a before is) (λ last.
      let parts = gets-it a is in
      let got : is_get_of (Get instance) a.instance ≡ true
      = sym (ap (λ k. gets_instance (member E k) a.instance) last ∙ ap (λ m. gets_instance m a.instance) there ∙ ap (λ x. is_get_of x a.instance) get) ∙ parts.0 in
      let own : a.instance ≡ instance = eqb-true a.instance instance got in
      let low : a.index < count = ltb-true a.index count (sym (counted a.index) ∙ ap (λ k. numbers_index (slice_get instances k) a.index) (sym own) ∙ parts.1) in
      ap p (whole a last own) ∙ has.own p all a.index low)
    where
      whole : (a : IndexAccess) → a.line ≡ line → a.instance ≡ instance → a ≡ record { line = line; instance = instance; index = a.index }
      whole a at of = ap (λ k. record { line = k; instance = a.instance; index = a.index }) at ∙ ap (λ k. record { line = line; instance = k; index = a.index }) of

  -- all lines
  pub all-below : (count : ℕ) (list : List IndexAccess) → length E ≤ count → HasAccessesBelow instances E count list → AreAccesses instances E list
  all-below count list past below = λ p all a is. below p all a (within a (member E a.line) refl (gets-it a is).0) is
    where
      within : (a : IndexAccess) (found : Option matches.Line) → member E a.line ≡ found → gets_instance found a.instance ≡ true → a.line < count
      within a None at is = absurd (cc)
      within a (Some l) at is = omega (arith, member-within E a.line l at, past)
