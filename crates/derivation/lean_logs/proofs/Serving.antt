-- Logs of which each founded line is named by a later one.
use Rattle.std.proofs.Common.{◌≡◌, refl, ap, sym, ◌∙◌, subst, inl, inr, ◌⊎◌, ℕ, ◌+◌, Bool, true, false, not, ◌==◌, List, [], ◌∷◌, ◌++◌, filter, length, if◌then◌else◌, arith}
use Rattle.std.proofs.lemmas.Bool.{eqb-true, not-true}
use Rattle.std.proofs.lemmas.List.{length-append}
use Rattle.algebra.specs.Columns.{has}
use Rattle.derivation.specs.declared.line.Line.{Line}
use Rattle.derivation.specs.declared.line.Line.TheVariants.{Founds, Adds, Unites, Alike, Gives}
use Rattle.logs.specs.Logged.{Logged}
use Rattle.bindings.specs.Founding.{founds_something}
use Rattle.bindings.specs.Lean.{SaysNew, made_of, named_by, IsLean}
use Rattle.lean_logs.specs.Founding.{IsAdded}
use Rattle.lean_logs.specs.Growth.{waiting, FillsLean, GrowsLean, IsServed, IsServedBut}
use Rattle.lean_logs.proofs.Growth.{grows-along, grows-itself, lean_at_first, lean_fills, new-next, served-next}
use Rattle.lean_logs.proofs.Lean.{lean_of}
use Rattle.lean_logs.proofs.Numbers.{has_append, has_cons, has_first, has_later, left_in, stays_in}

-- a list that has nothing is empty
pub none_in : (ns : List ℕ) → ((n : ℕ) → has ns n ≡ true → has [] n ≡ true) → ns ≡ []
none_in [] none = refl
none_in (m ∷ ns) none = let never : false ≡ true = none m (has_first m ns) in cc

pub is_empty : (ns : List ℕ) → (length ns == 0) ≡ true → ns ≡ []
is_empty [] none = refl
is_empty (n ∷ ns) none = let some : length (n ∷ ns) ≡ 0 = eqb-true (length (n ∷ ns)) 0 none in absurd (omega (arith, some))

-- ---- line by line

-- of lines that wait those that a line doesn't name
abbrev pub AreLeft : List ℕ → Line → List ℕ → Type 0
AreLeft ns l left = (n : ℕ) → has ns n ≡ true → has (named_by l) n ≡ false → has left n ≡ true

split-last : (ns : List ℕ) (m n : ℕ) → has (ns ++ (m ∷ [])) n ≡ true → (has ns n ≡ true) ⊎ (m ≡ n)
split-last [] m n in_ = elim (has_cons m n [] in_) [ inl same ↦ inr same | inr none ↦ let never : false ≡ true = none in cc ]
split-last (k ∷ ns) m n in_ = elim (has_cons k n (ns ++ (m ∷ [])) in_) [
  | inl same ↦ inl (subst (λ j. has (k ∷ ns) j ≡ true) same (has_first k ns))
  | inr rest ↦ elim (split-last ns m n rest) [ inl in_ ↦ inl (has_later k n ns in_) | inr last ↦ inr last ]
]

pub left_one_more : (ns : List ℕ) (m : ℕ) (l : Line) (left : List ℕ) → AreLeft ns l left → AreLeft (ns ++ (m ∷ [])) l (left ++ (m ∷ []))
left_one_more ns m l left are n in_ unnamed = elim (split-last ns m n in_) [
  | inl before ↦ has_append left (m ∷ []) n (inl (are n before unnamed))
  | inr last ↦ has_append left (m ∷ []) n (inr (subst (λ j. has (m ∷ []) j ≡ true) last (has_first m [])))
]

pub left_named : (ns : List ℕ) (m : ℕ) (l : Line) (left : List ℕ) → AreLeft ns l left → has (named_by l) m ≡ true → AreLeft (ns ++ (m ∷ [])) l left
left_named ns m l left are names n in_ unnamed = elim (split-last ns m n in_) [
  | inl before ↦ are n before unnamed
  | inr last ↦ let never : true ≡ false = sym names ∙ ap (has (named_by l)) last ∙ unnamed in cc
]

pub served_at_first : (a : Logged) → IsServedBut [] a a
served_at_first a = record { grows = grows-itself a; news = tt; served = λ n waits. waits }

module _ (limit : ℕ) (log a b : Logged) (l : Line) (ns left : List ℕ) (is : IsServedBut ns log a) (added : IsAdded limit a l b) (are : AreLeft ns l left) where
  abbrev keep : ℕ → Bool
  keep n = not (has (named_by l) n)

  abbrev rest : List ℕ
  rest = filter keep (waiting named_by (length log.log) is.grows.more)

  still : (n : ℕ) → has rest n ≡ true → has left n ≡ true
  still n in_ = let at = left_in keep n (waiting named_by (length log.log) is.grows.more) in_ in are n (is.served n at.0) (not-true _ at.1)

  -- so it is behind the line, if those that wait then are among these
  served-by : (b : Bool) (more : List ℕ) → founds_something l ≡ b → ((n : ℕ) → has (if b then (length is.grows.more + length log.log) ∷ rest else rest) n ≡ true → has more n ≡ true) → IsServedBut more log (record { instances = a.instances; own = a.own; log = l ∷ a.log })
  served-by b more founds all = record {
    grows = record { instances = is.grows.instances; own = is.grows.own; more = l ∷ is.grows.more; log = ap (λ (L : List Line). l ∷ L) is.grows.log };
    news = (subst (λ E. SaysNew log.instances E l) is.grows.log (subst (λ I. SaysNew I a.log l) is.grows.instances added.says), is.news);
    served = λ n in_. all n (ap (λ b. has (if b then (length is.grows.more + length log.log) ∷ rest else rest) n) (sym founds) ∙ in_);
  }

  pub served_still : founds_something l ≡ false → IsServedBut left log b
  served_still founds = subst (IsServedBut left log) (sym added.added) (served-by false left founds still)

  pub served_founded : (number : ℕ) → founds_something l ≡ true → number ≡ length a.log → IsServedBut (left ++ (number ∷ [])) log b
  served_founded number founds last = subst (IsServedBut (left ++ (number ∷ [])) log) (sym added.added) (served-by true (left ++ (number ∷ [])) founds all)
    where
      count : number ≡ length is.grows.more + length log.log
      count = last ∙ ap length is.grows.log ∙ length-append is.grows.more log.log

      all : (n : ℕ) → has ((length is.grows.more + length log.log) ∷ rest) n ≡ true → has (left ++ (number ∷ [])) n ≡ true
      all n in_ = elim (has_cons (length is.grows.more + length log.log) n rest in_) [
        | inl own ↦ has_append left (number ∷ []) n (inr (subst (λ j. has (number ∷ []) j ≡ true) (count ∙ own) (has_first number [])))
        | inr before ↦ has_append left (number ∷ []) n (inl (still n before))
      ]

pub served_ends : (a b : Logged) → IsServedBut [] a b → IsServed a b
served_ends a b is = record { grows = is.grows; news = is.news; served = none_in (waiting named_by (length a.log) is.grows.more) is.served }

-- ---- what a result is made of it names

names-made : (l : Line) (n : ℕ) → has (made_of l) n ≡ true → has (named_by l) n ≡ true
names-made (Founds x) n in_ = in_
names-made (Adds g s x) n in_ = has_append s.uses s.makes n (inr in_)
names-made (Unites g h s) n in_ = has_append s.uses s.makes n (inr in_)
names-made (Alike i j) n in_ = in_
names-made (Gives g m f) n in_ = in_

unmade : (l : Line) (n : ℕ) → not (has (named_by l) n) ≡ true → not (has (made_of l) n) ≡ true
unmade l n unnamed = by (has (made_of l) n) refl
  where
    by : (b : Bool) → has (made_of l) n ≡ b → not (has (made_of l) n) ≡ true
    by true is = let never : false ≡ true = sym (ap not (names-made l n is)) ∙ unnamed in cc
    by false is = ap not is

fewer-left : (l : Line) (ns ms : List ℕ) → ((n : ℕ) → has ns n ≡ true → has ms n ≡ true) → (n : ℕ) → has (filter (λ m. not (has (named_by l) m)) ns) n ≡ true → has (filter (λ m. not (has (made_of l) m)) ms) n ≡ true
fewer-left l ns ms among n in_ = let at = left_in (λ m. not (has (named_by l) m)) n ns in_ in stays_in (λ m. not (has (made_of l) m)) n ms (among n at.0) (unmade l n at.1)

fewer-by : (b : Bool) (m : ℕ) (ns ms : List ℕ) → ((n : ℕ) → has ns n ≡ true → has ms n ≡ true) → (n : ℕ) → has (if b then m ∷ ns else ns) n ≡ true → has (if b then m ∷ ms else ms) n ≡ true
fewer-by false m ns ms among n in_ = among n in_
fewer-by true m ns ms among n in_ = elim (has_cons m n ns in_) [
  | inl same ↦ subst (λ j. has (m ∷ ms) j ≡ true) same (has_first m ms)
  | inr rest ↦ has_later m n ms (among n rest)
]

-- so fewer wait for a line that names them
pub fewer_wait : (k : ℕ) (lines : List Line) (n : ℕ) → has (waiting named_by k lines) n ≡ true → has (waiting made_of k lines) n ≡ true
fewer_wait k [] n in_ = in_
fewer_wait k (l ∷ lines) n in_ =
    fewer-by (founds_something l) (length lines + k) (filter (λ m. not (has (named_by l) m)) (waiting named_by k lines)) (filter (λ m. not (has (made_of l) m)) (waiting made_of k lines))
    (fewer-left l (waiting named_by k lines) (waiting made_of k lines) (fewer_wait k lines)) n in_

-- ---- with what comes behind

module _ (limit : ℕ) (a b c : Logged) (first : IsServed a b) where
  -- where a log grows lean behind such lines, it is served too
  pub served_along : GrowsLean limit b c → IsServed a c
  served_along next = record {
    grows = grows-along first.grows next.grows;
    news = new-next limit first.grows next.grows first.news next.news;
    served = served-next limit named_by first.grows next.grows first.served
        ∙ none_in (waiting named_by (length b.log) next.grows.more) (λ n waits. sym (ap (λ ns. has ns n) next.served) ∙ fewer_wait (length b.log) next.grows.more n waits);
  }

  -- where it fills up so, it is lean
  pub served_fills : FillsLean limit b c → IsLean a.instances named_by (length a.log) c.log
  served_fills next = lean_of named_by a c (grows-along first.grows next.grows) (new-next limit first.grows next.grows first.news next.news)
      (λ n waits. (next.served n (fewer_wait (length b.log) next.grows.more n (sym (ap (λ ns. has ns n) (served-next limit named_by first.grows next.grows first.served)) ∙ waits))).1)

pub served_is_lean : (a b : Logged) → IsServed a b → IsLean a.instances named_by (length a.log) b.log
served_is_lean a b is = served_fills 0 a b b is (lean_fills 0 b b (lean_at_first 0 b))
