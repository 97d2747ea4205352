-- Which lines the chain of a class has, and which those of the classes of a set.
use Rattle.std.proofs.Common.{◌≡◌, refl, ap, sym, ◌∙◌, subst, ℕ, ◌+◌, ◌<◌, ◌≤◌, ◌≢◌, Bool, true, false, ◌&&◌, ◌==◌, nat_lt, if◌then◌else◌, List, [], ◌∷◌, ◌++◌, length, get_or, Option, Some, None, cond, zero-add, arith}
use Rattle.std.specs.List.{AllByRecursion, sum_by}
use Rattle.std.proofs.lemmas.Bool.{eq-eqb, eqb-true, ne_eqb, lt-ltb, ltb-true}
use Rattle.query.specs.declared.query.TableInstance.{TableInstance}
use Rattle.algebra.specs.declared.expr.Aggregation.{Aggregation}
use Rattle.rules.specs.Matches as matches
use Rattle.derivation.specs.declared.line.Line.{Line}
use Rattle.derivation.specs.declared.line.Line.TheVariants.{Founds, Adds, Unites, Alike, Gives}
use Rattle.derivation.specs.Logs.{Log, line_at, founds, is_founding, as_member, member, least, are_same}
use Rattle.derivation.specs.Replay.{Replays}
use Rattle.derivation.proofs.Lookups.{within}
use Rattle.logs.specs.declared.known.Known.{Known}
use Rattle.logs.specs.Knowledge.{IsKnown}
use Rattle.logs.specs.Members.{adding, IsChain, once_if, once_of, is_of, is_member}
use Rattle.logs.specs.Sets.{root_of, times}
use Rattle.logs.proofs.NamedLines.{class-below}
use Rattle.logs.proofs.Relabelled.{all-from-has}
use Rattle.logs.proofs.Times.{times-append, times-cons, times-some, sum-none}

-- ---- one chain

-- the next line of a chain that isn't at its end
pub record IsNext (earlier : List ℕ) (c at : ℕ) (ns : List ℕ) : Type 0 where
  pub rest : List ℕ
  pub is : ns ≡ at ∷ rest
  pub low : at < length earlier
  pub falls : get_or earlier at 0 < at
  pub chain : IsChain earlier c (get_or earlier at 0) rest

pub next-of : (earlier : List ℕ) (c at : ℕ) (ns : List ℕ) → IsChain earlier c at ns → at ≢ c → IsNext earlier c at ns
next-of earlier c at [] is other = absurd (other is)
next-of earlier c at (n ∷ ns) is other = record {
  rest = ns;
  is = ap (λ k. k ∷ ns) (sym is.0);
  low = subst (λ k. k < length earlier) (sym is.0) is.2;
  falls = subst (λ k. get_or earlier k 0 < k) (sym is.0) is.3;
  chain = subst (λ k. IsChain earlier c (get_or earlier k 0) ns) (sym is.0) is.4;
}

pub none-left : (earlier : List ℕ) (c : ℕ) (ns : List ℕ) → IsChain earlier c c ns → ns ≡ []
none-left earlier c [] is = refl
none-left earlier c (n ∷ ns) is = absurd (let e : c ≡ n = is.0 in let lt : c < n = is.1 in omega (arith, e, lt))

-- one line went from what is left to what was found
pub moved-on : (n line : ℕ) (found more left rest : List ℕ) → more ≡ found ++ line ∷ [] → left ≡ line ∷ rest → (all : ℕ) → times n found + times n left ≡ all → times n more + times n rest ≡ all
moved-on n line found more left rest is was all sum =
    let one : times n more ≡ times n found + times n (line ∷ []) = ap (times n) is ∙ times-append n found (line ∷ []) in
    let alone : times n (line ∷ []) ≡ cond (line == n) 1 0 + 0 = times-cons n line [] in
    let first : times n left ≡ cond (line == n) 1 0 + times n rest = ap (times n) was ∙ times-cons n line rest in
    omega (arith, one, alone, first, sum)

-- ---- which lines it has

abbrev adds_to : Option Line → ℕ → ℕ
adds_to None c = 0
adds_to (Some (Founds x)) c = 0
adds_to (Some (Adds g s x)) c = once_if (c == g)
adds_to (Some (Unites g h s)) c = 0
adds_to (Some (Alike i j)) c = 0
adds_to (Some (Gives g m f)) c = 0

line-past : (E : Log) (n : ℕ) → length E ≤ n → line_at E n ≡ None
line-past E n le = by (line_at E n) refl
  where
    by : (o : Option Line) → line_at E n ≡ o → o ≡ None
    by None at = refl
    by (Some l) at = absurd (let lt = within E n l at in omega (arith, lt, le))

module _ (E : Log) (c n : ℕ) (before : times n (adding c E) ≡ adds_to (line_at E n) c) where
  none-yet : (n == length E) ≡ true → times n (adding c E) ≡ 0
  none-yet is = before ∙ ap (λ o. adds_to o c) (line-past E n (let e : n ≡ length E = eqb-true n (length E) is in omega (arith, e)))

  -- a line that adds nothing
  idle : (l : Line) → adds_to (Some l) c ≡ 0 → times n (adding c E) ≡ adds_to (if n == length E then Some l else line_at E n) c
  idle l absent = by (n == length E) refl
    where
      by : (b : Bool) → (n == length E) ≡ b → times n (adding c E) ≡ adds_to (if b then Some l else line_at E n) c
      by true is = none-yet is ∙ sym absent
      by false is = before

  more : (l : Line) (g : ℕ) → adds_to (Some l) c ≡ once_if (c == g) → times n (if c == g then length E ∷ adding c E else adding c E) ≡ adds_to (if n == length E then Some l else line_at E n) c
  more l g is-g = by (c == g) (n == length E) refl refl
    where
      one : (b : Bool) → (n == length E) ≡ b → times n (length E ∷ adding c E) ≡ (if b then 1 else 0) + times n (adding c E)
      one true is = times-cons n (length E) (adding c E) ∙ ap (λ b. cond b 1 0 + times n (adding c E)) (eq-eqb (length E) n (sym (eqb-true n (length E) is)))
      one false is = times-cons n (length E) (adding c E) ∙ ap (λ b. cond b 1 0 + times n (adding c E)) (ne_eqb (length E) n (λ e. let never : true ≡ false = sym (eq-eqb n (length E) (sym e)) ∙ is in cc))

      by : (a b : Bool) → (c == g) ≡ a → (n == length E) ≡ b → times n (if a then length E ∷ adding c E else adding c E) ≡ adds_to (if b then Some l else line_at E n) c
      by true true at here = one true here ∙ ap (λ k. 1 + k) (none-yet here) ∙ sym (is-g ∙ ap once_if at)
      by true false at here = one false here ∙ zero-add (times n (adding c E)) ∙ before
      by false true at here = none-yet here ∙ sym (is-g ∙ ap once_if at)
      by false false at here = before

adding-times : (E : Log) (c n : ℕ) → times n (adding c E) ≡ adds_to (line_at E n) c
adding-times [] c n = refl
adding-times (Founds x ∷ E) c n = idle E c n (adding-times E c n) (Founds x) refl
adding-times (Adds g s x ∷ E) c n = more E c n (adding-times E c n) (Adds g s x) g refl
adding-times (Unites g h s ∷ E) c n = idle E c n (adding-times E c n) (Unites g h s) refl
adding-times (Alike i j ∷ E) c n = idle E c n (adding-times E c n) (Alike i j) refl
adding-times (Gives g m f ∷ E) c n = idle E c n (adding-times E c n) (Gives g m f) refl

-- the line that founds the class, and those that add to it
pub line-times : (E : Log) (c n : ℕ) → times n (adding c E) + once_if (founds E c && (c == n)) ≡ once_of (member E n) c
line-times E c n = ap (λ k. k + once_if (founds E c && (c == n))) (adding-times E c n) ∙ by (c == n) refl
  where
    and-false : (b : Bool) → (b && false) ≡ false
    and-false true = refl
    and-false false = refl

    and-true : (b : Bool) → (b && true) ≡ b
    and-true true = refl
    and-true false = refl

    here : (o : Option Line) → (c == n) ≡ true → adds_to o c + once_if (is_founding o) ≡ once_of (as_member n o) c
    here None is = refl
    here (Some (Founds x)) is = sym (ap once_if is)
    here (Some (Adds g s x)) is = omega arith
    here (Some (Unites g h s)) is = refl
    here (Some (Alike i j)) is = refl
    here (Some (Gives g m f)) is = refl

    there : (o : Option Line) → (c == n) ≡ false → adds_to o c + 0 ≡ once_of (as_member n o) c
    there None is = refl
    there (Some (Founds x)) is = sym (ap once_if is)
    there (Some (Adds g s x)) is = omega arith
    there (Some (Unites g h s)) is = refl
    there (Some (Alike i j)) is = refl
    there (Some (Gives g m f)) is = refl

    by : (b : Bool) → (c == n) ≡ b → adds_to (line_at E n) c + once_if (founds E c && (c == n)) ≡ once_of (member E n) c
    by true is =
        ap (λ k. adds_to (line_at E n) c + once_if k) (ap (λ b. founds E c && b) is ∙ and-true (founds E c) ∙ ap (founds E) (eqb-true c n is)) ∙ here (line_at E n) is
    by false is = ap (λ k. adds_to (line_at E n) c + once_if k) (ap (λ b. founds E c && b) is ∙ and-false (founds E c)) ∙ there (line_at E n) is

-- ---- the classes of a set

module _ (instances : List TableInstance) (own : List Aggregation) (E : Log) (k : Known) (replays : Replays instances own E) (is : IsKnown instances E k) (g : ℕ) (classes : List ℕ)
    (set : (c : ℕ) → times c classes ≡ (if nat_lt c (length k.sets.sets.items) && (root_of k.sets c == root_of k.sets g) then 1 else 0)) where
  count : length k.sets.sets.items ≡ length E
  count = sym is.step.columns ∙ is.count

  roots-are : (c : ℕ) → root_of k.sets c ≡ least E c
  roots-are c = ap (λ K. K.root c) is.known

  pub members-times : (n : ℕ) → sum_by (once_of (member E n)) classes ≡ once_if (is_member E g n)
  members-times n = by (member E n) refl
    where
      by : (o : Option matches.Line) → member E n ≡ o → sum_by (once_of (member E n)) classes ≡ once_if (is_member E g n)
      by None at = ap (λ o. sum_by (once_of o) classes) at ∙ sum-none classes ∙ sym (ap (λ o. once_if (is_of E g o)) at)
      by (Some l) at =
          ap (λ o. sum_by (once_of o) classes) at ∙ set l.class
          ∙ ap (λ b. if b && (root_of k.sets l.class == root_of k.sets g) then 1 else 0) (lt-ltb l.class (length k.sets.sets.items) (let lt = class-below instances own E replays n l at in let same = count in omega (arith, lt, same)))
          ∙ ap (λ r. if r == root_of k.sets g then 1 else 0) (roots-are l.class) ∙ ap (λ r. if least E l.class == r then 1 else 0) (roots-are g)
          ∙ sym (ap (λ o. once_if (is_of E g o)) at)

  pub members-within : AllByRecursion (λ c. c < length E) classes
  members-within = all-from-has (λ c. c < length E) classes (λ c is. by c (nat_lt c (length k.sets.sets.items)) refl (times-some c classes is))
    where
      by : (c : ℕ) (b : Bool) → nat_lt c (length k.sets.sets.items) ≡ b → 1 ≤ times c classes → c < length E
      by c true lt some = let low : c < length k.sets.sets.items = ltb-true c (length k.sets.sets.items) lt in let same = count in omega (arith, low, same)
      by c false absent some = absurd (let none : times c classes ≡ 0 = set c ∙ ap (λ b. if b && (root_of k.sets c == root_of k.sets g) then 1 else 0) absent in omega (arith, none, some))
