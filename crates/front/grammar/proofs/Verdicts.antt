-- A reader finds exactly the words within its limit, and else the first fault.
use Rattle.std.proofs.Common.{◌≡◌, ℕ, zero, suc, ◌+◌, ◌-◌, ◌≤◌, true, List, [], ◌∷◌, ◌++◌, Some, Result, Ok, Err, refl, sym, ◌∙◌, ap, subst, append_assoc, arith}
use Rattle.std.proofs.lemmas.List.{append_cancel_right, append-nil}
use Rattle.grammar.specs.Grammars.{Grammar, Language}
use Rattle.grammar.specs.Words.{Nested, Within, Reads, Begins}
use Rattle.grammar.specs.Readers.{◌>>=◌, Reported, decides, paired, parse, inside, finished, whole, IsDecided}
use Rattle.grammar.specs.Faults.{Fault, Unexpected, TooDeep, room, IsWithin, Halts, IsUnexpected, IsTooDeep, IsFirstFault}
use Rattle.grammar.proofs.Samples.{raise, up}
use Rattle.grammar.proofs.Rooms.{even, lower}
use Rattle.grammar.proofs.Outcomes.{Alike}
use Rattle.grammar.proofs.Complete.{whole_complete}
use Rattle.grammar.proofs.Laws.{LawOf, law_at}
use Rattle.grammar.proofs.Reporting.{plain, report, reported_again, whole_reported}

module _ {T : Type 0} {P : Type 0 → Type 1} (L : Language T P) (is : IsDecided L) {A : Type 0} (g : Grammar T P A) (decided : decides L [] g ≡ true) (pairs : paired L g ≡ true) where
  above : (k d : ℕ) (w : List T) (v : A) → Within L d g w v → Within L (k + d) g w v
  above zero d w v h = let e : 0 + d ≡ d = omega arith in subst (λ z. Within L z g w v) (sym e) h
  above (suc k) d w v h = let e : suc k + d ≡ suc (k + d) = omega arith in
      subst (λ z. Within L z g w v) (sym e) (raise L (Nested L (k + d)) (Nested L (suc (k + d))) (up L (k + d)) g w v (above k d w v h))

  within_more : (d e : ℕ) → d ≤ e → (w : List T) (v : A) → Within L d g w v → Within L e g w v
  within_more d e l w v h = let q : (e - d) + d ≡ e = omega arith in subst (λ z. Within L z g w v) q (above (e - d) d w v h)

  -- ---- no reader with more room goes on

  -- what no reader with more room reads is no word
  no_word : (d : ℕ) (u : List T) (f : Fault T) → ((e : ℕ) → d ≤ e → whole L plain e g u ≡ Err f) → (v : A) → Reads L g u v → ⊥
  no_word d u f deaf v (e, h) =
      let p : whole L plain (d + e) g u ≡ Err f = deaf (d + e) (omega arith) in
      let q : whole L plain (d + e) g u ≡ Ok v = whole_complete L plain is g decided (d + e) u v (within_more e (d + e) (omega arith) u v h) in
      cc

  abbrev Deaf : ℕ → List T → List T → Type 0
  Deaf d w r = (e : ℕ) → d ≤ e → (s : List T) → Alike r s → whole L plain e g (w ++ s) ≡ Err (Unexpected s)

  halts : (d : ℕ) (w r : List T) → Deaf d w r → Halts L g w r
  halts d w [] f = λ v h. no_word d (w ++ []) (Unexpected []) (λ e l. f e l [] tt) v (subst (λ z. Reads L g z v) (sym (append-nil w)) h)
  halts d w (t ∷ r) f = before_it
    where
      before_it : Begins L g (w ++ t ∷ []) → ⊥
      before_it (more, v, h) =
          let i : Reads L g (w ++ (t ∷ more)) v = subst (λ z. Reads L g z v) (append_assoc w (t ∷ []) more) h in
          no_word d (w ++ (t ∷ more)) (Unexpected (t ∷ more)) (λ e l. f e l (t ∷ more) refl) v i

  -- a word was read, but there are tokens behind it
  beyond : (e : ℕ) (w : List T) (v : A) (t : T) (r s : List T) → ((u : List T) → Alike (t ∷ r) u → parse L plain (inside L plain e) g (w ++ u) ≡ Ok (v, u))
      → Alike (t ∷ r) s → whole L plain e g (w ++ s) ≡ Err (Unexpected s)
  beyond e w v t r [] f h = absurd h
  beyond e w v t r (u ∷ s) f h = ap (λ z. z >>= finished L plain) (f (u ∷ s) h)

  -- ---- the verdict

  abbrev IsVerdict : ℕ → List T → Result A (Fault T) → Type 0
  IsVerdict d ts (Ok v) = Within L d g ts v
  IsVerdict d ts (Err f) = IsFirstFault L g d ts f

  -- the fault of the reader with room d, reported by a reader with room e
  again_at : (d e : ℕ) (ts w r s : List T) → ts ≡ w ++ r → LawOf L d e g ts (Err (Unexpected r)) → Alike r s → parse L plain (inside L plain e) g (w ++ s) ≡ Err (Unexpected s)
  again_at d e ts w r s p k i =
      let same : k.w ≡ w = append_cancel_right k.w w r (sym k.split ∙ p) in
      subst (λ z. parse L plain (inside L plain e) g (z ++ s) ≡ Err (Unexpected s)) same (k.known.1 s i)

  unexpected : (d : ℕ) (ts r : List T) → ((e : ℕ) → d ≤ e → LawOf L d e g ts (Err (Unexpected r))) → IsUnexpected L g d ts r
  unexpected d ts r f =
      let k = f d (omega arith) in
      record {
        w = k.w;
        split = k.split;
        begins = (k.more, k.tree, (suc d, k.begins));
        within = k.known.0;
        halts = halts d k.w r (λ e l s i. ap (λ z. z >>= finished L plain) (again_at d e ts k.w r s k.split (f e l) i));
      }

  more_left : (d : ℕ) (ts : List T) (v : A) (t : T) (r : List T) → ((e : ℕ) → d ≤ e → LawOf L d e g ts (Ok (v, t ∷ r))) → IsUnexpected L g d ts (t ∷ r)
  more_left d ts v t r f =
      let k = f d (omega arith) in
      record {
        w = k.w;
        split = k.split;
        begins = ([], v, (d, subst (λ z. Within L d g z v) (sym (append-nil k.w)) k.word));
        within = (d, even L is d g pairs k.w v k.word d (omega arith));
        halts = halts d k.w (t ∷ r) (λ e l s i. beyond e k.w v t r s (λ u j. reads_at e l u j k.w k.split) i);
      }
    where
      reads_at : (e : ℕ) → d ≤ e → (u : List T) → Alike (t ∷ r) u → (w : List T) → ts ≡ w ++ (t ∷ r) → parse L plain (inside L plain e) g (w ++ u) ≡ Ok (v, u)
      reads_at e l u j w p =
          let k = f e l in
          let same : k.w ≡ w = append_cancel_right k.w w (t ∷ r) (sym k.split ∙ p) in
          subst (λ z. parse L plain (inside L plain e) g (z ++ u) ≡ Ok (v, u)) same (k.again u j)

  too_deep : (d : ℕ) (ts r : List T) → LawOf L d d g ts (Err (TooDeep r)) → IsTooDeep L g d ts r
  too_deep d ts r k = by k.known
    where
      by : (t : T) × (b c : List T) × (r ≡ t ∷ b) × (k.more ≡ t ∷ c) × (L.class t ≡ L.class L.opening) × (room L (Some d) k.w ≡ Some 0) → IsTooDeep L g d ts r
      by (t, b, c, p, q, o, n) =
          let word : Within L (suc d) g (k.w ++ (t ∷ c)) k.tree = subst (λ z. Within L (suc d) g (k.w ++ z) k.tree) q k.begins in
          record {
            w = k.w;
            t = t;
            behind = b;
            split = k.split;
            next = p;
            opens = o;
            full = n;
            begins = (c, k.tree, (suc d, subst (λ z. Within L (suc d) g z k.tree) (sym (append_assoc k.w (t ∷ []) c)) word));
          }

  verdict_of : (d : ℕ) (ts : List T) (z : Result (A × List T) (Fault T)) → ((e : ℕ) → d ≤ e → LawOf L d e g ts z) → IsVerdict d ts (z >>= finished L plain)
  verdict_of d ts (Ok (v, [])) f = let k = f d (omega arith) in subst (λ z. Within L d g z v) (sym (k.split ∙ append-nil k.w)) k.word
  verdict_of d ts (Ok (v, t ∷ r)) f = more_left d ts v t r f
  verdict_of d ts (Err (Unexpected r)) f = unexpected d ts r f
  verdict_of d ts (Err (TooDeep r)) f = too_deep d ts r (f d (omega arith))

  pub verdict : (d : ℕ) (ts : List T) → IsVerdict d ts (whole L plain d g ts)
  verdict d ts = verdict_of d ts (parse L plain (inside L plain d) g ts) (λ e l. law_at L is d e l g [] decided pairs ts)

  -- ---- what a parser's contract says

  -- no tokens have two trees
  pub one_tree : (w : List T) (a b : A) → Reads L g w a → Reads L g w b → a ≡ b
  one_tree w a b (d, x) (e, y) =
      let p : whole L plain (d + e) g w ≡ Ok a = whole_complete L plain is g decided (d + e) w a (within_more d (d + e) (omega arith) w a x) in
      let q : whole L plain (d + e) g w ≡ Ok b = whole_complete L plain is g decided (d + e) w b (within_more e (d + e) (omega arith) w b y) in
      cc

  module _ {E : Type 0} (reported : Reported T E) where
    -- a tree that is found is the word's, and its parentheses are within the limit
    pub found : (d : ℕ) (ts : List T) (v : A) → whole L reported d g ts ≡ Ok v → Reads L g ts v × IsWithin L d ts
    found d ts v h = by (whole L plain d g ts) (sym (whole_reported reported L d g ts) ∙ h) (verdict d ts)
      where
        by : (z : Result A (Fault T)) → reported_again reported z ≡ Ok v → IsVerdict d ts z → Reads L g ts v × IsWithin L d ts
        by (Ok u) e k = let same : u ≡ v = cc in ((d, subst (λ z. Within L d g ts z) same k), (d, even L is d g pairs ts u k d (omega arith)))
        by (Err f) e k = cc

    -- a word whose parentheses are within the limit is found
    pub only : (d : ℕ) (ts : List T) (v : A) → Reads L g ts v → IsWithin L d ts → whole L reported d g ts ≡ Ok v
    only d ts v (e, h) (m, r) = whole_complete L reported is g decided d ts v (lower L is e g pairs ts v h d m r)

    -- a fault is the first
    pub refused : (d : ℕ) (ts : List T) (x : E) → whole L reported d g ts ≡ Err x → (f : Fault T) × (x ≡ report reported f) × IsFirstFault L g d ts f
    refused d ts x h = by (whole L plain d g ts) (sym (whole_reported reported L d g ts) ∙ h) (verdict d ts)
      where
        by : (z : Result A (Fault T)) → reported_again reported z ≡ Err x → IsVerdict d ts z → (f : Fault T) × (x ≡ report reported f) × IsFirstFault L g d ts f
        by (Ok u) e k = cc
        by (Err f) e k = let same : report reported f ≡ x = cc in (f, sym same, k)
