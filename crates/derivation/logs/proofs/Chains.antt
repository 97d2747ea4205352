-- The chains of lines that add to classes, with a line more.
use Rattle.std.proofs.Common.{◌≡◌, refl, ap, sym, ◌∙◌, subst, inl, inr, ◌⊎◌, ℕ, suc, ◌+◌, ◌<◌, ◌≤◌, ◌≢◌, Bool, true, false, ◌==◌, if◌then◌else◌, List, [], ◌∷◌, ◌++◌, length, set, get_or, arith}
use Rattle.std.proofs.lemmas.Bool.{cases_order, eq-eqb, eqb-true, ne_eqb}
use Rattle.std.proofs.lemmas.List.{length-set, length_push, get_or_push, get_or_append_left, get_or-set_same, get_or-set_other}
use Rattle.derivation.specs.declared.line.Line.{Line}
use Rattle.derivation.specs.declared.line.Line.TheVariants.{Founds, Adds, Unites, Alike, Gives}
use Rattle.derivation.specs.Logs.{Log}
use Rattle.logs.specs.declared.additions.Additions.{Additions}
use Rattle.logs.specs.Knowledge.{NamesEarlier}
use Rattle.logs.specs.Members.{adding, target, IsChain, AreAdditions}

pub chain-stays : (earlier : List ℕ) (more c at : ℕ) (ns : List ℕ) → IsChain earlier c at ns → IsChain (earlier ++ more ∷ []) c at ns
chain-stays earlier more c at [] is = is
chain-stays earlier more c at (n ∷ ns) is =
    let same : get_or (earlier ++ more ∷ []) n 0 ≡ get_or earlier n 0 = get_or_append_left earlier (more ∷ []) 0 n is.2 in
    let long : length (earlier ++ more ∷ []) ≡ length earlier + 1 = length_push earlier more in
    let low : n < length earlier = is.2 in
    (is.0, is.1, omega (arith, low, long), subst (λ k. k < n) (sym same) is.3, subst (λ k. IsChain (earlier ++ more ∷ []) c k ns) (sym same) (chain-stays earlier more c (get_or earlier n 0) ns is.4))

pub chain-below : (earlier : List ℕ) (c at m : ℕ) (ns : List ℕ) → c < m → length earlier ≤ m → IsChain earlier c at ns → at < m
chain-below earlier c at m [] lt le is = let e : at ≡ c = is in omega (arith, e, lt)
chain-below earlier c at m (n ∷ ns) lt le is = let e : at ≡ n = is.0 in let low : n < length earlier = is.2 in omega (arith, e, low, le)

module _ (E : Log) (a b : Additions) (line : Line) (n t : ℕ) (is : AreAdditions E a) (number : n ≡ length E) (within : t ≤ n)
    (last : b.last.items ≡ set (a.last.items ++ n ∷ []) t n) (earlier : b.earlier.items ≡ a.earlier.items ++ get_or (a.last.items ++ n ∷ []) t 0 ∷ []) where
  abbrev lasts : List ℕ
  lasts = a.last.items ++ n ∷ []

  abbrev before : ℕ
  before = get_or lasts t 0

  last-count : length a.last.items ≡ n
  last-count = is.last ∙ sym number

  earlier-count : length a.earlier.items ≡ n
  earlier-count = is.earlier ∙ sym number

  lasts-count : length lasts ≡ n + 1
  lasts-count = length_push a.last.items n ∙ ap (λ k. k + 1) last-count

  read-front : (c : ℕ) → c < n → get_or lasts c 0 ≡ get_or a.last.items c 0
  read-front c lt = get_or_append_left a.last.items (n ∷ []) 0 c (let same = last-count in omega (arith, lt, same))

  read-other : (c : ℕ) → c ≢ t → get_or b.last.items c 0 ≡ get_or lasts c 0
  read-other c other = ap (λ xs. get_or xs c 0) last ∙ get_or-set_other lasts t c n 0 other

  read-same : get_or b.last.items t 0 ≡ n
  read-same = ap (λ xs. get_or xs t 0) last ∙ get_or-set_same lasts t n 0 (let long = lasts-count in omega (arith, within, long))

  chained : (c at : ℕ) (ns : List ℕ) → get_or b.last.items c 0 ≡ at → adding c (line ∷ E) ≡ ns → IsChain (a.earlier.items ++ before ∷ []) c at ns → IsChain b.earlier.items c (get_or b.last.items c 0) (adding c (line ∷ E))
  chained c at ns here are chain = subst (λ es. IsChain es c (get_or b.last.items c 0) (adding c (line ∷ E))) (sym earlier)
      (subst (λ k. IsChain (a.earlier.items ++ before ∷ []) c k (adding c (line ∷ E))) (sym here) (subst (IsChain (a.earlier.items ++ before ∷ []) c at) (sym are) chain))

  old-chain : (c : ℕ) → c < n → IsChain a.earlier.items c (get_or a.last.items c 0) (adding c E)
  old-chain c lt = is.chains c (omega (arith, lt, number))

  -- a class to which the line doesn't add
  other-chain : (c : ℕ) → c < n → c ≢ t → adding c (line ∷ E) ≡ adding c E → IsChain b.earlier.items c (get_or b.last.items c 0) (adding c (line ∷ E))
  other-chain c lt other same = chained c (get_or a.last.items c 0) (adding c E) (read-other c other ∙ read-front c lt) same (chain-stays a.earlier.items before c (get_or a.last.items c 0) (adding c E) (old-chain c lt))

  -- the line itself, to which none adds
  own-chain : get_or b.last.items n 0 ≡ n → adding n (line ∷ E) ≡ adding n E → IsChain b.earlier.items n (get_or b.last.items n 0) (adding n (line ∷ E))
  own-chain here same = chained n n [] here (same ∙ is.later n (omega (arith, number))) refl

  noted : ((c : ℕ) → c < length (line ∷ E) → IsChain b.earlier.items c (get_or b.last.items c 0) (adding c (line ∷ E))) → ((c : ℕ) → length (line ∷ E) ≤ c → adding c (line ∷ E) ≡ adding c E) → AreAdditions (line ∷ E) b
  noted chains same = record {
    last = let long : length b.last.items ≡ n + 1 = ap length last ∙ length-set lasts t n ∙ lasts-count in omega (arith, long, number);
    earlier = let long : length b.earlier.items ≡ n + 1 = ap length earlier ∙ length_push a.earlier.items before ∙ ap (λ k. k + 1) earlier-count in omega (arith, long, number);
    chains = chains;
    later = λ c le. same c le ∙ is.later c (let up : suc (length E) ≤ c = le in omega (arith, up));
  }

  pub noted-idle : t ≡ n → ((c : ℕ) → adding c (line ∷ E) ≡ adding c E) → AreAdditions (line ∷ E) b
  noted-idle own same = noted (λ c lt. elim (cases_order c n) [
    | inl e ↦ subst (λ k. IsChain b.earlier.items k (get_or b.last.items k 0) (adding k (line ∷ E))) (sym e) (own-chain (ap (λ k. get_or b.last.items k 0) (sym own) ∙ read-same) (same n))
    | inr other ↦ elim other [
      | inl less ↦ other-chain c less (λ e. absurd (omega (arith, e, own, less))) (same c)
      | inr gt ↦ absurd (let up : c < suc (length E) = lt in omega (arith, up, gt, number))
    ]
  ]) (λ c le. same c)

  pub noted-adds : t < n → ((c : ℕ) → adding c (line ∷ E) ≡ (if c == t then length E ∷ adding c E else adding c E)) → AreAdditions (line ∷ E) b
  noted-adds less more = noted (λ c lt. elim (cases_order c t) [
    | inl e ↦ subst (λ k. IsChain b.earlier.items k (get_or b.last.items k 0) (adding k (line ∷ E))) (sym e) to-class
    | inr other ↦ elim (cases_order c n) [
      | inl own ↦ subst (λ k. IsChain b.earlier.items k (get_or b.last.items k 0) (adding k (line ∷ E))) (sym own) (own-chain (read-other n (λ e. omega (arith, e, less)) ∙ get_or_push a.last.items n 0 n last-count) (not-to n (λ e. omega (arith, e, less))))
      | inr apart ↦ elim apart [
        | inl low ↦ let others : c ≢ t = either c other in other-chain c low others (not-to c others)
        | inr gt ↦ absurd (let up : c < suc (length E) = lt in omega (arith, up, gt, number))
      ]
    ]
  ]) (λ c le. not-to c (λ e. let up : suc (length E) ≤ c = le in omega (arith, up, e, less, number)))
    where
      not-to : (c : ℕ) → c ≢ t → adding c (line ∷ E) ≡ adding c E
      not-to c other = more c ∙ ap (λ b. if b then length E ∷ adding c E else adding c E) (ne_eqb c t other)

      either : (c : ℕ) → (c < t) ⊎ (t < c) → c ≢ t
      either c (inl lt) e = omega (arith, lt, e)
      either c (inr gt) e = omega (arith, gt, e)

      before-is : before ≡ get_or a.last.items t 0
      before-is = read-front t less

      here : get_or (a.earlier.items ++ before ∷ []) n 0 ≡ get_or a.last.items t 0
      here = get_or_push a.earlier.items before 0 n earlier-count ∙ before-is

      to-class : IsChain b.earlier.items t (get_or b.last.items t 0) (adding t (line ∷ E))
      to-class = chained t n (n ∷ adding t E) read-same
          (more t ∙ ap (λ b. if b then length E ∷ adding t E else adding t E) (eq-eqb t t refl) ∙ ap (λ k. k ∷ adding t E) (sym number)) (
            refl,
            less,
            (let long : length (a.earlier.items ++ before ∷ []) ≡ length a.earlier.items + 1 = length_push a.earlier.items before in let same = earlier-count in omega (arith, long, same)),
            subst (λ k. k < n) (sym here) (chain-below a.earlier.items t (get_or a.last.items t 0) n (adding t E) less (let same = earlier-count in omega (arith, same)) (old-chain t less)),
            subst (λ k. IsChain (a.earlier.items ++ before ∷ []) t k (adding t E)) (sym here) (chain-stays a.earlier.items before t (get_or a.last.items t 0) (adding t E) (old-chain t less)),
          )

-- the same lists
pub kept_additions : (E : Log) (a b : Additions) → AreAdditions E a → b.last.items ≡ a.last.items → b.earlier.items ≡ a.earlier.items → AreAdditions E b
kept_additions E a b is last earlier = record {
  last = ap length last ∙ is.last;
  earlier = ap length earlier ∙ is.earlier;
  chains = λ c lt. subst (λ es. IsChain es c (get_or b.last.items c 0) (adding c E)) (sym earlier) (subst (λ ls. IsChain a.earlier.items c (get_or ls c 0) (adding c E)) (sym last) (is.chains c lt));
  later = is.later;
}

-- the class to which a line adds stands before it
pub target-within : (E : Log) (line : Line) (n : ℕ) → NamesEarlier E line → n ≡ length E → target n line ≤ n
target-within E (Founds x) n names is = omega arith
target-within E (Adds g s x) n names is = let lt : g < length E = names in omega (arith, lt, is)
target-within E (Unites g h s) n names is = omega arith
target-within E (Alike i j) n names is = omega arith
target-within E (Gives g m f) n names is = omega arith

pub added : (E : Log) (a b : Additions) (line : Line) (n : ℕ) → AreAdditions E a → NamesEarlier E line → n ≡ length E
    → b.last.items ≡ set (a.last.items ++ n ∷ []) (target n line) n → b.earlier.items ≡ a.earlier.items ++ get_or (a.last.items ++ n ∷ []) (target n line) 0 ∷ [] → AreAdditions (line ∷ E) b
added E a b (Founds x) n is names number last earlier = noted-idle E a b (Founds x) n n is number (omega arith) last earlier refl (λ c. refl)
added E a b (Adds g s x) n is names number last earlier =
    let lt : g < length E = names in
    noted-adds E a b (Adds g s x) n g is number (omega (arith, lt, number)) last earlier (omega (arith, lt, number)) (λ c. refl)
added E a b (Unites g h s) n is names number last earlier = noted-idle E a b (Unites g h s) n n is number (omega arith) last earlier refl (λ c. refl)
added E a b (Alike i j) n is names number last earlier = noted-idle E a b (Alike i j) n n is number (omega arith) last earlier refl (λ c. refl)
added E a b (Gives g m f) n is names number last earlier = noted-idle E a b (Gives g m f) n n is number (omega arith) last earlier refl (λ c. refl)
