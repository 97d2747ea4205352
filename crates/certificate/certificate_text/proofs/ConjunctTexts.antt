-- The texts of conjuncts, as a list is cut into them.
use Rattle.std.proofs.Common.{◌≡◌, ℕ, zero, suc, ◌==◌, inl, inr, ◌⊎◌, Bool, true, not, ◌&&◌, List, [], ◌∷◌, ◌++◌, length, get_or, drop, map, flat_map, refl, sym, ◌∙◌, ap, subst, arith, append_assoc, append-nil, codes}
use Rattle.std.proofs.lemmas.Bool.{and_parts}
use Rattle.std.proofs.lemmas.Bool.Decides.{nat_tests}
use Rattle.std.specs.List.{AllByRecursion, join_by, join_with_byte, list_all, slice_split}
use Rattle.std.proofs.lemmas.List.Splits.{slice_split_none, slice_split_at, length-slice_split, join_with_byte-slice_split}
use Rattle.values.specs.declared.truth.Comparison.{Comparison}
use Rattle.values.specs.declared.truth.Comparison.TheVariants as op
use Rattle.algebra.specs.declared.condition.Condition.{Condition, roll-Condition, ind-Condition, map-Condition}
use Rattle.algebra.specs.declared.condition.Condition.TheOpen.{Condition-F}
use Rattle.algebra.specs.declared.condition.Term.TheVariants as term
use Rattle.algebra.specs.ConjunctOrder.{comparison_text, condition_text, listed}
use Rattle.certificate_text.specs.Conditions.{IsReadable, terms_of}
use Rattle.certificate_text.specs.ConditionReading.{part_condition_text, more_text, IsWithin, IsTooDeep, BehindParts, parts_text}
use Rattle.certificate_text.specs.ListReading.{part_conjuncts_text, part_ended, separate_text}
use Rattle.certificate_text.specs.Numerals.{numeral}
use Rattle.certificate_text.specs.PartTexts.{Text, is_graphic, lacks, part_term_text}
use Rattle.certificate_text.specs.Spelled.{HasText, is_lower_hex}
use Rattle.certificate_text.proofs.Lacking.{pass_both, pass_more, passing_lack, lacks_at, lacks_both, each_lacks}
use Rattle.certificate_text.proofs.FrontConditions.{part-at, terms-at, all_split, listed-more}
use Rattle.certificate_text.proofs.TermParts.{part_term_passes, numeral_passes}
use Rattle.certificate_text.proofs.WideConditions.{conditions_same}

-- ---- a condition has characters of ASCII that can be seen, and no semicolon

abbrev is_inner : ℕ → Bool
is_inner b = is_graphic b && not (b == 59)

hex_inner : (b : ℕ) → is_lower_hex b ≡ true → is_inner b ≡ true
hex_inner b h = grind (arith, nat_tests)

term_inner : (t : term.the_data) → HasText t → list_all is_inner (part_term_text t) ≡ true
term_inner = part_term_passes is_inner hex_inner (refl, refl, refl, refl, refl)

sign_inner : (c : Comparison) → list_all is_inner (comparison_text c) ≡ true
sign_inner op.Equal = refl
sign_inner op.NotEqual = refl
sign_inner op.Less = refl
sign_inner op.LessOrEqual = refl
sign_inner op.Greater = refl
sign_inner op.GreaterOrEqual = refl

abbrev Inner : Condition → Type 0
Inner c = AllByRecursion HasText (terms_of c) → list_all is_inner (part_condition_text c) ≡ true

abbrev Part : Type 0
Part = (c : Condition) × Inner c

number_inner : (n : ℕ) → list_all is_inner (numeral n) ≡ true
number_inner = numeral_passes is_inner hex_inner (refl, refl, refl, refl, refl)

more_inner : (ps : List Part) → AllByRecursion HasText (flat_map (λ c. c) (map terms_of (map (λ p. p.0) ps))) → list_all is_inner (more_text (map (λ p. p.0) ps)) ≡ true
more_inner [] s = refl
more_inner (p ∷ ps) s =
    let terms = all_split HasText (terms_of p.0) (flat_map (λ c. c) (map terms_of (map (λ p. p.0) ps))) s in
    pass_both is_inner (codes "," ++ part_condition_text p.0) (more_text (map (λ p. p.0) ps)) (p.1 terms.0) (more_inner ps terms.1)

parts_inner : (p q : Part) (ps : List Part) → AllByRecursion HasText (flat_map (λ c. c) (map terms_of (map (λ p. p.0) (p ∷ q ∷ ps)))) → list_all is_inner (listed (map part_condition_text (map (λ p. p.0) (p ∷ q ∷ ps))) ++ codes ")") ≡ true
parts_inner p q ps s =
    let terms = all_split HasText (terms_of p.0) (flat_map (λ c. c) (map terms_of (map (λ p. p.0) (q ∷ ps)))) s in
    pass_both is_inner (listed (map part_condition_text (map (λ p. p.0) (p ∷ q ∷ ps)))) (codes ")")
    (ap (list_all is_inner) (listed-more p.0 (map (λ p. p.0) (q ∷ ps))) ∙ pass_both is_inner (part_condition_text p.0) (more_text (map (λ p. p.0) (q ∷ ps))) (p.1 terms.0) (more_inner (q ∷ ps) terms.1)) refl

inner-layer : (y : Condition-F Part) (c : Condition) → roll-Condition (map-Condition Part Condition (λ p. p.0) y) ≡ c → Inner c
inner-layer (Condition-F.Compare c a b) d is s =
    let terms = subst (AllByRecursion HasText) (terms-at (Condition-F.Compare c a b) d is) s in
    ap (list_all is_inner) (part-at (Condition-F.Compare c a b) d is)
    ∙ pass_both is_inner (comparison_text c) _ (sign_inner c) (pass_both is_inner (part_term_text a) _ (term_inner a terms.0) (pass_both is_inner (part_term_text b) (codes ")") (term_inner b terms.1.0) refl))
inner-layer (Condition-F.IsNull a) d is s =
    let terms = subst (AllByRecursion HasText) (terms-at (Condition-F.IsNull a) d is) s in
    ap (list_all is_inner) (part-at (Condition-F.IsNull a) d is) ∙ pass_both is_inner (part_term_text a) (codes ")") (term_inner a terms.0) refl
inner-layer (Condition-F.Not p) d is s =
    ap (list_all is_inner) (part-at (Condition-F.Not p.0) d is) ∙ pass_both is_inner (part_condition_text p.0) (codes ")") (p.1 (subst (AllByRecursion HasText) (terms-at (Condition-F.Not p.0) d is) s)) refl
inner-layer (Condition-F.And p q ps) d is s =
    ap (list_all is_inner) (part-at (Condition-F.And p.0 q.0 (map (λ p. p.0) ps)) d is) ∙ parts_inner p q ps (subst (AllByRecursion HasText) (terms-at (Condition-F.And p.0 q.0 (map (λ p. p.0) ps)) d is) s)
inner-layer (Condition-F.Or p q ps) d is s =
    ap (list_all is_inner) (part-at (Condition-F.Or p.0 q.0 (map (λ p. p.0) ps)) d is) ∙ parts_inner p q ps (subst (AllByRecursion HasText) (terms-at (Condition-F.Or p.0 q.0 (map (λ p. p.0) ps)) d is) s)
inner-layer (Condition-F.Exists g) d is s =
    ap (list_all is_inner) (part-at (Condition-F.Exists g) d is) ∙ pass_both is_inner (numeral g) (codes ")") (number_inner g) refl
inner-layer (Condition-F.In a g k) d is s =
    let terms = subst (AllByRecursion HasText) (terms-at (Condition-F.In a g k) d is) s in
    ap (list_all is_inner) (part-at (Condition-F.In a g k) d is)
    ∙ pass_both is_inner (part_term_text a) _ (term_inner a terms.0) (pass_both is_inner (numeral g) _ (number_inner g) (pass_both is_inner (numeral k) (codes ")") (number_inner k) refl))

condition_inner : (c : Condition) → Inner c
condition_inner = ind-Condition Inner (λ x y is. subst (λ z. Inner (roll-Condition z)) is (inner-layer y _ refl))

pub condition_lacks : (c : Condition) → AllByRecursion HasText (terms_of c) → lacks 59 (part_condition_text c) ≡ true
condition_lacks c h = passing_lack is_inner 59 (part_condition_text c) refl (condition_inner c h)

pub part_graphic : (c : Condition) → AllByRecursion HasText (terms_of c) → list_all is_graphic (part_condition_text c) ≡ true
part_graphic c h = pass_more is_inner is_graphic (λ b inner. (and_parts (is_graphic b) (not (b == 59)) inner).0) (part_condition_text c) (condition_inner c h)

pub condition_graphic : (room : ℕ) (c : Condition) → IsReadable room c → list_all is_graphic (condition_text c) ≡ true
condition_graphic room c h = let same = conditions_same room c h in ap (list_all is_graphic) (sym same.0) ∙ part_graphic c same.1.1

-- ---- the parts of a list

pub list_cut : (room : ℕ) (c : Condition) (C : List Condition) → AllByRecursion (IsWithin room) (c ∷ C) → slice_split (λ b. b == 59) (join_by part_condition_text (codes ";") (c ∷ C) ++ codes "]") ≡ part_ended (c ∷ C)
list_cut room c [] h =
    ap (λ t. slice_split (λ b. b == 59) (t ++ codes "]")) (append-nil (part_condition_text c))
    ∙ slice_split_none (λ b. b == 59) (part_condition_text c ++ codes "]") (each_lacks 59 (part_condition_text c ++ codes "]") (lacks_both 59 (part_condition_text c) (codes "]") (condition_lacks c h.0.1) refl))
list_cut room c (d ∷ C) h =
    ap (slice_split (λ b. b == 59)) (append_assoc (part_condition_text c) (59 ∷ join_by part_condition_text (codes ";") (d ∷ C)) (codes "]"))
    ∙ slice_split_at (λ b. b == 59) (part_condition_text c) 59 (join_by part_condition_text (codes ";") (d ∷ C) ++ codes "]") (each_lacks 59 (part_condition_text c) (condition_lacks c h.0.1)) refl
    ∙ ap (λ ts. part_condition_text c ∷ ts) (list_cut room d C h.1)

-- joined again, the parts are the list
ended_front : (d : Condition) (C : List Condition) → (t : Text) × (ts : List Text) × (part_ended (d ∷ C) ≡ t ∷ ts)
ended_front d [] = (part_condition_text d ++ codes "]", [], refl)
ended_front d (e ∷ C) = (part_condition_text d, part_ended (e ∷ C), refl)

join_more : (t : Text) (ts : List Text) → (u : Text) × (us : List Text) × (ts ≡ u ∷ us) → join_with_byte 59 (t ∷ ts) ≡ t ++ (59 ∷ join_with_byte 59 ts)
join_more t ts (u, us, e) = ap (λ ts. join_with_byte 59 (t ∷ ts)) e ∙ ap (λ ts. t ++ (59 ∷ join_with_byte 59 ts)) (sym e)

joined_ended : (c : Condition) (C : List Condition) → join_with_byte 59 (part_ended (c ∷ C)) ≡ join_by part_condition_text (codes ";") (c ∷ C) ++ codes "]"
joined_ended c [] = ap (λ t. t ++ codes "]") (sym (append-nil (part_condition_text c)))
joined_ended c (d ∷ C) =
    join_more (part_condition_text c) (part_ended (d ∷ C)) (ended_front d C) ∙ ap (λ t. part_condition_text c ++ (59 ∷ t)) (joined_ended d C) ∙ sym (append_assoc (part_condition_text c) (59 ∷ join_by part_condition_text (codes ";") (d ∷ C)) (codes "]"))

pub list_joined : (w : Text) (C : List Condition) → slice_split (λ b. b == 59) w ≡ part_ended C → 91 ∷ w ≡ part_conjuncts_text C
list_joined w [] e = let l = length-slice_split (λ b. b == 59) w in absurd (omega (arith, l, ap length e))
list_joined w (c ∷ C) e = ap (λ t. 91 ∷ t) (sym (join_with_byte-slice_split 59 w) ∙ ap (join_with_byte 59) e ∙ joined_ended c C)

-- behind conjuncts with their semicolons stand the parts of what is left
pub separate_cut : (room : ℕ) (C : List Condition) (w : Text) → AllByRecursion (IsWithin room) C → slice_split (λ b. b == 59) (separate_text C ++ w) ≡ map part_condition_text C ++ slice_split (λ b. b == 59) w
separate_cut room [] w h = refl
separate_cut room (c ∷ C) w h =
    ap (slice_split (λ b. b == 59)) (append_assoc (part_condition_text c ++ codes ";") (separate_text C) w ∙ append_assoc (part_condition_text c) (codes ";") (separate_text C ++ w))
    ∙ slice_split_at (λ b. b == 59) (part_condition_text c) 59 (separate_text C ++ w) (each_lacks 59 (part_condition_text c) (condition_lacks c h.0.1)) refl ∙ ap (λ ts. part_condition_text c ∷ ts) (separate_cut room C w h.1)

joined_separate : (C : List Condition) (t : Text) (ts : List Text) → join_with_byte 59 (map part_condition_text C ++ (t ∷ ts)) ≡ separate_text C ++ join_with_byte 59 (t ∷ ts)
joined_separate [] t ts = refl
joined_separate (c ∷ []) t ts = sym (append_assoc (part_condition_text c ++ codes ";") [] (join_with_byte 59 (t ∷ ts)) ∙ append_assoc (part_condition_text c) (codes ";") (join_with_byte 59 (t ∷ ts)))
joined_separate (c ∷ d ∷ C) t ts =
    ap (λ w. part_condition_text c ++ (59 ∷ w)) (joined_separate (d ∷ C) t ts)
    ∙ sym (append_assoc (part_condition_text c ++ codes ";") (separate_text (d ∷ C)) (join_with_byte 59 (t ∷ ts)) ∙ append_assoc (part_condition_text c) (codes ";") (separate_text (d ∷ C) ++ join_with_byte 59 (t ∷ ts)))

pub separate_joined : (w : Text) (C : List Condition) (t : Text) (ts : List Text) → slice_split (λ b. b == 59) w ≡ map part_condition_text C ++ (t ∷ ts) → w ≡ separate_text C ++ join_with_byte 59 (t ∷ ts)
separate_joined w C t ts e = sym (join_with_byte-slice_split 59 w) ∙ ap (join_with_byte 59) e ∙ joined_separate C t ts

-- ---- a condition that is too deep stands in a part

front_part : (ts : List Text) (t : Text) → (u : Text) × (join_with_byte 59 (t ∷ ts) ≡ t ++ u)
front_part [] t = ([], sym (append-nil t))
front_part (s ∷ ts) t = (59 ∷ join_with_byte 59 (s ∷ ts), refl)

pub deep_longer : (room : ℕ) (t u : Text) → IsTooDeep room t → IsTooDeep room (t ++ u)
deep_longer zero t u h = tt
deep_longer (suc room) t u (inl h) = inl (h.0 ++ u, ap (λ t. t ++ u) h.1, deep_longer room h.0 u h.2)
deep_longer (suc room) t u (inr h) = inr (h.0 ++ u, longer h.1, (h.2.0, h.2.1 ++ u, ap (λ t. t ++ u) h.2.2 ∙ append_assoc (parts_text h.2.0) h.2.1 u, h.2.3, deep_longer room h.2.1 u h.2.4)) where
  longer : (t ≡ codes "and(" ++ h.0) ⊎ (t ≡ codes "or(" ++ h.0) → (t ++ u ≡ codes "and(" ++ (h.0 ++ u)) ⊎ (t ++ u ≡ codes "or(" ++ (h.0 ++ u))
  longer (inl e) = inl (ap (λ t. t ++ u) e)
  longer (inr e) = inr (ap (λ t. t ++ u) e)

pub deep_joined : (room : ℕ) (t : Text) (ts : List Text) → IsTooDeep room t → IsTooDeep room (join_with_byte 59 (t ∷ ts))
deep_joined room t ts h = let it = front_part ts t in subst (IsTooDeep room) (sym it.1) (deep_longer room t it.0 h)

-- a text that lacks the character, in front of one that is cut at it
lacking_front : (c : ℕ) (p t rest u : Text) → lacks c p ≡ true → p ++ rest ≡ t ++ (c ∷ u) → (s : Text) × (t ≡ p ++ s) × (rest ≡ s ++ (c ∷ u))
lacking_front c [] t rest u free e = (t, refl, e)
lacking_front c (b ∷ p) [] rest u free e = absurd (lacks_at c (b ∷ p) free 0 (omega arith) (ap (λ w. get_or w 0 0) e))
lacking_front c (b ∷ p) (d ∷ t) rest u free e =
    let more = lacking_front c p t rest u (and_parts _ _ free).1 (ap (drop 1) e) in
    (more.0, (λ i. ap (λ w. get_or w 0 0) (sym e) i ∷ more.1 i), more.2)

parts_lack : (room : ℕ) (cs : List Condition) → AllByRecursion (IsWithin room) cs → lacks 59 (parts_text cs) ≡ true
parts_lack room [] h = refl
parts_lack room (c ∷ cs) h = lacks_both 59 (part_condition_text c ++ codes ",") (parts_text cs) (lacks_both 59 (part_condition_text c) (codes ",") (condition_lacks c h.0.1) refl) (parts_lack room cs h.1)

behind_front : (room : ℕ) → ((t u : Text) → IsTooDeep room (t ++ (59 ∷ u)) → IsTooDeep room t) → (w s u : Text) → w ≡ s ++ (59 ∷ u) → BehindParts room (IsTooDeep room) w → BehindParts room (IsTooDeep room) s
behind_front room front w s u is (cs, rest, e, all, too) =
    let it = lacking_front 59 (parts_text cs) s rest u (parts_lack room cs all) (sym e ∙ is) in
    (cs, it.0, it.1, all, front it.0 u (subst (IsTooDeep room) it.2 too))

pub deep_front : (room : ℕ) (t u : Text) → IsTooDeep room (t ++ (59 ∷ u)) → IsTooDeep room t
deep_front zero t u h = tt
deep_front (suc room) t u (inl h) =
    let it = lacking_front 59 (codes "not(") t h.0 u refl (sym h.1) in
    inl (it.0, it.1, deep_front room it.0 u (subst (IsTooDeep room) it.2 h.2))
deep_front (suc room) t u (inr h) = elim h.1 [
  | inl e ↦
      let it = lacking_front 59 (codes "and(") t h.0 u refl (sym e) in
      inr (it.0, inl it.1, behind_front room (deep_front room) h.0 it.0 u it.2 h.2)
  | inr e ↦
      let it = lacking_front 59 (codes "or(") t h.0 u refl (sym e) in
      inr (it.0, inr it.1, behind_front room (deep_front room) h.0 it.0 u it.2 h.2)
]

-- ---- the first part of what is left

pub first_part : (w : Text) → (t : Text) × (ts : List Text) × (slice_split (λ b. b == 59) w ≡ t ∷ ts)
first_part w = by (slice_split (λ b. b == 59) w) refl where
  by : (parts : List Text) → slice_split (λ b. b == 59) w ≡ parts → (t : Text) × (ts : List Text) × (slice_split (λ b. b == 59) w ≡ t ∷ ts)
  by [] e = let l = length-slice_split (λ b. b == 59) w in absurd (omega (arith, l, ap length e))
  by (t ∷ ts) e = (t, ts, e)

-- a text that is too deep is so in its first part
pub deep_first : (room : ℕ) (w t : Text) (ts : List Text) → slice_split (λ b. b == 59) w ≡ t ∷ ts → IsTooDeep room w → IsTooDeep room t
deep_first room w t [] e deep = subst (IsTooDeep room) (sym (join_with_byte-slice_split 59 w) ∙ ap (join_with_byte 59) e) deep
deep_first room w t (s ∷ ts) e deep = deep_front room t (join_with_byte 59 (s ∷ ts)) (subst (IsTooDeep room) (sym (join_with_byte-slice_split 59 w) ∙ ap (join_with_byte 59) e) deep)
