-- What stands behind the parenthesis of a condition's form, in its text with numbers of any size.
use Rattle.std.proofs.Common.{◌≡◌, ℕ, ◌+◌, ◌-◌, Bool, true, List, [], ◌∷◌, ◌++◌, map, flat_map, ◌≤◌, refl, sym, ◌∙◌, ap, subst, arith, append_assoc, codes}
use Rattle.std.proofs.lemmas.Bool.{and_parts, ltb-true}
use Rattle.std.specs.List.{list_all, AllByRecursion}
use Rattle.algebra.specs.declared.condition.Condition.{Condition, roll-Condition, out-Condition, roll-out-Condition, fold-roll-Condition, map-Condition}
use Rattle.algebra.specs.declared.condition.Condition.TheVariants.{Compare, IsNull, Not, And, Or, Exists, In, rolls-Compare, rolls-IsNull, rolls-Not, rolls-And, rolls-Or, rolls-Exists, rolls-In}
use Rattle.algebra.specs.declared.condition.Condition.TheOpen.{Condition-F}
use Rattle.algebra.specs.declared.condition.Term.{Term}
use Rattle.algebra.specs.declared.condition.Term.TheVariants as term
use Rattle.algebra.specs.ConjunctOrder.{listed}
use Rattle.certificate_text.specs.declared.conditions.Form.{Form}
use Rattle.certificate_text.specs.declared.conditions.Form.TheVariants as form
use Rattle.certificate_text.specs.Conditions.{form_text, terms_layer, terms_of, nests_layer, nests_within}
use Rattle.certificate_text.specs.ConditionReading.{part_text_layer, part_condition_text, more_text}
use Rattle.certificate_text.specs.Numerals.{numeral}
use Rattle.certificate_text.specs.PartTexts.{Text, part_term_text}

-- ---- layers

pub part-at : (x : Condition-F Condition) (c : Condition) → roll-Condition x ≡ c → part_condition_text c ≡ part_text_layer (map-Condition Condition Text part_condition_text x)
unfolding part_condition_text
part-at x c is = ap part_condition_text (sym is) ∙ fold-roll-Condition Text part_text_layer x

pub nests-at : (x : Condition-F Condition) (c : Condition) (room : ℕ) → roll-Condition x ≡ c → nests_within c room ≡ nests_layer (map-Condition Condition (ℕ → Bool) nests_within x) room
unfolding nests_within
nests-at x c room is = ap (λ c. nests_within c room) (sym is) ∙ ap (λ f. f room) (fold-roll-Condition (ℕ → Bool) nests_layer x)

pub terms-at : (x : Condition-F Condition) (c : Condition) → roll-Condition x ≡ c → terms_of c ≡ terms_layer (map-Condition Condition (List Term) terms_of x)
unfolding terms_of
terms-at x c is = ap terms_of (sym is) ∙ fold-roll-Condition (List Term) terms_layer x

-- ---- parts

pub all_split : {X : Type 0} (P : X → Type 0) (xs ys : List X) → AllByRecursion P (xs ++ ys) → AllByRecursion P xs × AllByRecursion P ys
all_split P [] ys h = (tt, h)
all_split P (x ∷ xs) ys h = let more = all_split P xs ys h.1 in ((h.0, more.0), more.1)

-- there is room for it, and its terms are such
abbrev pub IsOf : (Term → Type 0) → ℕ → Condition → Type 0
IsOf Is room c = (nests_within c room ≡ true) × AllByRecursion Is (terms_of c)

each_of : (Is : Term → Type 0) (room : ℕ) (cs : List Condition) → list_all (λ c. c room) (map nests_within cs) ≡ true → AllByRecursion Is (flat_map (λ c. c) (map terms_of cs)) → AllByRecursion (IsOf Is room) cs
each_of Is room [] h s = tt
each_of Is room (c ∷ cs) h s =
    let nests = and_parts (nests_within c room) (list_all (λ c. c room) (map nests_within cs)) h in
    let terms = all_split Is (terms_of c) (flat_map (λ c. c) (map terms_of cs)) s in
    ((nests.0, terms.0), each_of Is room cs nests.1 terms.1)

pub one-less : (room : ℕ) → (room + 1) - 1 ≡ room
one-less room = omega arith

more-texts : (cs : List Condition) → flat_map (λ t. codes "," ++ t) (map part_condition_text cs) ≡ more_text cs
more-texts [] = refl
more-texts (c ∷ cs) = ap (λ t. (codes "," ++ part_condition_text c) ++ t) (more-texts cs)

pub listed-more : (a : Condition) (cs : List Condition) → listed (part_condition_text a ∷ map part_condition_text cs) ≡ part_condition_text a ++ more_text cs
listed-more a cs = ap (λ t. part_condition_text a ++ t) (more-texts cs)

-- ---- what stands behind the parenthesis, before the rest

abbrev pub Joined : (Term → Type 0) → ℕ → (Condition → Condition → List Condition → Condition) → Text → Condition → Text → Type 0
Joined Is room join w c rest = (a : Condition) × (b : Condition) × (cs : List Condition) × IsOf Is room a × IsOf Is room b × AllByRecursion (IsOf Is room) cs × (c ≡ join a b cs) × (w ≡ part_condition_text a ++ (44 ∷ (part_condition_text b ++ (more_text cs ++ (41 ∷ rest)))))

abbrev pub Body : (Term → Type 0) → ℕ → Form → Text → Condition → Text → Type 0
Body Is room form.Not w c rest = (d : Condition) × IsOf Is room d × (c ≡ Not d) × (w ≡ part_condition_text d ++ (41 ∷ rest))
Body Is room form.And w c rest = Joined Is room And w c rest
Body Is room form.Or w c rest = Joined Is room Or w c rest
Body Is room form.IsNull w c rest = (a : Term) × Is a × (c ≡ IsNull a) × (w ≡ part_term_text a ++ (41 ∷ rest))
Body Is room form.Exists w c rest = (g : ℕ) × Is (term.Column g) × (c ≡ Exists g) × (w ≡ numeral g ++ (41 ∷ rest))
Body Is room form.In w c rest = (a : Term) × (g : ℕ) × (k : ℕ) × Is a × Is (term.Column g) × Is (term.Column k) × (c ≡ In a g k) × (w ≡ part_term_text a ++ (44 ∷ (numeral g ++ (44 ∷ (99 ∷ (numeral k ++ (41 ∷ rest)))))))
Body Is room (form.Compare op) w c rest = (a : Term) × (b : Term) × Is a × Is b × (c ≡ Compare op a b) × (w ≡ part_term_text a ++ (44 ∷ (part_term_text b ++ (41 ∷ rest))))

abbrev Opened : (Term → Type 0) → ℕ → Condition → Text → Type 0
Opened Is room c rest = (f : Form) × (w : Text) × (part_condition_text c ++ rest ≡ form_text f ++ (40 ∷ w)) × Body Is room f w c rest

member_text : (t u v rest : Text) → (t ++ (44 ∷ (u ++ (44 ∷ (99 ∷ (v ++ (41 ∷ []))))))) ++ rest ≡ t ++ (44 ∷ (u ++ (44 ∷ (99 ∷ (v ++ (41 ∷ rest))))))
member_text t u v rest = simp append_assoc

-- ---- the text of each form

module _ (rest : Text) where
  pub compare-text : (op : _) (a b : Term) → part_condition_text (Compare op a b) ++ rest ≡ form_text (form.Compare op) ++ (40 ∷ (part_term_text a ++ (44 ∷ (part_term_text b ++ (41 ∷ rest)))))
  compare-text op a b = rw (part-at (Condition-F.Compare op a b) (Compare op a b) (rolls-Compare op a b)) (simp append_assoc)

  pub null-text : (a : Term) → part_condition_text (IsNull a) ++ rest ≡ form_text form.IsNull ++ (40 ∷ (part_term_text a ++ (41 ∷ rest)))
  null-text a = rw (part-at (Condition-F.IsNull a) (IsNull a) (rolls-IsNull a)) (simp append_assoc)

  pub not-text : (d : Condition) → part_condition_text (Not d) ++ rest ≡ form_text form.Not ++ (40 ∷ (part_condition_text d ++ (41 ∷ rest)))
  not-text d = rw (part-at (Condition-F.Not d) (Not d) (rolls-Not d)) (simp append_assoc)

  pub and-text : (a b : Condition) (cs : List Condition) → part_condition_text (And a b cs) ++ rest ≡ form_text form.And ++ (40 ∷ (part_condition_text a ++ (44 ∷ (part_condition_text b ++ (more_text cs ++ (41 ∷ rest))))))
  and-text a b cs = rw (part-at (Condition-F.And a b cs) (And a b cs) (rolls-And a b cs), listed-more a (b ∷ cs)) (simp append_assoc)

  pub or-text : (a b : Condition) (cs : List Condition) → part_condition_text (Or a b cs) ++ rest ≡ form_text form.Or ++ (40 ∷ (part_condition_text a ++ (44 ∷ (part_condition_text b ++ (more_text cs ++ (41 ∷ rest))))))
  or-text a b cs = rw (part-at (Condition-F.Or a b cs) (Or a b cs) (rolls-Or a b cs), listed-more a (b ∷ cs)) (simp append_assoc)

  pub exists-text : (g : ℕ) → part_condition_text (Exists g) ++ rest ≡ form_text form.Exists ++ (40 ∷ (numeral g ++ (41 ∷ rest)))
  exists-text g = rw (part-at (Condition-F.Exists g) (Exists g) (rolls-Exists g)) (simp append_assoc)

  pub in-text : (a : Term) (g k : ℕ) → part_condition_text (In a g k) ++ rest ≡ form_text form.In ++ (40 ∷ (part_term_text a ++ (44 ∷ (numeral g ++ (44 ∷ (99 ∷ (numeral k ++ (41 ∷ rest))))))))
  in-text a g k = ap (λ t. t ++ rest) (part-at (Condition-F.In a g k) (In a g k) (rolls-In a g k)) ∙ ap (λ t. codes "in(" ++ t) (member_text (part_term_text a) (numeral g) (numeral k) rest)

-- ---- a condition is opened

module _ (Is : Term → Type 0) (room : ℕ) (c : Condition) (rest : Text) where
  layer : (x : Condition-F Condition) → roll-Condition x ≡ c → nests_layer (map-Condition Condition (ℕ → Bool) nests_within x) (room + 1) ≡ true → AllByRecursion Is (terms_layer (map-Condition Condition (List Term) terms_of x)) → Opened Is room c rest
  layer (Condition-F.Compare op a b) is nests terms =
      let named : c ≡ Compare op a b = sym is ∙ rolls-Compare op a b in
      (form.Compare op, part_term_text a ++ (44 ∷ (part_term_text b ++ (41 ∷ rest))), ap (λ c. part_condition_text c ++ rest) named ∙ compare-text rest op a b, (a, b, terms.0, terms.1.0, named, refl))
  layer (Condition-F.IsNull a) is nests terms =
      let named : c ≡ IsNull a = sym is ∙ rolls-IsNull a in
      (form.IsNull, part_term_text a ++ (41 ∷ rest), ap (λ c. part_condition_text c ++ rest) named ∙ null-text rest a, (a, terms.0, named, refl))
  layer (Condition-F.Not d) is nests terms =
      let named : c ≡ Not d = sym is ∙ rolls-Not d in
      (form.Not, part_condition_text d ++ (41 ∷ rest), ap (λ c. part_condition_text c ++ rest) named ∙ not-text rest d, (d, (subst (λ n. nests_within d n ≡ true) (one-less room) (and_parts _ _ nests).1, terms), named, refl))
  layer (Condition-F.And a b cs) is nests terms =
      let named : c ≡ And a b cs = sym is ∙ rolls-And a b cs in
      let fits = and_parts _ _ nests in
      let parts = each_of Is room (a ∷ b ∷ cs) (subst (λ n. list_all (λ c. c n) (map nests_within (a ∷ b ∷ cs)) ≡ true) (one-less room) fits.1) terms in
      (form.And, part_condition_text a ++ (44 ∷ (part_condition_text b ++ (more_text cs ++ (41 ∷ rest)))), ap (λ c. part_condition_text c ++ rest) named ∙ and-text rest a b cs, (a, b, cs, parts.0, parts.1.0, parts.1.1, named, refl))
  layer (Condition-F.Or a b cs) is nests terms =
      let named : c ≡ Or a b cs = sym is ∙ rolls-Or a b cs in
      let fits = and_parts _ _ nests in
      let parts = each_of Is room (a ∷ b ∷ cs) (subst (λ n. list_all (λ c. c n) (map nests_within (a ∷ b ∷ cs)) ≡ true) (one-less room) fits.1) terms in
      (form.Or, part_condition_text a ++ (44 ∷ (part_condition_text b ++ (more_text cs ++ (41 ∷ rest)))), ap (λ c. part_condition_text c ++ rest) named ∙ or-text rest a b cs, (a, b, cs, parts.0, parts.1.0, parts.1.1, named, refl))
  layer (Condition-F.Exists g) is nests terms =
      let named : c ≡ Exists g = sym is ∙ rolls-Exists g in
      (form.Exists, numeral g ++ (41 ∷ rest), ap (λ c. part_condition_text c ++ rest) named ∙ exists-text rest g, (g, terms.0, named, refl))
  layer (Condition-F.In a g k) is nests terms =
      let named : c ≡ In a g k = sym is ∙ rolls-In a g k in
      (form.In, part_term_text a ++ (44 ∷ (numeral g ++ (44 ∷ (99 ∷ (numeral k ++ (41 ∷ rest)))))), ap (λ c. part_condition_text c ++ rest) named ∙ in-text rest a g k, (a, g, k, terms.0, terms.1.0, terms.1.1.0, named, refl))

-- a condition that there is room for stands so in a text
pub opened : (Is : Term → Type 0) (big room : ℕ) (c : Condition) (rest : Text) → big ≡ room + 1 → IsOf Is big c → Opened Is room c rest
opened Is big room c rest e h =
    let x = out-Condition c in
    let is = roll-out-Condition c in
    layer Is room c rest x is (sym (nests-at x c (room + 1) is) ∙ ap (nests_within c) (sym e) ∙ h.0) (subst (AllByRecursion Is) (terms-at x c is) h.1)

pub some_room : (room : ℕ) (c : Condition) → nests_within c room ≡ true → 1 ≤ room
some_room room c h = by (out-Condition c) (sym (nests-at (out-Condition c) c room (roll-out-Condition c)) ∙ h) where
  by : (x : Condition-F Condition) → nests_layer (map-Condition Condition (ℕ → Bool) nests_within x) room ≡ true → 1 ≤ room
  by (Condition-F.Compare op a b) nests = ltb-true 0 room nests
  by (Condition-F.IsNull a) nests = ltb-true 0 room nests
  by (Condition-F.Not d) nests = ltb-true 0 room (and_parts _ _ nests).0
  by (Condition-F.And a b cs) nests = ltb-true 0 room (and_parts _ _ nests).0
  by (Condition-F.Or a b cs) nests = ltb-true 0 room (and_parts _ _ nests).0
  by (Condition-F.Exists g) nests = ltb-true 0 room nests
  by (Condition-F.In a g k) nests = ltb-true 0 room nests
