-- Whatever obeys the laws agrees with the computing form of the meaning.
use Rattle.std.proofs.Common.{◌≡◌, ◌↔◌, refl, inl, inr, ℕ, ◌+◌, ◌*◌, Bool, if◌then◌else◌, List, [], ◌∷◌, ◌++◌, map, ap, sym, ◌∙◌, subst, Option, Some, None}
use Rattle.std.proofs.lemmas.Bool.{both_ways, cases_Bool}
use Rattle.values.specs.declared.truth.Truth.{Truth}
use Rattle.values.specs.declared.truth.Truth.TheVariants.{False, Unknown, True}
use Rattle.values.specs.Truth.{negation, is_true}
use Rattle.schema.specs.Databases.{Row}
use Rattle.query.specs.declared.query.Cond.{Cond, roll-Cond}
use Rattle.query.specs.declared.query.Cond.TheVariants.{Exists, In, rolls-Compare, rolls-IsNull, rolls-Not, rolls-And, rolls-Or, rolls-Exists, rolls-In}
use Rattle.query.specs.declared.query.Cond.TheOpen.{Cond-F, From-F, Block-F}
use Rattle.query.specs.declared.query.Cond.TheFolds.{ind-Cond, ind-From, ind-Block, map-Cond, map-From, map-Block}
use Rattle.query.specs.declared.query.TableReference.{TableReference}
use Rattle.query.specs.declared.query.From.{From, roll-From}
use Rattle.query.specs.declared.query.From.TheVariants.{LeftJoin, rolls-Table, rolls-Join, rolls-LeftJoin, rolls-Comma}
use Rattle.query.specs.declared.query.Block.{Block, roll-Block}
use Rattle.query.specs.Rows.{Env, Tables, IsFitting, count}
use Rattle.query.specs.Meaning.{truth, often, src, from_width, all_of, any_of}
use Rattle.query.specs.Laws.{IsMeaningOn, IsPadded, holds_filter, number_joined, number_shown, left_part, right_part}
use Rattle.query.specs.Answer.{Agree, LawsDetermineMeaning, AnswersAreByLaws}
use Rattle.query.proofs.Obeys.{meaning_obeys, padded-test}
use Rattle.query.proofs.Sources.{is_padded}

-- two truths that are true together and false together
same-truth : (a b : Truth) → (a ≡ True → b ≡ True) → (b ≡ True → a ≡ True) → (a ≡ False → b ≡ False) → (b ≡ False → a ≡ False) → a ≡ b
same-truth True b f g u v = sym (f refl)
same-truth False b f g u v = sym (u refl)
same-truth Unknown True f g u v = g refl
same-truth Unknown False f g u v = v refl
same-truth Unknown Unknown f g u v = refl

module _ (t : Cond → Tables → Env → Truth) (n : From → Tables → Env → Row → ℕ) (o : Block → Tables → Env → Row → ℕ) (D : Tables) (fits : IsFitting D) (m : IsMeaningOn t n o D) where
  abbrev own : IsMeaningOn truth src often D
  own = meaning_obeys D fits

  abbrev AgreesCond : Cond → Type 0
  AgreesCond c = (e : Env) → t c D e ≡ truth c D e

  abbrev AgreesFrom : From → Type 0
  AgreesFrom f = (e : Env) (s : Row) → n f D e s ≡ src f D e s

  abbrev AgreesBlock : Block → Type 0
  AgreesBlock q = (e : Env) (r : Row) → o q D e r ≡ often q D e r

  -- ---- conditions

  -- a layer with a proof beside each part
  abbrev Proved : Type 0
  Proved = Cond-F ((c : Cond) × AgreesCond c) ((f : From) × AgreesFrom f) ((q : Block) × AgreesBlock q)

  abbrev plain : Proved → Cond-F Cond From Block
  plain = map-Cond _ _ _ Cond From Block (λ c. c.0) (λ f. f.0) (λ q. q.0)

  agrees-all : (e : Env) (cs : List ((c : Cond) × AgreesCond c)) → map (λ c. t c D e) (map (λ c. c.0) cs) ≡ map (λ c. truth c D e) (map (λ c. c.0) cs)
  agrees-all e [] = refl
  agrees-all e (c ∷ cs) = cc (c.1 e, agrees-all e cs)

  agrees-cond : (y : Proved) → AgreesCond (roll-Cond (plain y))
  agrees-cond (Cond-F.Compare c a b) = subst AgreesCond (sym (rolls-Compare c a b)) (λ e. (m e).compare c a b ∙ sym ((own e).compare c a b))
  agrees-cond (Cond-F.IsNull a) = subst AgreesCond (sym (rolls-IsNull a)) (λ e. (m e).is_null a ∙ sym ((own e).is_null a))
  agrees-cond (Cond-F.Not c) = subst AgreesCond (sym (rolls-Not c.0)) (λ e. (m e).not c.0 ∙ ap negation (c.1 e) ∙ sym ((own e).not c.0))
  agrees-cond (Cond-F.And cs) = subst AgreesCond (sym (rolls-And (map (λ c. c.0) cs))) (λ e. (m e).and (map (λ c. c.0) cs) ∙ ap all_of (agrees-all e cs) ∙ sym ((own e).and (map (λ c. c.0) cs)))
  agrees-cond (Cond-F.Or cs) = subst AgreesCond (sym (rolls-Or (map (λ c. c.0) cs))) (λ e. (m e).or (map (λ c. c.0) cs) ∙ ap any_of (agrees-all e cs) ∙ sym ((own e).or (map (λ c. c.0) cs)))
  agrees-cond (Cond-F.Exists q) = subst AgreesCond (sym (rolls-Exists q.0)) (λ e. same-truth (t (Exists q.0) D e) (truth (Exists q.0) D e)
      (λ x. let found = ((m e).exists_true q.0).0 x in ((own e).exists_true q.0).1 (found.0, rw (← q.1 e found.0) found.1))
      (λ x. let found = ((own e).exists_true q.0).0 x in ((m e).exists_true q.0).1 (found.0, rw (q.1 e found.0) found.1))
      (λ x. ((own e).exists_false q.0).1 (λ r c. ((m e).exists_false q.0).0 x r (rw (q.1 e r) c)))
      (λ x. ((m e).exists_false q.0).1 (λ r c. ((own e).exists_false q.0).0 x r (rw (← q.1 e r) c))))
  agrees-cond (Cond-F.In a q) = subst AgreesCond (sym (rolls-In a q.0)) (λ e. same-truth (t (In a q.0) D e) (truth (In a q.0) D e)
      (λ x. let found = ((m e).in_true a q.0).0 x in ((own e).in_true a q.0).1 (found.0, rw (← q.1 e found.0) found.1, found.2))
      (λ x. let found = ((own e).in_true a q.0).0 x in ((m e).in_true a q.0).1 (found.0, rw (q.1 e found.0) found.1, found.2))
      (λ x. ((own e).in_false a q.0).1 (λ r c. ((m e).in_false a q.0).0 x r (rw (q.1 e r) c)))
      (λ x. ((m e).in_false a q.0).1 (λ r c. ((own e).in_false a q.0).0 x r (rw (← q.1 e r) c))))

  -- ---- FROMs

  abbrev ProvedFrom : Type 0
  ProvedFrom = From-F ((c : Cond) × AgreesCond c) ((f : From) × AgreesFrom f) ((q : Block) × AgreesBlock q)

  abbrev plain_from : ProvedFrom → From-F Cond From Block
  plain_from = map-From _ _ _ Cond From Block (λ c. c.0) (λ f. f.0) (λ q. q.0)

  agrees-joined : (f : From) (i : TableReference) (on : Cond) → AgreesFrom f → AgreesCond on → (e : Env) (s : Row) → number_joined t n o f i on D e s ≡ number_joined truth src often f i on D e s
  agrees-joined f i on h k e s =
      ap (λ v. if is_true v then n f D e (left_part (D.width i.table) s) * count (right_part (D.width i.table) s) (D.rows i.table) else 0) (k (s ∷ e))
      ∙ ap (λ c. if is_true (truth on D (s ∷ e)) then c * count (right_part (D.width i.table) s) (D.rows i.table) else 0) (h e (left_part (D.width i.table) s))

  padded-agrees : (i : TableReference) (on : Cond) → AgreesCond on → (e : Env) (s : Row) → IsPadded t n o i on D e s ↔ IsPadded truth src often i on D e s
  padded-agrees i on h e s = (
    (λ is. record { nulls = is.nulls; unmatched = λ r c. rw (← h ((left_part (D.width i.table) s ++ r) ∷ e)) (is.unmatched r c) }),
    (λ is. record { nulls = is.nulls; unmatched = λ r c. rw (h ((left_part (D.width i.table) s ++ r) ∷ e)) (is.unmatched r c) }),
  )

  agrees-left : (f : From) (i : TableReference) (on : Cond) → AgreesFrom f → AgreesCond on → AgreesFrom (LeftJoin f i on)
  agrees-left f i on h k e s = elim (cases_Bool (is_padded (truth on) i.table D e s)) [
    | inl is ↦
        let padded = (padded-test i on D e s).0 is in
        (m e).left_join_padded f i on s ((padded-agrees i on k e s).1 padded)
        ∙ ap (λ c. c + n f D e (left_part (D.width i.table) s)) (agrees-joined f i on h k e s)
        ∙ ap (λ c. number_joined truth src often f i on D e s + c) (h e (left_part (D.width i.table) s))
        ∙ sym ((own e).left_join_padded f i on s padded)
    | inr is ↦
        let unpadded : IsPadded truth src often i on D e s → ⊥ = λ p. both_ways _ is ((padded-test i on D e s).1 p) in
        (m e).left_join f i on s (λ p. unpadded ((padded-agrees i on k e s).0 p)) ∙ agrees-joined f i on h k e s ∙ sym ((own e).left_join f i on s unpadded)
  ]

  agrees-from : (y : ProvedFrom) → AgreesFrom (roll-From (plain_from y))
  agrees-from (From-F.Table i) = subst AgreesFrom (sym (rolls-Table i)) (λ e s. (m e).table i s ∙ sym ((own e).table i s))
  agrees-from (From-F.Join f i on) = subst AgreesFrom (sym (rolls-Join f.0 i on.0)) (λ e s. (m e).join f.0 i on.0 s ∙ agrees-joined f.0 i on.0 f.1 on.1 e s ∙ sym ((own e).join f.0 i on.0 s))
  agrees-from (From-F.LeftJoin f i on) = subst AgreesFrom (sym (rolls-LeftJoin f.0 i on.0)) (agrees-left f.0 i on.0 f.1 on.1)
  agrees-from (From-F.Comma f g) = subst AgreesFrom (sym (rolls-Comma f.0 g.0)) (λ e s. (m e).comma f.0 g.0 s
      ∙ ap (λ c. c * n g.0 D e (right_part (from_width g.0 D) s)) (f.1 e (left_part (from_width g.0 D) s))
      ∙ ap (λ c. src f.0 D e (left_part (from_width g.0 D) s) * c) (g.1 e (right_part (from_width g.0 D) s))
      ∙ sym ((own e).comma f.0 g.0 s))

  -- ---- blocks

  abbrev ProvedBlock : Type 0
  ProvedBlock = Block-F ((c : Cond) × AgreesCond c) ((f : From) × AgreesFrom f) ((q : Block) × AgreesBlock q)

  abbrev plain_block : ProvedBlock → Block-F Cond From Block
  plain_block = map-Block _ _ _ Cond From Block (λ c. c.0) (λ f. f.0) (λ q. q.0)

  -- a WHERE or a HAVING holds of the same rows
  abbrev AgreesFilter : Option Cond → Type 0
  AgreesFilter w = (e : Env) (s : Row) → holds_filter t n o w D e s ≡ holds_filter truth src often w D e s

  -- a source list of the one is a source list of the other
  agrees-number : (q : Block) → AgreesFrom q.from → AgreesFilter q.filter → AgreesFilter q.having → AgreesBlock q
  agrees-number q f w h e r =
      let source = (own e).source_exists q in
      (m e).number q source.0 r (λ s. source.1 s ∙ ap (λ b. if b then src q.from D e s else 0) (sym (w e s)) ∙ ap (λ k. if holds_filter t n o q.filter D e s then k else 0) (sym (f e s)))
      ∙ ap (λ (keeps : Row → Bool). number_shown q keeps e source.0 r) (λ i s. h [] s i)
      ∙ sym ((own e).number q source.0 r source.1)

  agrees-block : (y : ProvedBlock) (w h : Option ((c : Cond) × AgreesCond c)) → AgreesBlock (roll-Block (plain_block (record y { filter = w; having = h })))
  agrees-block y None None = agrees-number (roll-Block (plain_block (record y { filter = None; having = None }))) y.from.1 (λ e s. refl) (λ e s. refl)
  agrees-block y None (Some d) = agrees-number (roll-Block (plain_block (record y { filter = None; having = Some d }))) y.from.1 (λ e s. refl) (λ e s. ap is_true (d.1 (s ∷ e)))
  agrees-block y (Some c) None = agrees-number (roll-Block (plain_block (record y { filter = Some c; having = None }))) y.from.1 (λ e s. ap is_true (c.1 (s ∷ e))) (λ e s. refl)
  agrees-block y (Some c) (Some d) = agrees-number (roll-Block (plain_block (record y { filter = Some c; having = Some d }))) y.from.1 (λ e s. ap is_true (c.1 (s ∷ e))) (λ e s. ap is_true (d.1 (s ∷ e)))

  -- ---- the whole, by induction

  step-cond : (x : Cond-F Cond From Block) (y : Proved) → plain y ≡ x → AgreesCond (roll-Cond x)
  step-cond x y is = subst (λ z. AgreesCond (roll-Cond z)) is (agrees-cond y)

  step-from : (x : From-F Cond From Block) (y : ProvedFrom) → plain_from y ≡ x → AgreesFrom (roll-From x)
  step-from x y is = subst (λ z. AgreesFrom (roll-From z)) is (agrees-from y)

  step-block : (x : Block-F Cond From Block) (y : ProvedBlock) → plain_block y ≡ x → AgreesBlock (roll-Block x)
  step-block x y is = subst (λ z. AgreesBlock (roll-Block z)) is (agrees-block y y.filter y.having)

  agrees : Agree t n o D
  agrees = record {
    truth = ind-Cond AgreesCond AgreesFrom AgreesBlock step-cond step-from step-block;
    src = ind-From AgreesCond AgreesFrom AgreesBlock step-cond step-from step-block;
    often = ind-Block AgreesCond AgreesFrom AgreesBlock step-cond step-from step-block;
  }

pub laws_determine : LawsDetermineMeaning
laws_determine t n o D fits m = agrees t n o D fits m

pub answers_by_laws : AnswersAreByLaws
answers_by_laws q D A fits = (
  (λ is. record { spread = λ t n o m r. is.spread r ∙ sym ((laws_determine t n o D fits m).often q.block [] r); ordered = is.ordered }),
  (λ is. record { spread = is.spread truth src often (meaning_obeys D fits); ordered = is.ordered }),
)
