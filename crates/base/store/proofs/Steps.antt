-- What a CSV reader gives next: each read takes the first of the records that `records` says are left.
use Rattle.std.proofs.Common.{◌≡◌, ℕ, zero, suc, ◌<◌, ◌≤◌, List, [], ◌∷◌, length, Bool, true, false, cond, Option, Some, None, refl, ap, subst, ◌∙◌, arith, inl, ◌==◌}
use Rattle.csv.specs.Machine.{Read, ends_at_end, is_end, next_record, step, ends_with, in_field, start_field, start_record}
use Rattle.csv.specs.Reading.{NextIs, ReadsNext, ReadRecord, default_config, pending_of, records_from, records_next, is_flexible, took_first}
use Rattle.csv.specs.declared.parser.State.{State}
use Rattle.csv.specs.declared.parser.State.TheVariants as st
use Rattle.csv.specs.declared.parser.Action.{Action}
use Rattle.csv.specs.declared.parser.Terminator.TheVariants as term
use Rattle.csv.specs.declared.reader.Reader.{Reader}
use Rattle.store.specs.Tables.{Record}
use Rattle.store.specs.Reading.{Remains, NextOf}

-- where a byte ends a record, the reader then stands between two
abbrev EndsBetween : State × Action → Type 0
EndsBetween v = is_end v.1 ≡ true → ends_at_end v.0 ≡ false

between_cond : (b : Bool) (x y : State × Action) → EndsBetween x → EndsBetween y → EndsBetween (cond b x y)
between_cond true x y h k = h
between_cond false x y h k = k

between_either : (b : Bool) (x y : State) → ends_at_end x ≡ false → ends_at_end y ≡ false → ends_at_end (cond b x y) ≡ false
between_either true x y h k = h
between_either false x y h k = k

between_field : (c : ℕ) → EndsBetween (in_field default_config c)
between_field c = between_cond (c == 44) _ _ (λ h. cc h) (between_cond (ends_with term.CRLF c) _ _ (λ h. between_either (c == 13) st.AfterCr st.StartRecord refl refl) (λ h. cc h))

between_start : (c : ℕ) → EndsBetween (start_field default_config c)
between_start c = between_cond (c == 34) _ _ (λ h. cc h) (between_field c)

between_record : (c : ℕ) → EndsBetween (start_record default_config c)
between_record c = between_cond (ends_with term.CRLF c) _ _ (λ h. cc h) (between_start c)

between_step : (s : State) (c : ℕ) → EndsBetween (step default_config s c)
between_step st.StartRecord c = between_record c
between_step st.StartField c = between_start c
between_step st.InField c = between_field c
between_step st.InQuoted c = between_cond (c == 34) _ _ (λ h. cc h) (λ h. cc h)
between_step st.InEscape c = λ h. cc h
between_step st.AfterQuote c = between_cond (c == 34) _ _ (λ h. cc h) (between_field c)
between_step st.InComment c = between_cond (c == 10) _ _ (λ h. cc h) (λ h. cc h)
between_step st.AfterCr c = between_cond (c == 10) _ _ (λ h. cc h) (between_record c)

-- a record leaves fewer bytes, and the reader between two
pub record Leaves (size : ℕ) (p : Read) : Type 0 where
  pub between : ends_at_end p.1 ≡ false
  pub fewer : length p.2 ≤ size

leaves_cond : (b : Bool) (x : Read) (y : Option Read) (n : ℕ) (p : Read) → cond b (Some x) y ≡ Some p → (b ≡ true → Leaves n x) → (y ≡ Some p → Leaves n p) → Leaves n p
leaves_cond true x y n p e h k = let same : x ≡ p = cc e in subst (λ t. Leaves n t) same (h refl)
leaves_cond false x y n p e h k = k e

leaves_end : (b : Bool) (x p : Read) → cond b (Some x) None ≡ Some p → ends_at_end x.1 ≡ false → x.2 ≡ [] → Leaves 0 p
leaves_end true x p e h k = let same : x ≡ p = cc e in subst (λ t. Leaves 0 t) same (record { between = h; fewer = rw k (omega arith) })
leaves_end false x p e h k = cc e

pub leaves_after : (s : State) (fields : Record) (field xs : List ℕ) (p : Read) → next_record default_config s fields field xs ≡ Some p → Leaves (length xs) p
unfolding next_record
leaves_after s fields field [] p e = leaves_end (ends_at_end s) _ p e refl refl
leaves_after s fields field (c ∷ rest) p e =
    leaves_cond (is_end (step default_config s c).1) _ _ (length (c ∷ rest)) p e (λ h. record { between = between_step s c h; fewer = omega arith })
    (λ k. let r = leaves_after (step default_config s c).0 _ _ rest p k in record { between = r.between; fewer = omega arith })

-- from between two records, a record takes at least one byte
pub takes_one : (s : State) (xs : List ℕ) (p : Read) → ends_at_end s ≡ false → next_record default_config s [] [] xs ≡ Some p → length p.2 < length xs
unfolding next_record
takes_one s [] p q e = let bad : None ≡ Some p = rw q at e in cc bad
takes_one s (c ∷ rest) p q e =
    let l : Leaves (length rest) p = leaves_cond (is_end (step default_config s c).1) _ _ (length rest) p e (λ h. record { between = between_step s c h; fewer = omega arith })
    (λ k. leaves_after (step default_config s c).0 _ _ rest p k) in
    omega (arith, l.fewer)

-- the first record is given, and the others remain
next_given : (m : ℕ) (s s2 : State) (y z : List ℕ) (found : Bool) (fields : Record) (rest : List Record) (P : List Record → Type 0) (o : Option Read)
    → ends_at_end s ≡ false → length y < suc m → next_record default_config s [] [] y ≡ o → NextIs o found fields s2 z → records_next (records_from default_config m) o ≡ rest
    → (ends_at_end s2 ≡ false → length z < m → P (records_from default_config m s2 z)) → NextOf rest found fields P
next_given m s s2 y z found fields rest P None q lt eq nx e build = subst (λ t. NextOf t found fields P) e nx
next_given m s s2 y z found fields rest P (Some p) q lt eq nx e build =
    let settled : ends_at_end s2 ≡ false = rw nx.2 (leaves_after s [] [] y p eq).between in
    let one : length p.2 < length y = takes_one s y p q eq in
    let same : length z ≡ length p.2 = ap length nx.3 in
    let fewer : length z < m = omega arith in
    let held = subst (λ t. P (records_from default_config m t p.2)) nx.2 (subst (λ t. P (records_from default_config m s2 t)) nx.3 (build settled fewer)) in
    subst (λ t. NextOf t found fields P) e (nx.0, nx.1, held)

-- the same of a read whose bytes are known
next_read : (n : ℕ) (s s2 : State) (y : List ℕ) (k : Option (List ℕ)) (found : Bool) (fields : Record) (rest : List Record) (P : List Record → Type 0)
    → ends_at_end s ≡ false → length y < n → records_from default_config n s y ≡ rest → ReadsNext default_config s (Some y) k found fields s2
    → ((z : List ℕ) (m : ℕ) → k ≡ Some z → ends_at_end s2 ≡ false → length z < m → P (records_from default_config m s2 z)) → NextOf rest found fields P
unfolding records_from
next_read zero s s2 y k found fields rest P q lt e r build = absurd (omega arith)
next_read (suc m) s s2 y None found fields rest P q lt e r build = absurd r
next_read (suc m) s s2 y (Some z) found fields rest P q lt e r build = next_given m s s2 y z found fields rest P (next_record default_config s [] [] y) q lt refl r e (build z m refl)

-- a read gives the first of the records that remain
pub next_remains : {R : Type 0} (rem : R → Option (List ℕ)) (a b : Reader R) (found : Bool) (fields : Record) (rest : List Record)
    → Remains rem a rest → ReadRecord rem a b found fields → took_first b ≡ true → is_flexible b ≡ is_flexible a → NextOf rest found fields (λ more. Remains rem b more)
next_remains rem a b found fields rest h r first flexible =
    next_read h.turns a.state b.state h.bytes (pending_of (rem b.rdr) b) found fields rest (λ more. Remains rem b more) h.between h.enough h.rest_is (rw (h.config, h.source) at r.0)
    (λ z m known settled fewer. record { bytes = z; turns = m; trim = r.3 ∙ h.trim; ready = inl first; config = r.2 ∙ h.config; flexible = flexible ∙ h.flexible; source = rw r.1 known; between = settled; enough = fewer; rest_is = refl })
