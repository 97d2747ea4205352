-- The records of a text that is cut at a line feed outside of quotes.
use Rattle.std.proofs.Common.{◌≡◌, ◌≢◌, ℕ, zero, suc, ◌+◌, ◌-◌, ◌<◌, ◌≤◌, ◌==◌, ◌&&◌, ◌||◌, List, [], ◌∷◌, ◌++◌, length, take, drop, get_or, Bool, true, false, cond, Option, Some, None, refl, sym, ap, ◌∙◌, ⊎_elim, subst, arith, append_assoc, length-drop}
use Rattle.std.specs.List.{list_any, starts_with}
use Rattle.std.proofs.lemmas.List.{take-append-drop, take-append-le, take_all, drop-append-le, drop-drop, get_or-drop}
use Rattle.std.proofs.lemmas.Bool.{cases_eq, eqb-true}
use Rattle.std.proofs.Math.Seq.{take-suc, take-add}
use Rattle.csv.specs.Machine.{Read, ends_at_end, is_end, next_record, step, fields_after, field_after, ends_with, in_field, start_field, start_record}
use Rattle.csv.specs.Reading.{default_config, records, records_from, records_next, strip_bom, is_bom}
use Rattle.csv.specs.declared.parser.State.{State}
use Rattle.csv.specs.declared.parser.State.TheVariants as st
use Rattle.csv.specs.declared.parser.Action.{Action}
use Rattle.csv.specs.declared.parser.Action.TheVariants as act
use Rattle.csv.specs.declared.parser.Terminator.TheVariants as term
use Rattle.memchr.specs.Find.{Nowhere, Passes, is_byte}
use Rattle.store.specs.Tables.{Record, records_of}
use Rattle.store.specs.declared.cuts.Quotes.{Quotes}
use Rattle.store.specs.declared.cuts.Quotes.TheVariants.{Fresh, Plain, Open, Closed}
use Rattle.store.specs.Cuts.{state_after, quotes_outside, quotes_after, quotes_behind, IsQuoteless, QuotesIn, EndsLine, IsLineEnd, CutsText, CutsFile}
use Rattle.store.proofs.Steps.{leaves_after, takes_one}

-- ---- all records of a text, by one recursion on its bytes

abbrev all_after : State → Record → List ℕ → List ℕ → List Record
all_after s fields field [] = cond (ends_at_end s) ((fields ++ field ∷ []) ∷ []) []
all_after s fields field (c ∷ rest) =
    cond (is_end (step default_config s c).1) (fields_after (step default_config s c).1 fields field ∷ all_after (step default_config s c).0 [] [] rest)
    (all_after (step default_config s c).0 (fields_after (step default_config s c).1 fields field) (field_after (step default_config s c).1 c field) rest)

abbrev all_of : State → List ℕ → List Record
all_of s xs = all_after s [] [] xs

next_cond : (b : Bool) (p : Read) (o : Option Read) → records_next all_of (cond b (Some p) o) ≡ cond b (p.0 ∷ all_of p.1 p.2) (records_next all_of o)
next_cond true p o = refl
next_cond false p o = refl

all_next : (s : State) (fields : Record) (field xs : List ℕ) → all_after s fields field xs ≡ records_next all_of (next_record default_config s fields field xs)
unfolding next_record
all_next s fields field [] = sym (next_cond (ends_at_end s) (fields ++ field ∷ [], st.StartRecord, []) None)
all_next s fields field (c ∷ rest) =
    let a = step default_config s c in
    ap (λ (y : List Record). cond (is_end a.1) (fields_after a.1 fields field ∷ all_after a.0 [] [] rest) y) (all_next a.0 (fields_after a.1 fields field) (field_after a.1 c field) rest)
    ∙ sym (next_cond (is_end a.1) (fields_after a.1 fields field, a.0, rest) (next_record default_config a.0 (fields_after a.1 fields field) (field_after a.1 c field) rest))

from_next : (n : ℕ) (o : Option Read) → ((p : Read) → o ≡ Some p → records_from default_config n p.1 p.2 ≡ all_of p.1 p.2) → records_next (records_from default_config n) o ≡ records_next all_of o
from_next n None h = refl
from_next n (Some p) h = ap (λ (y : List Record). p.0 ∷ y) (h p refl)

from_all : (n : ℕ) (s : State) (xs : List ℕ) → ends_at_end s ≡ false → length xs < n → records_from default_config n s xs ≡ all_of s xs
unfolding records_from
from_all zero s xs q lt = absurd (omega arith)
from_all (suc n) s xs q lt =
    from_next n (next_record default_config s [] [] xs) (λ p e.
    let fewer = takes_one s xs p q e in
    from_all n p.1 p.2 (leaves_after s [] [] xs p e).between (omega arith))
    ∙ sym (all_next s [] [] xs)

records_all : (xs : List ℕ) → records default_config xs ≡ all_of st.StartRecord xs
records_all xs = from_all (length xs + 1) st.StartRecord xs refl (omega arith)

-- ---- cut at a line feed

-- whether no record is begun
abbrev is_between : State → Bool
is_between st.StartRecord = true
is_between st.AfterCr = true
is_between st.InComment = true
is_between st.StartField = false
is_between st.InField = false
is_between st.InQuoted = false
is_between st.AfterQuote = false
is_between st.InEscape = false

-- where none is begun no field is at hand
abbrev Empty : State → Record → List ℕ → Type 0
Empty s fields field = is_between s ≡ true → (fields ≡ []) × (field ≡ [])

-- a byte that ends no record and leaves none begun does nothing, where none was
abbrev Stays : Bool → State × Action → Type 0
Stays between v = is_end v.1 ≡ false → is_between v.0 ≡ true → (between ≡ true) × (v.1 ≡ act.Skip)

stays_cond : (t b : Bool) (x y : State × Action) → Stays t x → Stays t y → Stays t (cond b x y)
stays_cond t true x y h k = h
stays_cond t false x y h k = k

stays_field : (t : Bool) (c : ℕ) → Stays t (in_field default_config c)
stays_field t c = stays_cond t (c == 44) _ _ (λ h k. cc k) (stays_cond t (ends_with term.CRLF c) _ _ (λ h k. cc h) (λ h k. cc k))

stays_start : (t : Bool) (c : ℕ) → Stays t (start_field default_config c)
stays_start t c = stays_cond t (c == 34) _ _ (λ h k. cc k) (stays_field t c)

stays_record : (c : ℕ) → Stays true (start_record default_config c)
stays_record c = stays_cond true (ends_with term.CRLF c) _ _ (λ h k. (refl, refl)) (stays_start true c)

stays_step : (s : State) (c : ℕ) → Stays (is_between s) (step default_config s c)
stays_step st.StartRecord c = stays_record c
stays_step st.StartField c = stays_start false c
stays_step st.InField c = stays_field false c
stays_step st.InQuoted c = stays_cond false (c == 34) _ _ (λ h k. cc k) (λ h k. cc k)
stays_step st.InEscape c = λ h k. cc k
stays_step st.AfterQuote c = stays_cond false (c == 34) _ _ (λ h k. cc k) (stays_field false c)
stays_step st.InComment c = stays_cond true (c == 10) _ _ (λ h k. (refl, refl)) (λ h k. (refl, refl))
stays_step st.AfterCr c = stays_cond true (c == 10) _ _ (λ h k. (refl, refl)) (stays_record c)

skipped : (a : Action) (c : ℕ) (fields : Record) (field : List ℕ) → a ≡ act.Skip → fields ≡ [] → field ≡ [] → (fields_after a fields field ≡ []) × (field_after a c field ≡ [])
skipped act.Skip c fields field e p q = (p, q)
skipped act.Copy c fields field e p q = cc e
skipped act.EndField c fields field e p q = cc e
skipped act.EndRecord c fields field e p q = cc e

empty_step : (s : State) (c : ℕ) (fields : Record) (field : List ℕ) → Empty s fields field → is_end (step default_config s c).1 ≡ false
    → Empty (step default_config s c).0 (fields_after (step default_config s c).1 fields field) (field_after (step default_config s c).1 c field)
empty_step s c fields field h e = λ b.
    let k = stays_step s c e b in
    let (p, q) = h k.0 in
    skipped (step default_config s c).1 c fields field k.1 p q

cut_cond : (b : Bool) (r : Record) (p q more rest tail : List Record) → (b ≡ true → p ≡ more ++ tail) → (b ≡ false → q ≡ rest ++ tail) → cond b (r ∷ p) q ≡ cond b (r ∷ more) rest ++ tail
cut_cond true r p q more rest tail h k = ap (λ (y : List Record). r ∷ y) (h refl)
cut_cond false r p q more rest tail h k = k refl

between_end : (s : State) (fields : Record) (field x : List ℕ) → Empty s fields field → is_between s ≡ true → EndsLine s → all_after s fields field (10 ∷ x) ≡ all_after s fields field [] ++ all_of st.StartRecord (10 ∷ x)
between_end st.StartRecord fields field x h b ok = let (p, q) = h refl in rw (p, q) refl
between_end st.AfterCr fields field x h b ok = let (p, q) = h refl in rw (p, q) refl
between_end st.InComment fields field x h b ok = absurd ok
between_end st.StartField fields field x h b ok = cc b
between_end st.InField fields field x h b ok = cc b
between_end st.InQuoted fields field x h b ok = cc b
between_end st.AfterQuote fields field x h b ok = cc b
between_end st.InEscape fields field x h b ok = cc b

cut_all : (s : State) (fields : Record) (field a x : List ℕ) → Empty s fields field → EndsLine (state_after s a) → all_after s fields field (a ++ 10 ∷ x) ≡ all_after s fields field a ++ all_of st.StartRecord (10 ∷ x)
cut_all st.StartRecord fields field [] x h ok = between_end st.StartRecord fields field x h refl ok
cut_all st.AfterCr fields field [] x h ok = between_end st.AfterCr fields field x h refl ok
cut_all st.StartField fields field [] x h ok = refl
cut_all st.InField fields field [] x h ok = refl
cut_all st.AfterQuote fields field [] x h ok = refl
cut_all st.InQuoted fields field [] x h ok = absurd ok
cut_all st.InEscape fields field [] x h ok = absurd ok
cut_all st.InComment fields field [] x h ok = absurd ok
cut_all s fields field (c ∷ a) x h ok =
    let v = step default_config s c in
    cut_cond (is_end v.1) (fields_after v.1 fields field) (all_after v.0 [] [] (a ++ 10 ∷ x)) (all_after v.0 (fields_after v.1 fields field) (field_after v.1 c field) (a ++ 10 ∷ x))
    (all_after v.0 [] [] a) (all_after v.0 (fields_after v.1 fields field) (field_after v.1 c field) a) (all_of st.StartRecord (10 ∷ x))
    (λ e. cut_all v.0 [] [] a x (λ b. (refl, refl)) ok)
    (λ e. cut_all v.0 (fields_after v.1 fields field) (field_after v.1 c field) a x (empty_step s c fields field h e) ok)

-- ---- a byte order mark

mark_cond : (b : Bool) (xs ys tail : List ℕ) → cond b (xs ++ tail) (ys ++ tail) ≡ cond b xs ys ++ tail
mark_cond true xs ys tail = refl
mark_cond false xs ys tail = refl

no_mark_2 : (p q : Bool) (c : ℕ) → (p && q && (10 == 191)) ≡ false
no_mark_2 true true c = refl
no_mark_2 true false c = refl
no_mark_2 false true c = refl
no_mark_2 false false c = refl

no_mark_1 : (p r : Bool) → (p && (10 == 187) && r) ≡ false
no_mark_1 true true = refl
no_mark_1 true false = refl
no_mark_1 false true = refl
no_mark_1 false false = refl

pick_no : (b : Bool) (xs ys : List ℕ) → b ≡ false → cond b xs ys ≡ ys
pick_no true xs ys e = cc e
pick_no false xs ys e = refl

strip_line : (a x : List ℕ) → strip_bom (a ++ 10 ∷ x) ≡ strip_bom a ++ 10 ∷ x
unfolding strip_bom
strip_line [] [] = refl
strip_line [] (b ∷ []) = refl
strip_line [] (b ∷ c ∷ x) = refl
strip_line (a ∷ []) [] = refl
strip_line (a ∷ []) (c ∷ x) = pick_no (is_bom a 10 c) _ _ (no_mark_1 (a == 239) (c == 191))
strip_line (a ∷ b ∷ []) x = pick_no (is_bom a b 10) _ _ (no_mark_2 (a == 239) (b == 187) 0)
strip_line (a ∷ b ∷ c ∷ rest) x = mark_cond (is_bom a b c) rest (a ∷ b ∷ c ∷ rest) (10 ∷ x)

cut_records : (a x : List ℕ) → EndsLine (state_after st.StartRecord (strip_bom a)) → records_of (a ++ 10 ∷ x) ≡ records_of a ++ records_of (10 ∷ x)
unfolding strip_bom
cut_records a x ok =
    ap (records default_config) (strip_line a x) ∙ records_all (strip_bom a ++ 10 ∷ x) ∙ cut_all st.StartRecord [] [] (strip_bom a) x (λ b. (refl, refl)) ok
    ∙ ap (λ (y : List Record). y ++ all_of st.StartRecord (10 ∷ x)) (sym (records_all (strip_bom a)))
    ∙ ap (λ (y : List Record). records_of a ++ y) (sym (ap (records default_config) (strip_line [] x) ∙ records_all (10 ∷ x)))

pub cuts_file : (bytes : List ℕ) (n : ℕ) → IsLineEnd bytes n → EndsLine (state_after st.StartRecord (strip_bom (take n bytes))) → CutsFile bytes n
cuts_file bytes n (rest, e) ok =
    let long = length-drop n bytes in
    let some : length (drop n bytes) ≡ suc (length rest) = ap length e in
    record {
      within = omega (arith, long, some);
      parts = λ more.
          ap (λ (y : List ℕ). records_of (y ++ more)) (sym (take-append-drop n bytes))
          ∙ ap records_of (append_assoc (take n bytes) (drop n bytes) more)
          ∙ ap (λ (y : List ℕ). records_of (take n bytes ++ (y ++ more))) e
          ∙ cut_records (take n bytes) (rest ++ more) ok
          ∙ ap (λ (y : List ℕ). records_of (take n bytes) ++ records_of (y ++ more)) (sym e);
    }

-- ---- no quotes

ends_cond : (b : Bool) (x y : State × Action) → EndsLine x.0 → EndsLine y.0 → EndsLine (cond b x y).0
ends_cond true x y h k = h
ends_cond false x y h k = k

ends_unless : (b : Bool) (x y : State × Action) → b ≡ false → EndsLine y.0 → EndsLine (cond b x y).0
ends_unless true x y e k = cc e
ends_unless false x y e k = k

ends_either : (b : Bool) (x y : State) → EndsLine x → EndsLine y → EndsLine (cond b x y)
ends_either true x y h k = h
ends_either false x y h k = k

ends_field : (c : ℕ) → EndsLine (in_field default_config c).0
ends_field c = ends_cond (c == 44) _ _ tt (ends_cond (ends_with term.CRLF c) _ _ (ends_either (c == 13) st.AfterCr st.StartRecord tt tt) tt)

ends_start : (c : ℕ) → (c == 34) ≡ false → EndsLine (start_field default_config c).0
ends_start c e = ends_unless (c == 34) _ _ e (ends_field c)

ends_record : (c : ℕ) → (c == 34) ≡ false → EndsLine (start_record default_config c).0
ends_record c e = ends_cond (ends_with term.CRLF c) _ _ tt (ends_start c e)

ends_step : (s : State) (c : ℕ) → (c == 34) ≡ false → EndsLine s → EndsLine (step default_config s c).0
ends_step st.StartRecord c e h = ends_record c e
ends_step st.StartField c e h = ends_start c e
ends_step st.InField c e h = ends_field c
ends_step st.InQuoted c e h = absurd h
ends_step st.InEscape c e h = absurd h
ends_step st.InComment c e h = absurd h
ends_step st.AfterQuote c e h = ends_unless (c == 34) _ _ e (ends_field c)
ends_step st.AfterCr c e h = ends_cond (c == 10) _ _ tt (ends_record c e)

no_true : (b : Bool) → (b ≡ true → ⊥) → b ≡ false
no_true true h = absurd (h refl)
no_true false h = refl

neither : (a b : Bool) → (a || b) ≡ false → (a ≡ false) × (b ≡ false)
neither true b e = cc e
neither false b e = (refl, e)

abbrev quoteless : List ℕ → Bool
quoteless xs = list_any (λ y. y == 34) xs

-- before the first quote there is none
pub quoteless_before : (xs : List ℕ) (k : ℕ) → Nowhere (Passes (is_byte 34) xs) 0 k → IsQuoteless (take k xs)
quoteless_before xs zero h = refl
quoteless_before [] (suc k) h = refl
quoteless_before (c ∷ xs) (suc k) h =
    let here : (c == 34) ≡ false = no_true (c == 34) (h 0 (omega arith) (omega arith)) in
    let rest = quoteless_before xs k (λ m low high p. h (suc m) (omega arith) (omega arith) p) in
    rw (here, rest) refl

ends_after : (s : State) (xs : List ℕ) → quoteless xs ≡ false → EndsLine s → EndsLine (state_after s xs)
ends_after s [] e h = h
ends_after s (c ∷ xs) e h = let (p, q) = neither (c == 34) (quoteless xs) e in ends_after (step default_config s c).0 xs q (ends_step s c p h)

less_take : (n : ℕ) (xs : List ℕ) → quoteless xs ≡ false → quoteless (take n xs) ≡ false
less_take zero xs e = refl
less_take (suc n) [] e = refl
less_take (suc n) (c ∷ xs) e = let (p, q) = neither (c == 34) (quoteless xs) e in rw (p, less_take n xs q) refl

less_cond : (b : Bool) (xs ys : List ℕ) → quoteless xs ≡ false → quoteless ys ≡ false → quoteless (cond b xs ys) ≡ false
less_cond true xs ys h k = h
less_cond false xs ys h k = k

less_strip : (xs : List ℕ) → quoteless xs ≡ false → quoteless (strip_bom xs) ≡ false
unfolding strip_bom
less_strip [] e = e
less_strip (a ∷ []) e = e
less_strip (a ∷ b ∷ []) e = e
less_strip (a ∷ b ∷ c ∷ rest) e =
    less_cond (is_bom a b c) rest (a ∷ b ∷ c ∷ rest) (neither (c == 34) (quoteless rest) (neither (b == 34) (quoteless (c ∷ rest)) (neither (a == 34) (quoteless (b ∷ c ∷ rest)) e).1).1).1 e

pub cuts_quoteless : (bytes : List ℕ) (n : ℕ) → IsQuoteless bytes → IsLineEnd bytes n → CutsFile bytes n
cuts_quoteless bytes n e h = cuts_file bytes n h (ends_after st.StartRecord (strip_bom (take n bytes)) (less_strip (take n bytes) (less_take n bytes e)) tt)

-- ---- with quotes

pub state_append : (s : State) (xs ys : List ℕ) → state_after s (xs ++ ys) ≡ state_after (state_after s xs) ys
state_append s [] ys = refl
state_append s (c ∷ xs) ys = state_append (step default_config s c).0 xs ys

field_bools : (b x y : Bool) → QuotesIn (cond b Fresh (cond (x || y) Fresh Plain)) (cond {A = State × Action} b (st.StartField, act.EndField) (cond {A = State × Action} (x || y) (cond x st.AfterCr st.StartRecord, act.EndRecord) (st.InField, act.Copy))).0
field_bools true x y = refl
field_bools false true y = refl
field_bools false false true = refl
field_bools false false false = refl

quotes_field : (c : ℕ) → QuotesIn (quotes_outside c) (in_field default_config c).0
quotes_field c = field_bools (c == 44) (c == 13) (c == 10)

quotes_cond : (b : Bool) (p q : Quotes) (x y : State × Action) → QuotesIn p x.0 → QuotesIn q y.0 → QuotesIn (cond b p q) (cond b x y).0
quotes_cond true p q x y h k = h
quotes_cond false p q x y h k = k

quotes_first : (b : Bool) (p : Quotes) (x y : State × Action) → (b ≡ true → QuotesIn p x.0) → QuotesIn p y.0 → QuotesIn p (cond b x y).0
quotes_first true p x y h k = h refl
quotes_first false p x y h k = k

quotes_start : (c : ℕ) → QuotesIn (quotes_after Fresh c) (start_field default_config c).0
quotes_start c = quotes_cond (c == 34) Open (quotes_outside c) _ _ refl (quotes_field c)

line_end : (c : ℕ) (x y : Bool) → (c == 13) ≡ x → (c == 10) ≡ y → (x || y) ≡ true → quotes_after Fresh c ≡ Fresh
line_end c true y e f h = rw (eqb-true c 13 e) refl
line_end c false true e f h = rw (eqb-true c 10 f) refl
line_end c false false e f h = cc h

quotes_record : (c : ℕ) → QuotesIn (quotes_after Fresh c) (start_record default_config c).0
quotes_record c = quotes_first (ends_with term.CRLF c) (quotes_after Fresh c) _ _ (λ t. line_end c (c == 13) (c == 10) refl refl t) (quotes_start c)

quotes_step : (s : State) (q : Quotes) (c : ℕ) → QuotesIn q s → QuotesIn (quotes_after q c) (step default_config s c).0
quotes_step st.StartRecord q c h = rw h (quotes_record c)
quotes_step st.StartField q c h = rw h (quotes_start c)
quotes_step st.InField q c h = rw h (quotes_field c)
quotes_step st.InQuoted q c h = rw h (quotes_cond (c == 34) Closed Open _ _ refl refl)
quotes_step st.AfterQuote q c h = rw h (quotes_cond (c == 34) Open (quotes_outside c) _ _ refl (quotes_field c))
quotes_step st.AfterCr q c h = rw h (quotes_first (c == 10) (quotes_after Fresh c) _ _ (λ t. rw (eqb-true c 10 t) refl) (quotes_record c))
quotes_step st.InEscape q c h = absurd h
quotes_step st.InComment q c h = absurd h

outside_ends : (s : State) (q : Quotes) → QuotesIn q s → q ≢ Open → EndsLine s
outside_ends st.StartRecord q h n = tt
outside_ends st.StartField q h n = tt
outside_ends st.InField q h n = tt
outside_ends st.InQuoted q h n = absurd (n h)
outside_ends st.AfterQuote q h n = tt
outside_ends st.AfterCr q h n = tt
outside_ends st.InEscape q h n = absurd h
outside_ends st.InComment q h n = absurd h

-- ---- over bytes that are no quotes

pub behind_none : (q : Quotes) (xs : List ℕ) → (length xs == 0) ≡ true → q ≡ quotes_behind q xs
behind_none q [] e = refl
behind_none q (c ∷ xs) e = let nothing : suc (length xs) ≡ 0 = eqb-true (suc (length xs)) 0 e in absurd (omega arith)

pub behind_open : (xs : List ℕ) → IsQuoteless xs → Open ≡ quotes_behind Open xs
behind_open [] e = refl
behind_open (c ∷ xs) e = let (p, r) = neither (c == 34) (quoteless xs) e in rw p (behind_open xs r)

after_outside : (q : Quotes) (c : ℕ) → q ≢ Open → (c == 34) ≡ false → quotes_after q c ≡ quotes_outside c
after_outside Fresh c n e = rw e refl
after_outside Plain c n e = refl
after_outside Open c n e = absurd (n refl)
after_outside Closed c n e = rw e refl

outside_cond : (a b : Bool) → cond a Fresh (cond b Fresh Plain) ≢ Open
outside_cond true b e = cc e
outside_cond false true e = cc e
outside_cond false false e = cc e

behind_one_more : (q : Quotes) (c : ℕ) (xs : List ℕ) → q ≢ Open → IsQuoteless (c ∷ xs) → quotes_outside (get_or (c ∷ xs) (length xs) 0) ≡ quotes_behind q (c ∷ xs)
behind_one_more q c [] n e = sym (after_outside q c n (neither (c == 34) false e).0)
behind_one_more q c (d ∷ xs) n e =
    let (p, r) = neither (c == 34) (quoteless (d ∷ xs)) e in
    rw (after_outside q c n p) (behind_one_more (quotes_outside c) d xs (outside_cond (c == 44) ((c == 13) || (c == 10))) r)

pub behind_last : (q : Quotes) (xs : List ℕ) → (length xs == 0) ≡ false → q ≢ Open → IsQuoteless xs → quotes_outside (get_or xs (length xs - 1) 0) ≡ quotes_behind q xs
behind_last q [] some n e = cc some
behind_last q (c ∷ xs) some n e =
    let last : length (c ∷ xs) - 1 ≡ length xs = omega arith in
    ap (λ (k : ℕ). quotes_outside (get_or (c ∷ xs) k 0)) last ∙ behind_one_more q c xs n e

quotes_all : (s : State) (q : Quotes) (xs : List ℕ) → QuotesIn q s → QuotesIn (quotes_behind q xs) (state_after s xs)
quotes_all s q [] h = h
quotes_all s q (c ∷ xs) h = quotes_all (step default_config s c).0 (quotes_after q c) xs (quotes_step s q c h)

quotes_more : (text : List ℕ) (at : ℕ) (q : Quotes) → at < length text → QuotesIn q (state_after st.StartRecord (take at text)) → QuotesIn (quotes_after q (get_or text at 0)) (state_after st.StartRecord (take (at + 1) text))
quotes_more text at q lt h =
    let one : at + 1 ≡ suc at = omega arith in
    let next : take (at + 1) text ≡ take at text ++ get_or text at 0 ∷ [] = ap (λ (n : ℕ). take n text) one ∙ take-suc text at 0 lt in
    rw (next, state_append st.StartRecord (take at text) (get_or text at 0 ∷ [])) (quotes_step (state_after st.StartRecord (take at text)) q (get_or text at 0) h)

-- behind the n bytes that are no quotes, and a quote
quotes_quote : (text : List ℕ) (begin n : ℕ) (q : Quotes) → begin + n < length text → get_or (drop begin text) n 0 ≡ 34 → QuotesIn q (state_after st.StartRecord (take begin text))
    → QuotesIn (quotes_after (quotes_behind q (take n (drop begin text))) 34) (state_after st.StartRecord (take (begin + n + 1) text))
quotes_quote text begin n q lt e h =
    let plain = take n (drop begin text) in
    let all : QuotesIn (quotes_behind q plain) (state_after st.StartRecord (take (begin + n) text)) =
    rw (take-add begin n text, state_append st.StartRecord (take begin text) plain) (quotes_all (state_after st.StartRecord (take begin text)) q plain h) in
    let quote : get_or text (begin + n) 0 ≡ 34 = sym (get_or-drop begin text n 0) ∙ e in
    subst (λ (c : ℕ). QuotesIn (quotes_after (quotes_behind q plain) c) (state_after st.StartRecord (take (begin + n + 1) text))) quote (quotes_more text (begin + n) (quotes_behind q plain) lt all)

-- a line feed of the n bytes that are no quotes
cuts_plain : (text : List ℕ) (begin n at : ℕ) (q : Quotes) → QuotesIn q (state_after st.StartRecord (take begin text)) → q ≢ Open → IsQuoteless (take n (drop begin text)) → IsLineEnd (take n (drop begin text)) at → CutsText text (begin + at)
cuts_plain text begin n at q h outside none (rest, e) =
    let plain = take n (drop begin text) in
    let tail = drop n (drop begin text) in
    let long = length-drop at plain in
    let some : length (drop at plain) ≡ suc (length rest) = ap length e in
    let within : at ≤ length plain = omega (arith, long, some) in
    let whole : drop begin text ≡ plain ++ tail = sym (take-append-drop n (drop begin text)) in
    let front : take (begin + at) text ≡ take begin text ++ take at plain =
    take-add begin at text ∙ ap (λ (y : List ℕ). take begin text ++ take at y) whole ∙ ap (λ (y : List ℕ). take begin text ++ y) (take-append-le at plain tail within) in
    let back : drop (begin + at) text ≡ 10 ∷ (rest ++ tail) =
    sym (drop-drop at begin text) ∙ ap (λ (y : List ℕ). drop at y) whole ∙ drop-append-le at plain tail within ∙ ap (λ (y : List ℕ). y ++ tail) e in
    let s = state_after st.StartRecord (take begin text) in
    let ends : EndsLine (state_after s (take at plain)) = ends_after s (take at plain) (less_take at plain none) (outside_ends s q h outside) in
    ((rest ++ tail, back), rw (front, state_append st.StartRecord (take begin text) (take at plain)) ends)

-- the same of the slices of last_outside

rest_all : (text : List ℕ) (begin : ℕ) → take (length text - begin) (drop begin text) ≡ drop begin text
rest_all text begin = let long = length-drop begin text in take_all (length text - begin) (drop begin text) (omega (arith, long))

plain_front : (text : List ℕ) (begin n : ℕ) → take (begin + n - begin) (drop begin text) ≡ take n (drop begin text)
plain_front text begin n = let same : begin + n - begin ≡ n = omega arith in ap (λ (k : ℕ). take k (drop begin text)) same

pub before_end : (text : List ℕ) (begin n : ℕ) → n ≤ length (take (length text - begin) (drop begin text)) → begin < length text → (begin + n ≡ length text → ⊥) → n < length (take (length text - begin) (drop begin text))
before_end text begin n le lt other =
    let long = length-drop begin text in
    let same = ap length (rest_all text begin) in
    ⊎_elim (λ e. absurd (other (omega (arith, long, same)))) (λ ne. omega arith) (cases_eq n (length (take (length text - begin) (drop begin text))))

pub quotes_next : (text : List ℕ) (begin n : ℕ) (q : Quotes) → n < length (take (length text - begin) (drop begin text)) → get_or (take (length text - begin) (drop begin text)) n 0 ≡ 34
    → QuotesIn q (state_after st.StartRecord (take begin text)) → QuotesIn (quotes_after (quotes_behind q (take (begin + n - begin) (drop begin text))) 34) (state_after st.StartRecord (take (begin + n + 1) text))
quotes_next text begin n q lt e h =
    let left : n < length (drop begin text) = subst (λ (y : List ℕ). n < length y) (rest_all text begin) lt in
    let there : get_or (drop begin text) n 0 ≡ 34 = subst (λ (y : List ℕ). get_or y n 0 ≡ 34) (rest_all text begin) e in
    let long = length-drop begin text in
    rw (plain_front text begin n) (quotes_quote text begin n q (omega (arith, long)) there h)

pub cuts_next : (text : List ℕ) (begin n at : ℕ) (q : Quotes) → QuotesIn q (state_after st.StartRecord (take begin text)) → IsQuoteless (take n (take (length text - begin) (drop begin text)))
    → IsLineEnd (take (begin + n - begin) (drop begin text)) at × (q ≢ Open) → CutsText text (begin + at)
cuts_next text begin n at q h none (line, outside) =
    let plain : IsQuoteless (take n (drop begin text)) = subst (λ (y : List ℕ). IsQuoteless (take n y)) (rest_all text begin) none in
    cuts_plain text begin n at q h outside plain (subst (λ (y : List ℕ). IsLineEnd y at) (plain_front text begin n) line)

-- ---- behind a mark, and with none

abbrev Marked : List ℕ → Bool
Marked xs = starts_with (λ x y. x == y) xs (239 ∷ 187 ∷ 191 ∷ [])

same_three : (a b c : ℕ) (rest : List ℕ) (p q r : Bool) → (239 == a) ≡ p → (187 == b) ≡ q → (191 == c) ≡ r → (p && (q && (r && true))) ≡ true → a ∷ b ∷ c ∷ rest ≡ 239 ∷ 187 ∷ 191 ∷ rest
same_three a b c rest true true true e f g h = let p = eqb-true 239 a e in let q = eqb-true 187 b f in let r = eqb-true 191 c g in cc (p, q, r)
same_three a b c rest true true false e f g h = cc h
same_three a b c rest true false r e f g h = cc h
same_three a b c rest false q r e f g h = cc h

no_and : (p : Bool) → (p && false) ≡ true → ⊥
no_and true e = cc e
no_and false e = cc e

no_and_2 : (p q : Bool) → (p && (q && false)) ≡ true → ⊥
no_and_2 true q e = no_and q e
no_and_2 false q e = cc e

mark_there : (xs : List ℕ) → Marked xs ≡ true → xs ≡ 239 ∷ 187 ∷ 191 ∷ drop 3 xs
mark_there [] e = cc e
mark_there (a ∷ []) e = absurd (no_and (239 == a) e)
mark_there (a ∷ b ∷ []) e = absurd (no_and_2 (239 == a) (187 == b) e)
mark_there (a ∷ b ∷ c ∷ rest) e = same_three a b c rest (239 == a) (187 == b) (191 == c) refl refl refl e

not_three : (a b c : ℕ) (p q r : Bool) → (a == 239) ≡ p → (b == 187) ≡ q → (c == 191) ≡ r → Marked (a ∷ b ∷ c ∷ []) ≡ false → (p && q && r) ≡ false
not_three a b c true true true e f g h =
    let no_a = subst (λ x. Marked (x ∷ b ∷ c ∷ []) ≡ false) (eqb-true a 239 e) h in
    let no_b = subst (λ x. Marked (239 ∷ x ∷ c ∷ []) ≡ false) (eqb-true b 187 f) no_a in
    subst (λ x. Marked (239 ∷ 187 ∷ x ∷ []) ≡ false) (eqb-true c 191 g) no_b
not_three a b c true true false e f g h = refl
not_three a b c true false true e f g h = refl
not_three a b c true false false e f g h = refl
not_three a b c false true true e f g h = refl
not_three a b c false true false e f g h = refl
not_three a b c false false true e f g h = refl
not_three a b c false false false e f g h = refl

unmarked : (xs : List ℕ) (n : ℕ) → Marked xs ≡ false → strip_bom (take n xs) ≡ take n xs
unfolding strip_bom
unmarked xs zero e = refl
unmarked [] (suc n) e = refl
unmarked (a ∷ xs) (suc zero) e = refl
unmarked (a ∷ []) (suc (suc n)) e = refl
unmarked (a ∷ b ∷ xs) (suc (suc zero)) e = refl
unmarked (a ∷ b ∷ []) (suc (suc (suc n))) e = refl
unmarked (a ∷ b ∷ c ∷ xs) (suc (suc (suc n))) e = pick_no (is_bom a b c) _ _ (not_three a b c (a == 239) (b == 187) (c == 191) refl refl refl e)

pub cuts_unmarked : (bytes : List ℕ) (n : ℕ) → starts_with (λ x y. x == y) bytes (239 ∷ 187 ∷ 191 ∷ []) ≡ false → CutsText bytes n → CutsFile bytes n
cuts_unmarked bytes n e (h, ok) = cuts_file bytes n h (rw (unmarked bytes n e) ok)

marked_cut : (text : List ℕ) (n : ℕ) → CutsText text n → CutsFile (239 ∷ 187 ∷ 191 ∷ text) (suc (suc (suc n)))
unfolding strip_bom
marked_cut text n (h, ok) = cuts_file (239 ∷ 187 ∷ 191 ∷ text) (suc (suc (suc n))) h ok

pub cuts_marked : (bytes : List ℕ) (n : ℕ) → starts_with (λ x y. x == y) bytes (239 ∷ 187 ∷ 191 ∷ []) ≡ true → CutsText (drop 3 bytes) n → CutsFile bytes (n + 3)
cuts_marked bytes n e h =
    let three : suc (suc (suc n)) ≡ n + 3 = omega arith in
    subst (λ (m : ℕ). CutsFile bytes m) three (subst (λ (xs : List ℕ). CutsFile xs (suc (suc (suc n)))) (sym (mark_there bytes e)) (marked_cut (drop 3 bytes) n h))
