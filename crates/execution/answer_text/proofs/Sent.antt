-- Bytes that a device took, piece after piece.
use Rattle.std.proofs.Common.{◌≡◌, ℕ, zero, suc, ◌≤◌, List, [], ◌∷◌, ◌++◌, length, take, drop, Option, Some, None, Result, Ok, Err, OnOk, OnErr, refl, sym, ap, subst, ◌∙◌, append_assoc, append-nil, arith}
use Rattle.std.proofs.lemmas.List.{take-append-drop}
use Rattle.std.specs.Io.KnownBytes.{Appends, Keeps}
use Rattle.schema.specs.Databases.{Row}
use Rattle.answer_text.specs.AnswerText.{record_text, rows_text, HasFront, IsGathered, IsUnderWay}

pub appends_more : (a b c : Option (List ℕ)) (x y : List ℕ) → Appends a b x → Appends b c y → Appends a c (x ++ y)
appends_more None b c x y h k = tt
appends_more (Some xs) None c x y h k = absurd h
appends_more (Some xs) (Some ys) None x y h k = absurd k
appends_more (Some xs) (Some ys) (Some zs) x y h k = k ∙ ap (λ (t : List ℕ). t ++ y) h ∙ append_assoc xs x y

pub appends_none : (a : Option (List ℕ)) → Appends a a []
appends_none None = tt
appends_none (Some xs) = sym (append-nil xs)

pub appends_kept : (a b c : Option (List ℕ)) (x : List ℕ) → Appends a b x → Keeps b c → Appends a c x
appends_kept None b c x h k = tt
appends_kept (Some xs) None c x h k = absurd h
appends_kept (Some xs) (Some ys) None x h k = absurd k
appends_kept (Some xs) (Some ys) (Some zs) x h k = k ∙ h

pub on_err : {A E : Type 0} (r : Result A E) {P : Type 0} → P → OnErr r P
on_err (Ok x) p = tt
on_err (Err e) p = p

pub on_ok : {A E : Type 0} (r : Result A E) {P : Type 0} → P → OnOk r P
on_ok (Ok x) p = p
on_ok (Err e) p = tt

-- nothing is a beginning of any text
pub front_of_nothing : (a : Option (List ℕ)) (total : List ℕ) → HasFront a a total
front_of_nothing a total = ([], total, refl, appends_none a)

pub front_of_all : (a c : Option (List ℕ)) (total : List ℕ) → Appends a c total → HasFront a c total
front_of_all a c total added = (total, [], sym (append-nil total), added)

pub front_begun : (a c : Option (List ℕ)) (done rest total : List ℕ) → done ++ rest ≡ total → Appends a c done → HasFront a c total
front_begun a c done rest total e added = (done, rest, sym e, added)

-- a beginning of a beginning
pub front_of_kept : (a c : Option (List ℕ)) (x : List ℕ) → HasFront a c x → (y total : List ℕ) → x ++ y ≡ total → HasFront a c total
front_of_kept a c x (front, rest, is, added) y total e = (front, rest ++ y, sym e ∙ ap (λ (t : List ℕ). t ++ y) is ∙ append_assoc front rest y, added)

pub front_of_taken : (a c : Option (List ℕ)) (n : ℕ) (x total : List ℕ) → x ≡ total → Appends a c (take n x) → HasFront a c total
front_of_taken a c n x total e added = (take n x, drop n x, sym e ∙ sym (take-append-drop n x), added)

-- what was taken before, and a beginning of what comes next
pub front_more : (a b c : Option (List ℕ)) (done x total : List ℕ) → Appends a b done → HasFront b c x → done ++ x ≡ total → HasFront a c total
front_more a b c done x total before (front, rest, is, added) e =
    (done ++ front, rest, sym e ∙ ap (λ (t : List ℕ). done ++ t) is ∙ sym (append_assoc done front rest), appends_more a b c done front before added)

-- ---- an answer that is under way

pub under_way_begins : (a : Option (List ℕ)) (header gathered : List ℕ) (rows : List Row) → gathered ≡ header → IsUnderWay a a gathered rows (header ++ rows_text rows)
under_way_begins a header gathered rows is = ([], ap (λ (t : List ℕ). t ++ rows_text rows) (sym is), appends_none a)

-- the text to come, with the first row's record beside what is gathered
record-gathered : (sent gathered : List ℕ) (r : Row) (rows : List Row) (text : List ℕ) → text ≡ sent ++ (gathered ++ rows_text (r ∷ rows)) → sent ++ ((gathered ++ record_text r) ++ rows_text rows) ≡ text
record-gathered sent gathered r rows text all = ap (λ (t : List ℕ). sent ++ t) (append_assoc gathered (record_text r) (rows_text rows)) ∙ sym all

pub under_way_more : (a b c : Option (List ℕ)) (gathered left : List ℕ) (r : Row) (rows : List Row) (text : List ℕ) → IsUnderWay a b gathered (r ∷ rows) text → IsGathered b c (gathered ++ record_text r) left → IsUnderWay a c left rows text
under_way_more a b c gathered left r rows text (before, all, taken) (sent, is, added) = (
  before ++ sent,
  sym (record-gathered before gathered r rows text all) ∙ ap (λ (t : List ℕ). before ++ (t ++ rows_text rows)) is ∙ ap (λ (t : List ℕ). before ++ t) (append_assoc sent left (rows_text rows)) ∙ sym (append_assoc before sent (left ++ rows_text rows)),
  appends_more a b c before sent taken added,
)

-- a beginning of the text was written where a row's record isn't
pub front_at_row : (a b c : Option (List ℕ)) (gathered : List ℕ) (r : Row) (rows : List Row) (text : List ℕ) → IsUnderWay a b gathered (r ∷ rows) text → HasFront b c (gathered ++ record_text r) → HasFront a c text
front_at_row a b c gathered r rows text (before, all, taken) front =
    front_more a b c before ((gathered ++ record_text r) ++ rows_text rows) text taken (front_of_kept b c (gathered ++ record_text r) front (rows_text rows) _ refl) (record-gathered before gathered r rows text all)

pub front_under_way : (a b : Option (List ℕ)) (gathered : List ℕ) (rows : List Row) (text : List ℕ) → IsUnderWay a b gathered rows text → HasFront a b text
front_under_way a b gathered rows text (before, all, taken) = (before, gathered ++ rows_text rows, all, taken)

-- no row is to come
nothing-left : (before gathered : List ℕ) (rows : List Row) (text : List ℕ) → rows ≡ [] → text ≡ before ++ (gathered ++ rows_text rows) → before ++ gathered ≡ text
nothing-left before gathered rows text none all = ap (λ (t : List ℕ). before ++ t) (sym (append-nil gathered)) ∙ ap (λ (rs : List Row). before ++ (gathered ++ rows_text rs)) (sym none) ∙ sym all

pub under_way_ends : (a b c : Option (List ℕ)) (gathered : List ℕ) (rows : List Row) (text : List ℕ) → rows ≡ [] → IsUnderWay a b gathered rows text → Appends b c gathered → Appends a c text
under_way_ends a b c gathered rows text none (before, all, taken) added = subst (Appends a c) (nothing-left before gathered rows text none all) (appends_more a b c before gathered taken added)

pub front_at_end : (a b c : Option (List ℕ)) (gathered : List ℕ) (rows : List Row) (text : List ℕ) → rows ≡ [] → IsUnderWay a b gathered rows text → HasFront b c gathered → HasFront a c text
front_at_end a b c gathered rows text none (before, all, taken) front = front_more a b c before gathered text taken front (nothing-left before gathered rows text none all)

pub drop_past : (n : ℕ) (rows : List Row) → length rows ≤ n → drop n rows ≡ []
drop_past zero [] past = refl
drop_past (suc n) [] past = refl
drop_past zero (r ∷ rows) past = absurd (omega (arith, past))
drop_past (suc n) (r ∷ rows) past = drop_past n rows (omega (arith, past))
