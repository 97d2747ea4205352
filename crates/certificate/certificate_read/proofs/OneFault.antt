-- A text has one first fault: what stands before it is told by the text, and its line is refused for one reason.
use Rattle.std.proofs.Common.{◌≡◌, ◌⊎◌, inl, inr, refl, sym, ap, subst, ◌∙◌, arith, ℕ, ◌+◌, ◌-◌, ◌<◌, ◌≤◌, Bool, true, not, ◌==◌, List, [], ◌∷◌, ◌++◌, get_or, drop, length, map, flat_map, sum, nat_le, append-nil, append_assoc, codes, decimal}
use Rattle.std.proofs.Math.Seq.{drop-append-add}
use Rattle.std.proofs.lemmas.Bool.{and_parts, false≢true, le-leb}
use Rattle.std.specs.Prelude.{IsUtf8}
use Rattle.std.specs.List.{AllByRecursion}
use Rattle.derivation.specs.declared.line.Line.{Line}
use Rattle.physical.specs.declared.plan.Node.{Node}
use Rattle.certificate_text.specs.Numerals.{numeral}
use Rattle.certificate_text.specs.PartTexts.{lacks}
use Rattle.certificate_text.specs.Parts.{IsShort}
use Rattle.certificate_text.proofs.DecimalNumerals.{short_decimal}
use Rattle.certificate_text.proofs.Lacking.{lacks_at}
use Rattle.certificate_text.proofs.Numerals.{numeral_injective}
use Rattle.certificate_text.specs.declared.fault.TextReason.{TextReason}
use Rattle.certificate_text.specs.declared.fault.TextReason.TheVariants.{OtherVersion, OtherForm, OutOfRange, BrokenOff, OverLimit}
use Rattle.certificate_text.specs.declared.fault.TextRefusal.{TextRefusal}
use Rattle.certificate_text.specs.CertificateText.{Text, ◌␣◌, ended, line_words, node_words}
use Rattle.certificate_text.specs.Limits.{most_deep, most_lines, most_nodes}
use Rattle.certificate_text.specs.Readable.{IsReadableLine, IsReadableNode}
use Rattle.certificate_read.specs.LineReading.{line_wording}
use Rattle.certificate_read.specs.NodeReading.{AnyNode, node_of, node_wording}
use Rattle.certificate_read.specs.OneFault.{FaultsAreOne}
use Rattle.certificate_read.specs.TextFaults.{counted_on, derivation_lines, nodes_words, plan_lines, version, wanted_behind, AreDerivation, ArePlan, IsFaultBehindVersion, IsFaultOfDerivation, IsFaultOfEnd, IsFaultOfNodes, IsFaultOfPlan, IsFaultToEnd, IsNextFault, IsNot, IsOther, IsOtherCount, IsOtherNode, LeadsTo, RefusesLine}
use Rattle.certificate_read.specs.TextReading.{IsBalanced, IsWord}
use Rattle.certificate_read.specs.WordReading.{words_in}
use Rattle.certificate_read.specs.Wordings.{Wording, deep}
use Rattle.certificate_read.proofs.LineLaws.{line_told}
use Rattle.certificate_read.proofs.LineTexts.{line_line, line_part, line_taken, part_cut}
use Rattle.certificate_read.proofs.NodeLaws.{node_told}
use Rattle.certificate_read.proofs.NodeTexts.{node_line, node_parts}
use Rattle.certificate_read.proofs.TextCuts.{count_line}
use Rattle.certificate_read.proofs.Wordings.{AreTold, deep_told}

both_same : {A B : Type 0} {a c : A} {b d : B} → a ≡ c → b ≡ d → ◌≡◌ {A = A × B} (a, b) (c, d)
both_same e f = λ i. (e i, f i)

-- ---- lines

-- texts that begin with a line begin with the same one
cut_told : (l m x y : Text) → lacks 10 l ≡ true → lacks 10 m ≡ true → ended l ++ x ≡ ended m ++ y → (l ≡ m) × (x ≡ y)
cut_told [] [] x y h k e = (refl, ap (drop 1) e)
cut_told [] (c ∷ m) x y h k e = absurd (lacks_at 10 (c ∷ m) k 0 (omega arith) (ap (λ w. get_or w 0 0) (sym e)))
cut_told (b ∷ l) [] x y h k e = absurd (lacks_at 10 (b ∷ l) h 0 (omega arith) (ap (λ w. get_or w 0 0) e))
cut_told (b ∷ l) (c ∷ m) x y h k e =
    let more = cut_told l m x y (and_parts (not (b == 10)) (lacks 10 l) h).1 (and_parts (not (c == 10)) (lacks 10 m) k).1 (ap (drop 1) e) in
    (λ i. ap (λ w. get_or w 0 0) e i ∷ more.0 i, more.1)

no_line : (l x : Text) → lacks 10 (ended l ++ x) ≡ true → ⊥
no_line [] x h = false≢true h
no_line (b ∷ l) x h = no_line l x (and_parts (not (b == 10)) (lacks 10 (ended l ++ x)) h).1

module _ (Is : Text → TextReason → Type 0) (left : Text) (number : ℕ) where
  abbrev IsReason : TextReason → Type 0
  IsReason reason = ((lacks 10 left ≡ true) × (reason ≡ BrokenOff)) ⊎ ((line : Text) × (rest : Text) × (left ≡ ended line ++ rest) × (lacks 10 line ≡ true) × Is line reason)

  reason_one : ((line : Text) (a b : TextReason) → Is line a → Is line b → a ≡ b) → (a b : TextReason) → IsReason a → IsReason b → a ≡ b
  reason_one one a b (inl h) (inl k) = h.1 ∙ sym k.1
  reason_one one a b (inl h) (inr (line, rest, e, free, is)) = absurd (no_line line rest (subst (λ t. lacks 10 t ≡ true) e h.0))
  reason_one one a b (inr (line, rest, e, free, is)) (inl k) = absurd (no_line line rest (subst (λ t. lacks 10 t ≡ true) e k.0))
  reason_one one a b (inr (line, rest, e, free, is)) (inr (other, behind, f, clear, are)) = one other a b (subst (λ l. Is l a) (cut_told line other rest behind free clear (sym e ∙ f)).0 is) are

  -- two faults of the next line are one, if no line is refused for two reasons
  next_one : ((line : Text) (a b : TextReason) → Is line a → Is line b → a ≡ b) → (r s : TextRefusal) → IsNextFault Is left number r → IsNextFault Is left number s → r ≡ s
  next_one one r s h k = λ i. record { line = (h.0 ∙ sym k.0) i; reason = reason_one one r.reason s.reason h.1 k.1 i }

  -- the next line is no fault, if it isn't refused
  not_next : (line rest : Text) → lacks 10 line ≡ true → left ≡ ended line ++ rest → ((reason : TextReason) → Is line reason → ⊥) → (r : TextRefusal) → IsNextFault Is left number r → ⊥
  not_next line rest free e stands r (at, inl broken) = no_line line rest (subst (λ t. lacks 10 t ≡ true) e broken.0)
  not_next line rest free e stands r (at, inr (other, behind, f, clear, is)) = stands r.reason (subst (λ l. Is l r.reason) (cut_told other line behind rest clear free (sym f ∙ e)).0 is)

not_one : (wanted : Text) (why : TextReason) (line : Text) (a b : TextReason) → IsNot wanted why line a → IsNot wanted why line b → a ≡ b
not_one wanted why line a b h k = h.1 ∙ sym k.1

-- ---- values

module _ {X : Type 0} (W : Wording X) (told : AreTold W) where
  not_over : (x : X) (ws : List Text) → W.Is x → ws ≡ W.words x → W.IsOver ws → ⊥
  not_over x ws is e over = told.within x [] is (subst W.IsOver (e ∙ sym (append-nil (W.words x))) over)

  same_value : (x y : X) → W.Is x → W.Is y → W.words x ≡ W.words y → x ≡ y
  same_value x y is are e = (told.tells x y [] [] is are (ap (λ ws. ws ++ []) e)).0

  words_one : (ws : List Text) (a b : TextReason) → RefusesLine W ws a → RefusesLine W ws b → a ≡ b
  words_one ws OtherForm OtherForm h k = refl
  words_one ws OtherForm OverLimit h k = absurd (h.1 k)
  words_one ws OtherForm OutOfRange h k = absurd (h.0 k.0 k.2 k.1)
  words_one ws OtherForm OtherVersion h k = absurd k
  words_one ws OtherForm BrokenOff h k = absurd k
  words_one ws OverLimit OtherForm h k = absurd (k.1 h)
  words_one ws OverLimit OverLimit h k = refl
  words_one ws OverLimit OutOfRange h k = absurd (not_over k.0 ws k.2 k.1 h)
  words_one ws OverLimit OtherVersion h k = absurd k
  words_one ws OverLimit BrokenOff h k = absurd k
  words_one ws OutOfRange OtherForm h k = absurd (k.0 h.0 h.2 h.1)
  words_one ws OutOfRange OverLimit h k = absurd (not_over h.0 ws h.2 h.1 k)
  words_one ws OutOfRange OutOfRange h k = refl
  words_one ws OutOfRange OtherVersion h k = absurd k
  words_one ws OutOfRange BrokenOff h k = absurd k
  words_one ws OtherVersion b h k = absurd h
  words_one ws BrokenOff b h k = absurd h

  other_one : (line : Text) (a b : TextReason) → IsOther W line a → IsOther W line b → a ≡ b
  other_one line a b (inl h) (inl k) = h.1 ∙ sym k.1
  other_one line a b (inl h) (inr k) = absurd (h.0 k.0)
  other_one line a b (inr h) (inl k) = absurd (k.0 h.0)
  other_one line a b (inr h) (inr k) = words_one (words_in line) a b h.1 k.1

  -- a line that has the words of a value with its numbers in their ranges isn't refused
  value_stands : (x : X) (line : Text) → W.Is x → W.IsInRange x → IsUtf8 line → words_in line ≡ W.words x → (reason : TextReason) → IsOther W line reason → ⊥
  value_stands x line is range text e reason (inl h) = h.0 text
  value_stands x line is range text e reason (inr h) = by reason h.1 where
    by : (reason : TextReason) → RefusesLine W (words_in line) reason → ⊥
    by OtherForm h = h.0 x is e
    by OverLimit h = not_over x (words_in line) is e h
    by OutOfRange h = h.3 (subst W.IsInRange (same_value x h.0 is h.2 (sym e ∙ h.1)) range)
    by OtherVersion h = h
    by BrokenOff h = h

-- ---- lines of a derivation

line_stands : (l : Line) → IsReadableLine l → (reason : TextReason) → IsOther line_wording (line_words l) reason → ⊥
line_stands l h = value_stands line_wording line_told l (line_words l) (line_taken l h).0 (line_taken l h).1 (line_line l h).0 (part_cut (line_words l) (line_wording.words l) (line_part l h))

same_line : (l m : Line) → IsReadableLine l → IsReadableLine m → line_words l ≡ line_words m → l ≡ m
same_line l m h k e =
    same_value line_wording line_told l m (line_taken l h).0 (line_taken m k).0
    (sym (part_cut (line_words l) (line_wording.words l) (line_part l h)) ∙ ap words_in e ∙ part_cut (line_words m) (line_wording.words m) (line_part m k))

-- ---- nodes of a plan

-- a node that can be read isn't refused, where it isn't too deep
node_value_stands : (is_within : Bool) (n : Node) (inputs : ℕ) → is_within ≡ true → IsReadableNode n inputs → (reason : TextReason) → IsOther (deep is_within node_wording) (node_words n inputs) reason → ⊥
node_value_stands is_within n inputs within h =
    let parts = node_parts n inputs h in
    value_stands (deep is_within node_wording) (deep_told is_within node_told) parts.0 (node_words n inputs) (within, parts.1.1.0) parts.1.1.1 (node_line n inputs h).0 (part_cut _ _ parts.1.2)

same_node : (n m : Node) (inputs others : ℕ) → IsReadableNode n inputs → IsReadableNode m others → node_words n inputs ≡ node_words m others → (n ≡ m) × (inputs ≡ others)
same_node n m inputs others h k e =
    let parts = node_parts n inputs h in
    let like = node_parts m others k in
    let same : parts.0 ≡ like.0 = same_value node_wording node_told parts.0 like.0 parts.1.1.0 like.1.1.0 (sym (part_cut _ _ parts.1.2) ∙ ap words_in e ∙ part_cut _ _ like.1.2) in
    let whole = sym parts.1.0 ∙ ap (λ (x : AnyNode). node_of x.0 x.1) same ∙ like.1.0 in
    ((λ i. (whole i).node), (λ i. (whole i).inputs))

module _ (ws : List ℕ) (counted : ℕ) where
  abbrev is_within : Bool
  is_within = nat_le (length ws) most_deep

  -- it isn't refused for the size of the plan either, where the plan can have its size behind it
  node_stands : (n : Node) (inputs : ℕ) → IsReadableNode n inputs → length ws ≤ most_deep → IsBalanced (counted - 1) (sum (wanted_behind inputs ws)) → (reason : TextReason) → IsOtherNode ws counted (node_words n inputs) reason → ⊥
  node_stands n inputs h few balanced reason (inl other) = node_value_stands is_within n inputs (le-leb (length ws) most_deep few) h reason other
  node_stands n inputs h few balanced reason (inr (m, others, e, k, low, unbalanced, why)) =
      unbalanced (subst (λ k. IsBalanced (counted - 1) (sum (wanted_behind k ws))) (same_node n m inputs others h k e).1 balanced)

  other_node_one : (line : Text) (a b : TextReason) → IsOtherNode ws counted line a → IsOtherNode ws counted line b → a ≡ b
  other_node_one line a b (inl h) (inl k) = other_one (deep is_within node_wording) (deep_told is_within node_told) line a b h k
  other_node_one line a b (inl h) (inr (m, others, e, k, few, unbalanced, why)) =
      absurd (node_value_stands is_within m others (le-leb (length ws) most_deep few) k a (subst (λ l. IsOther (deep is_within node_wording) l a) e h))
  other_node_one line a b (inr (m, others, e, k, few, unbalanced, why)) (inl h) =
      absurd (node_value_stands is_within m others (le-leb (length ws) most_deep few) k b (subst (λ l. IsOther (deep is_within node_wording) l b) e h))
  other_node_one line a b (inr (n, inputs, e, h, few, unbalanced, why)) (inr (m, others, f, k, low, unlike, because)) = why ∙ sym because

-- ---- counts

module _ (word : Text) where
  behind_word : (t u : Text) → word ␣ t ≡ word ␣ u → t ≡ u
  behind_word t u e = sym (drop-append-add word (32 ∷ t) 1) ∙ ap (drop (length word + 1)) e ∙ drop-append-add word (32 ∷ u) 1

  same_count : (m n : ℕ) → IsShort m → IsShort n → word ␣ decimal m ≡ word ␣ decimal n → m ≡ n
  same_count m n short small e = numeral_injective m n (sym (short_decimal m short) ∙ behind_word (decimal m) (decimal n) e ∙ short_decimal n small)

  module _ (least most : ℕ) where
    count_stands : (n : ℕ) → least ≤ n → n ≤ most → IsShort n → (reason : TextReason) → IsOtherCount word least most (word ␣ decimal n) reason → ⊥
    count_stands n some few short reason (inl h) = h.0 n some (ap (λ t. word ␣ t) (short_decimal n short))
    count_stands n some few short reason (inr (m, e, past, why)) =
        let same = numeral_injective n m (sym (short_decimal n short) ∙ behind_word (decimal n) (numeral m) e) in
        omega (arith, same, past, few)

    other_count_one : least ≤ most → (line : Text) (a b : TextReason) → IsOtherCount word least most line a → IsOtherCount word least most line b → a ≡ b
    other_count_one some line a b (inl h) (inl k) = h.1 ∙ sym k.1
    other_count_one some line a b (inl h) (inr (n, e, past, why)) = absurd (h.0 n (omega (arith, some, past)) e)
    other_count_one some line a b (inr (n, e, past, why)) (inl k) = absurd (k.0 n (omega (arith, some, past)) e)
    other_count_one some line a b (inr (n, e, past, why)) (inr (m, f, over, because)) = why ∙ sym because

-- ---- the lines of two derivations

-- a line stands next, and can be read
abbrev LineNext : Text → Type 0
LineNext x = (l : Line) × (rest : Text) × IsReadableLine l × (x ≡ ended (line_words l) ++ rest)

-- they are one, or the one goes on where the other ends
abbrev LinesSplit : List Line → List Line → Text → Text → Type 0
LinesSplit ls ms x y = ((ls ≡ ms) × (x ≡ y)) ⊎ (((length ls < length ms) × LineNext x) ⊎ ((length ms < length ls) × LineNext y))

split_behind : (l m : Line) (ls ms : List Line) (x y : Text) → l ≡ m → LinesSplit ls ms x y → LinesSplit (l ∷ ls) (m ∷ ms) x y
split_behind l m ls ms x y e (inl h) = inl ((λ i. e i ∷ h.0 i), h.1)
split_behind l m ls ms x y e (inr (inl h)) = inr (inl (omega (arith, h.0), h.1))
split_behind l m ls ms x y e (inr (inr h)) = inr (inr (omega (arith, h.0), h.1))

lines_split : (ls ms : List Line) (x y : Text) → AllByRecursion IsReadableLine ls → AllByRecursion IsReadableLine ms → flat_map ended (map line_words ls) ++ x ≡ flat_map ended (map line_words ms) ++ y → LinesSplit ls ms x y
lines_split [] [] x y h k e = inl (refl, e)
lines_split [] (m ∷ ms) x y h k e = inr (inl (omega arith, (m, flat_map ended (map line_words ms) ++ y, k.0, e ∙ append_assoc (ended (line_words m)) (flat_map ended (map line_words ms)) y)))
lines_split (l ∷ ls) [] x y h k e = inr (inr (omega arith, (l, flat_map ended (map line_words ls) ++ x, h.0, sym e ∙ append_assoc (ended (line_words l)) (flat_map ended (map line_words ls)) x)))
lines_split (l ∷ ls) (m ∷ ms) x y h k e =
    let v : Text = flat_map ended (map line_words ls) ++ x in
    let w : Text = flat_map ended (map line_words ms) ++ y in
    let cut = cut_told (line_words l) (line_words m) v w (line_line l h.0).1 (line_line m k.0).1
    (sym (append_assoc (ended (line_words l)) (flat_map ended (map line_words ls)) x) ∙ e ∙ append_assoc (ended (line_words m)) (flat_map ended (map line_words ms)) y) in
    split_behind l m ls ms x y (same_line l m h.0 k.0 cut.0) (lines_split ls ms x y h.1 k.1 cut.1)

-- texts that begin with a count and more lines have one count
heads_cut : (word : Text) (m n : ℕ) (ls ms : List Text) (x y : Text) → IsWord word → IsShort m → IsShort n → flat_map ended ((word ␣ decimal m) ∷ ls) ++ x ≡ flat_map ended ((word ␣ decimal n) ∷ ms) ++ y
    → (m ≡ n) × (flat_map ended ls ++ x ≡ flat_map ended ms ++ y)
heads_cut word m n ls ms x y is short small e =
    let cut = cut_told (word ␣ decimal m) (word ␣ decimal n) (flat_map ended ls ++ x) (flat_map ended ms ++ y) (count_line word m is short).1 (count_line word n is small).1
    (sym (append_assoc (ended (word ␣ decimal m)) (flat_map ended ls) x) ∙ e ∙ append_assoc (ended (word ␣ decimal n)) (flat_map ended ms) y) in
    (same_count word m n short small cut.0, cut.1)

-- a count that is within the limit isn't refused
module _ (word : Text) (is : IsWord word) (least most count : ℕ) (some : least ≤ count) (few : count ≤ most) (short : IsShort count) (left rest : Text) (number : ℕ) where
  count_not_next : left ≡ ended (word ␣ decimal count) ++ rest → (r : TextRefusal) → IsNextFault (IsOtherCount word least most) left number r → ⊥
  count_not_next e = not_next (IsOtherCount word least most) left number (word ␣ decimal count) rest (count_line word count is short).1 e (count_stands word least most count some few short)

line_not_next : (x : Text) (number : ℕ) → LineNext x → (r : TextRefusal) → IsNextFault (IsOther line_wording) x number r → ⊥
line_not_next x number (l, rest, h, e) = not_next (IsOther line_wording) x number (line_words l) rest (line_line l h).1 e (line_stands l h)

-- ---- a derivation

lines_count : (count : ℕ) → count ≤ most_lines → IsShort count
lines_count count few = omega (arith, few)

module _ (left : Text) (number : ℕ) (r s : TextRefusal) where
  derivation_one : IsFaultOfDerivation left number r → IsFaultOfDerivation left number s → r ≡ s
  derivation_one (inl h) (inl k) = next_one (IsOtherCount (codes "lines") 0 most_lines) left number (other_count_one (codes "lines") 0 most_lines (omega arith)) r s h k
  derivation_one (inl h) (inr (count, ls, all, less, few, (rest, e, k))) =
      absurd (count_not_next (codes "lines") refl 0 most_lines count (omega arith) few (lines_count count few) left (flat_map ended (map line_words ls) ++ rest) number
      (e ∙ append_assoc (ended (codes "lines" ␣ decimal count)) (flat_map ended (map line_words ls)) rest) r h)
  derivation_one (inr (count, ls, all, less, few, (rest, e, h))) (inl k) =
      absurd (count_not_next (codes "lines") refl 0 most_lines count (omega arith) few (lines_count count few) left (flat_map ended (map line_words ls) ++ rest) number
      (e ∙ append_assoc (ended (codes "lines" ␣ decimal count)) (flat_map ended (map line_words ls)) rest) s k)
  derivation_one (inr (count, ls, all, less, few, (rest, e, h))) (inr (more, ms, are, fewer, low, (behind, f, k))) =
      let cut = heads_cut (codes "lines") count more (map line_words ls) (map line_words ms) rest behind refl (lines_count count few) (lines_count more low) (sym e ∙ f) in
      by (lines_split ls ms rest behind all are cut.1) where
        by : LinesSplit ls ms rest behind → r ≡ s
        by (inl same) =
            next_one (IsOther line_wording) rest (counted_on number (length (derivation_lines count ls))) (other_one line_wording line_told) r s h
            (subst (λ (q : List Line × Text). IsNextFault (IsOther line_wording) q.1 (counted_on number (length (derivation_lines more q.0))) s) (both_same (sym same.0) (sym same.1)) k)
        by (inr (inl next)) = absurd (line_not_next rest (counted_on number (length (derivation_lines count ls))) next.1 r h)
        by (inr (inr next)) = absurd (line_not_next behind (counted_on number (length (derivation_lines more ms))) next.1 s k)

-- a whole derivation has no fault
derivation_stands : (ls : List Line) (rest left : Text) (number : ℕ) (r : TextRefusal) → AreDerivation ls → left ≡ flat_map ended (derivation_lines (length ls) ls) ++ rest → IsFaultOfDerivation left number r → ⊥
derivation_stands ls rest left number r are e (inl h) =
    count_not_next (codes "lines") refl 0 most_lines (length ls) (omega arith) are.1 (lines_count (length ls) are.1) left (flat_map ended (map line_words ls) ++ rest) number
    (e ∙ append_assoc (ended (codes "lines" ␣ decimal (length ls))) (flat_map ended (map line_words ls)) rest) r h
derivation_stands ls rest left number r are e (inr (count, ms, all, less, few, (behind, f, h))) =
    let cut = heads_cut (codes "lines") (length ls) count (map line_words ls) (map line_words ms) rest behind refl (lines_count (length ls) are.1) (lines_count count few) (sym e ∙ f) in
    by cut.0 (lines_split ls ms rest behind are.0 all cut.1) where
      by : length ls ≡ count → LinesSplit ls ms rest behind → ⊥
      by all (inl same) = omega (arith, all, less, ap length same.0)
      by all (inr (inl next)) = omega (arith, all, less, next.0)
      by all (inr (inr next)) = line_not_next behind (counted_on number (length (derivation_lines count ms))) next.1 r h

-- ---- the nodes of two plans

-- a node stands next, which can be read and is wanted there
record NodeNext (ws : List ℕ) (counted : ℕ) (x : Text) : Type 0 where
  pub node : Node
  pub inputs : ℕ
  pub rest : Text
  pub readable : IsReadableNode node inputs
  pub some : 0 < length ws
  pub few : length ws ≤ most_deep
  pub balanced : IsBalanced (counted - 1) (sum (wanted_behind inputs ws))
  pub begins : x ≡ ended (node_words node inputs) ++ rest

node_not_next : (ws : List ℕ) (counted : ℕ) (x : Text) (number : ℕ) → NodeNext ws counted x → (r : TextRefusal) → IsNextFault (IsOtherNode ws counted) x number r → ⊥
node_not_next ws counted x number next =
    not_next (IsOtherNode ws counted) x number (node_words next.node next.inputs) next.rest (node_line next.node next.inputs next.readable).1 next.begins
    (node_stands ws counted next.node next.inputs next.readable next.few next.balanced)

-- what nodes lead to, and the text behind them
abbrev Reached : Type 0
Reached = List (Node × ℕ) × (List ℕ × (ℕ × Text))

-- they are one, or the one goes on where the other ends
abbrev NodesSplit : Reached → Reached → Type 0
NodesSplit p q = (p ≡ q) ⊎ (NodeNext p.1.0 p.1.1.0 p.1.1.1 ⊎ NodeNext q.1.0 q.1.1.0 q.1.1.1)

nodes_split_behind : (n m : Node × ℕ) (ns ms : List (Node × ℕ)) (p q : List ℕ × (ℕ × Text)) → n ≡ m → NodesSplit (ns, p) (ms, q) → NodesSplit (n ∷ ns, p) (m ∷ ms, q)
nodes_split_behind n m ns ms p q e (inl h) = inl (λ i. (e i ∷ (h i).0, (h i).1))
nodes_split_behind n m ns ms p q e (inr h) = inr h

-- the first node of those that lead on stands next
first_next : (ws after : List ℕ) (counted more : ℕ) (n : Node × ℕ) (ns : List (Node × ℕ)) (behind : List ℕ) (less : ℕ) (x y : Text) → LeadsTo ws counted [] after more → LeadsTo ws counted (n ∷ ns) behind less
    → x ≡ flat_map ended (nodes_words (n ∷ ns)) ++ y → NodeNext after more x
first_next ws after counted more n ns behind less x y h k e =
    subst (λ ws. NodeNext ws more x) h.0 (subst (λ counted. NodeNext ws counted x) h.1
    (record {
      node = n.0;
      inputs = n.1;
      rest = flat_map ended (nodes_words ns) ++ y;
      readable = k.0;
      some = k.1;
      few = k.2;
      balanced = k.3;
      begins = e ∙ append_assoc (ended (node_words n.0 n.1)) (flat_map ended (nodes_words ns)) y;
    }))

nodes_split : (ns ms : List (Node × ℕ)) (ws after behind : List ℕ) (counted more less : ℕ) (x y : Text) → LeadsTo ws counted ns after more → LeadsTo ws counted ms behind less
    → flat_map ended (nodes_words ns) ++ x ≡ flat_map ended (nodes_words ms) ++ y → NodesSplit (ns, (after, (more, x))) (ms, (behind, (less, y)))
nodes_split [] [] ws after behind counted more less x y h k e = inl (λ i. ([], ((sym h.0 ∙ k.0) i, ((sym h.1 ∙ k.1) i, e i))))
nodes_split [] (m ∷ ms) ws after behind counted more less x y h k e = inr (inl (first_next ws after counted more m ms behind less x y h k e))
nodes_split (n ∷ ns) [] ws after behind counted more less x y h k e = inr (inr (first_next ws behind counted less n ns after more y x k h (sym e)))
nodes_split (n ∷ ns) (m ∷ ms) ws after behind counted more less x y h k e =
    let v : Text = flat_map ended (nodes_words ns) ++ x in
    let w : Text = flat_map ended (nodes_words ms) ++ y in
    let cut = cut_told (node_words n.0 n.1) (node_words m.0 m.1) v w (node_line n.0 n.1 h.0).1 (node_line m.0 m.1 k.0).1
    (sym (append_assoc (ended (node_words n.0 n.1)) (flat_map ended (nodes_words ns)) x) ∙ e ∙ append_assoc (ended (node_words m.0 m.1)) (flat_map ended (nodes_words ms)) y) in
    let same = same_node n.0 m.0 n.1 m.1 h.0 k.0 cut.0 in
    let leads : LeadsTo (wanted_behind n.1 ws) (counted - 1) ms behind less = subst (λ k. LeadsTo (wanted_behind k ws) (counted - 1) ms behind less) (sym same.1) k.4 in
    nodes_split_behind n m ns ms (after, (more, x)) (behind, (less, y)) (λ i. (same.0 i, same.1 i)) (nodes_split ns ms (wanted_behind n.1 ws) after behind (counted - 1) more less x y h.4 leads cut.1)

abbrev IsNodeFault : ℕ → TextRefusal → Reached → Type 0
IsNodeFault number r p = IsNextFault (IsOtherNode p.1.0 p.1.1.0) p.1.1.1 (counted_on number (length (nodes_words p.0))) r

nodes_one : (ws : List ℕ) (counted : ℕ) (left : Text) (number : ℕ) (r s : TextRefusal) → IsFaultOfNodes ws counted left number r → IsFaultOfNodes ws counted left number s → r ≡ s
nodes_one ws counted left number r s (ns, after, more, leads, some, (rest, e, h)) (ms, behind, less, lead, few, (stays, f, k)) =
    by (nodes_split ns ms ws after behind counted more less rest stays leads lead (sym e ∙ f)) where
      by : NodesSplit (ns, (after, (more, rest))) (ms, (behind, (less, stays))) → r ≡ s
      by (inl same) = next_one (IsOtherNode after more) rest (counted_on number (length (nodes_words ns))) (other_node_one after more) r s h (subst (IsNodeFault number s) (sym same) k)
      by (inr (inl next)) = absurd (node_not_next after more rest (counted_on number (length (nodes_words ns))) next r h)
      by (inr (inr next)) = absurd (node_not_next behind less stays (counted_on number (length (nodes_words ms))) next s k)

-- nodes that lead to the end have no fault
nodes_stand : (ws : List ℕ) (counted : ℕ) (ns : List (Node × ℕ)) (rest left : Text) (number : ℕ) (r : TextRefusal) → LeadsTo ws counted ns [] 0 → left ≡ flat_map ended (nodes_words ns) ++ rest → IsFaultOfNodes ws counted left number r → ⊥
nodes_stand ws counted ns rest left number r whole e (ms, after, more, leads, some, (stays, f, h)) =
    by (nodes_split ns ms ws [] after counted 0 more rest stays whole leads (sym e ∙ f)) where
      by : NodesSplit (ns, ([], (0, rest))) (ms, (after, (more, stays))) → ⊥
      by (inl same) = omega (arith, some, ap (λ (p : Reached). length p.1.0) same)
      by (inr (inl next)) = omega (arith, next.some)
      by (inr (inr next)) = node_not_next after more stays (counted_on number (length (nodes_words ms))) next r h

-- ---- a plan

nodes_count : (count : ℕ) → count ≤ most_nodes → IsShort count
nodes_count count few = omega (arith, few)

plan_cut : (m n : ℕ) (x y : Text) → m ≤ most_nodes → n ≤ most_nodes → ended (codes "plan" ␣ decimal m) ++ x ≡ ended (codes "plan" ␣ decimal n) ++ y → (m ≡ n) × (x ≡ y)
plan_cut m n x y few low e =
    let cut = cut_told (codes "plan" ␣ decimal m) (codes "plan" ␣ decimal n) x y (count_line (codes "plan") m refl (nodes_count m few)).1 (count_line (codes "plan") n refl (nodes_count n low)).1 e in
    (same_count (codes "plan") m n (nodes_count m few) (nodes_count n low) cut.0, cut.1)

module _ (left : Text) (number : ℕ) (r s : TextRefusal) where
  plan_one : IsFaultOfPlan left number r → IsFaultOfPlan left number s → r ≡ s
  plan_one (inl h) (inl k) = next_one (IsOtherCount (codes "plan") 1 most_nodes) left number (other_count_one (codes "plan") 1 most_nodes (omega arith)) r s h k
  plan_one (inl h) (inr (count, rest, some, few, e, k)) = absurd (count_not_next (codes "plan") refl 1 most_nodes count (omega (arith, some)) few (nodes_count count few) left rest number e r h)
  plan_one (inr (count, rest, some, few, e, h)) (inl k) = absurd (count_not_next (codes "plan") refl 1 most_nodes count (omega (arith, some)) few (nodes_count count few) left rest number e s k)
  plan_one (inr (count, rest, some, few, e, h)) (inr (more, stays, any, low, f, k)) =
      let cut = plan_cut count more rest stays few low (sym e ∙ f) in
      nodes_one (1 ∷ []) count rest (counted_on number 1) r s h (subst (λ (q : ℕ × Text). IsFaultOfNodes (1 ∷ []) q.0 q.1 (counted_on number 1) s) (both_same (sym cut.0) (sym cut.1)) k)

behind_count : (count : ℕ) (ns : List (Node × ℕ)) (rest left : Text) → left ≡ flat_map ended (plan_lines count ns) ++ rest → left ≡ ended (codes "plan" ␣ decimal count) ++ (flat_map ended (nodes_words ns) ++ rest)
behind_count count ns rest left e = e ∙ append_assoc (ended (codes "plan" ␣ decimal count)) (flat_map ended (nodes_words ns)) rest

-- a whole plan has no fault
plan_stands : (count : ℕ) (ns : List (Node × ℕ)) (rest left : Text) (number : ℕ) (r : TextRefusal) → ArePlan count ns → left ≡ flat_map ended (plan_lines count ns) ++ rest → IsFaultOfPlan left number r → ⊥
plan_stands count ns rest left number r are e (inl h) =
    count_not_next (codes "plan") refl 1 most_nodes count (omega (arith, are.0)) are.1 (nodes_count count are.1) left (flat_map ended (nodes_words ns) ++ rest) number (behind_count count ns rest left e) r h
plan_stands count ns rest left number r are e (inr (more, stays, some, few, f, h)) =
    let cut = plan_cut count more (flat_map ended (nodes_words ns) ++ rest) stays are.1 few (sym (behind_count count ns rest left e) ∙ f) in
    nodes_stand (1 ∷ []) count ns rest stays (counted_on number 1) r are.2 (sym cut.1) (subst (λ m. IsFaultOfNodes (1 ∷ []) m stays (counted_on number 1) r) (sym cut.0) h)

-- ---- the end

end_one : (left : Text) (number : ℕ) (r s : TextRefusal) → IsFaultOfEnd left number r → IsFaultOfEnd left number s → r ≡ s
end_one left number r s (inl h) (inl k) = next_one (IsNot (codes "end") OtherForm) left number (not_one (codes "end") OtherForm) r s h k
end_one left number r s (inl h) (inr (rest, e, some, is)) = absurd (not_next (IsNot (codes "end") OtherForm) left number (codes "end") rest refl e (λ reason no. no.0 refl) r h)
end_one left number r s (inr (rest, e, some, is)) (inl k) = absurd (not_next (IsNot (codes "end") OtherForm) left number (codes "end") rest refl e (λ reason no. no.0 refl) s k)
end_one left number r s (inr (rest, e, some, is)) (inr (stays, f, any, are)) = is ∙ sym are

module _ (left : Text) (number : ℕ) (r s : TextRefusal) where
  to_end_one : IsFaultToEnd left number r → IsFaultToEnd left number s → r ≡ s
  to_end_one (inl h) (inl k) = plan_one left number r s h k
  to_end_one (inl h) (inr (count, ns, are, (rest, e, k))) = absurd (plan_stands count ns rest left number r are e h)
  to_end_one (inr (count, ns, are, (rest, e, h))) (inl k) = absurd (plan_stands count ns rest left number s are e k)
  to_end_one (inr (count, ns, are, (rest, e, h))) (inr (more, ms, like, (stays, f, k))) =
      let cut = plan_cut count more (flat_map ended (nodes_words ns) ++ rest) (flat_map ended (nodes_words ms) ++ stays) are.1 like.1 (sym (behind_count count ns rest left e) ∙ behind_count more ms stays left f) in
      by (nodes_split ns ms (1 ∷ []) [] [] count 0 0 rest stays are.2 (subst (λ m. LeadsTo (1 ∷ []) m ms [] 0) (sym cut.0) like.2) cut.1) where
        by : NodesSplit (ns, ([], (0, rest))) (ms, ([], (0, stays))) → r ≡ s
        by (inl same) =
            end_one rest (counted_on number (length (plan_lines count ns))) r s h
            (subst (λ (p : Reached). IsFaultOfEnd p.1.1.1 (counted_on number (length (plan_lines more p.0))) s) (sym same) k)
        by (inr (inl next)) = absurd (omega (arith, next.some))
        by (inr (inr next)) = absurd (omega (arith, next.some))

-- ---- the whole text

behind_version_one : (left : Text) (number : ℕ) (r s : TextRefusal) → IsFaultBehindVersion left number r → IsFaultBehindVersion left number s → r ≡ s
behind_version_one left number r s (inl h) (inl k) = derivation_one left number r s h k
behind_version_one left number r s (inl h) (inr (ls, are, (rest, e, k))) = absurd (derivation_stands ls rest left number r are e h)
behind_version_one left number r s (inr (ls, are, (rest, e, h))) (inl k) = absurd (derivation_stands ls rest left number s are e k)
behind_version_one left number r s (inr (ls, are, (rest, e, h))) (inr (ms, like, (stays, f, k))) =
    let cut = heads_cut (codes "lines") (length ls) (length ms) (map line_words ls) (map line_words ms) rest stays refl (lines_count (length ls) are.1) (lines_count (length ms) like.1) (sym e ∙ f) in
    by cut.0 (lines_split ls ms rest stays are.0 like.0 cut.1) where
      by : length ls ≡ length ms → LinesSplit ls ms rest stays → r ≡ s
      by all (inl same) =
          to_end_one rest (counted_on number (length (derivation_lines (length ls) ls))) r s h
          (subst (λ (q : List Line × Text). IsFaultToEnd q.1 (counted_on number (length (derivation_lines (length q.0) q.0))) s) (both_same (sym same.0) (sym same.1)) k)
      by all (inr (inl next)) = absurd (omega (arith, all, next.0))
      by all (inr (inr next)) = absurd (omega (arith, all, next.0))

version_behind : (text rest : Text) → text ≡ flat_map ended (version ∷ []) ++ rest → text ≡ ended version ++ rest
version_behind text rest e = e ∙ append_assoc (ended version) [] rest

pub faults_are_one : FaultsAreOne
faults_are_one text r s (inl h) (inl k) = next_one (IsNot version OtherVersion) text 0 (not_one version OtherVersion) r s h k
faults_are_one text r s (inl h) (inr (rest, e, k)) = absurd (not_next (IsNot version OtherVersion) text 0 version rest refl (version_behind text rest e) (λ reason no. no.0 refl) r h)
faults_are_one text r s (inr (rest, e, h)) (inl k) = absurd (not_next (IsNot version OtherVersion) text 0 version rest refl (version_behind text rest e) (λ reason no. no.0 refl) s k)
faults_are_one text r s (inr (rest, e, h)) (inr (stays, f, k)) =
    let cut = cut_told version version rest stays refl refl (sym (version_behind text rest e) ∙ version_behind text stays f) in
    behind_version_one rest (counted_on 0 1) r s h (subst (λ t. IsFaultBehindVersion t (counted_on 0 1) s) (sym cut.1) k)
