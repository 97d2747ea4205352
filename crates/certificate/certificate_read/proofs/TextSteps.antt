-- Lines and nodes that are passed one after the other, and faults behind them.
use Rattle.std.proofs.Common.{◌≡◌, refl, sym, ap, subst, ◌∙◌, arith, ℕ, zero, suc, ◌+◌, ◌-◌, ◌<◌, ◌≤◌, ◌^◌, min, inl, inr, List, [], ◌∷◌, ◌++◌, length, flat_map, sum, append-nil, append_assoc, length-append}
use Rattle.std.proofs.lemmas.List.{map-append}
use Rattle.std.proofs.lemmas.List.Sums.{sum_by-cons}
use Rattle.values.specs.declared.fault.Fault.{Fault}
use Rattle.values.specs.declared.fault.Fault.TheVariants.{Memory, Refused}
use Rattle.physical.specs.declared.plan.Node.{Node}
use Rattle.certificate_text.specs.declared.fault.TextReason.{TextReason}
use Rattle.certificate_text.specs.declared.fault.TextRefusal.{TextRefusal}
use Rattle.certificate_text.specs.CertificateText.{Text, ended, node_words}
use Rattle.certificate_read.specs.declared.text_lines.TextLines.{TextLines}
use Rattle.certificate_read.specs.TextCalls.{PassesLine, PassesLines, RefusesFrom, RefusesNext}
use Rattle.certificate_read.specs.TextFaults.{counted_on, nodes_words, some_wanted, wanted_behind, IsFaultBehind, IsFaultOfNodes, IsNextFault, IsOtherNode, LeadsTo}

-- ---- numbers of lines

counted_twice : (n a b : ℕ) → min (min (n + suc a) (2 ^ 64 - 1) + suc b) (2 ^ 64 - 1) ≡ min (n + suc (a + suc b)) (2 ^ 64 - 1)
counted_twice n a b = omega arith

counted_both : (n a b : ℕ) → counted_on (counted_on n a) b ≡ counted_on n (a + b)
counted_both n zero b = let same : b ≡ 0 + b = omega arith in ap (counted_on n) same
counted_both n (suc a) zero = let same : suc a ≡ suc a + 0 = omega arith in ap (counted_on n) same
counted_both n (suc a) (suc b) = let same : suc (a + suc b) ≡ suc a + suc b = omega arith in counted_twice n a b ∙ ap (counted_on n) same

-- ---- lines

lines-append : (ls ms : List Text) (rest : Text) → flat_map ended (ls ++ ms) ++ rest ≡ flat_map ended ls ++ (flat_map ended ms ++ rest)
lines-append [] ms rest = refl
lines-append (l ∷ ls) ms rest = append_assoc (ended l) (flat_map ended (ls ++ ms)) rest ∙ ap (λ t. ended l ++ t) (lines-append ls ms rest) ∙ sym (append_assoc (ended l) (flat_map ended ls) (flat_map ended ms ++ rest))

pub none_passed : (a : TextLines) → PassesLines [] a a
none_passed a = (refl, refl)

pub one_passed : (l : Text) (a b : TextLines) → PassesLine l a b → PassesLines (l ∷ []) a b
one_passed l a b h = (h.0 ∙ ap (λ t. t ++ b.left.now) (sym (append-nil (ended l))), h.1)

pub both_passed : (ls ms : List Text) (a b c : TextLines) → PassesLines ls a b → PassesLines ms b c → PassesLines (ls ++ ms) a c
both_passed ls ms a b c h k = (
  h.0 ∙ ap (λ t. flat_map ended ls ++ t) k.0 ∙ sym (lines-append ls ms c.left.now),
  k.1 ∙ ap (λ n. counted_on n (length ms)) h.1 ∙ counted_both a.number (length ls) (length ms) ∙ ap (counted_on a.number) (sym (length-append ls ms)),
)

-- ---- faults behind lines

pub next_behind : (Is : Text → TextReason → Type 0) (ls : List Text) (a b : TextLines) (r : TextRefusal) → PassesLines ls a b → IsNextFault Is b.left.now b.number r → IsFaultBehind ls Is a.left.now a.number r
next_behind Is ls a b r h k = (b.left.now, h.0, subst (λ n. IsNextFault Is b.left.now n r) h.1 k)

pub fault_behind : (Is : Text → TextReason → Type 0) (ls ms : List Text) (a b : TextLines) (r : TextRefusal) → PassesLines ls a b → IsFaultBehind ms Is b.left.now b.number r → IsFaultBehind (ls ++ ms) Is a.left.now a.number r
fault_behind Is ls ms a b r h k = (
  k.0,
  h.0 ∙ ap (λ t. flat_map ended ls ++ t) k.1 ∙ sym (lines-append ls ms k.0),
  subst (λ n. IsNextFault Is k.0 n r) (ap (λ n. counted_on n (length ms)) h.1 ∙ counted_both a.number (length ls) (length ms) ∙ ap (counted_on a.number) (sym (length-append ls ms))) k.2,
)

pub next_as : (Is Are : Text → TextReason → Type 0) (left : Text) (number : ℕ) (r : TextRefusal) → ((line : Text) (reason : TextReason) → Is line reason → Are line reason) → IsNextFault Is left number r → IsNextFault Are left number r
next_as Is Are left number r as_well (at, inl broken) = (at, inl broken)
next_as Is Are left number r as_well (at, inr (line, rest, e, free, is)) = (at, inr (line, rest, e, free, as_well line r.reason is))

pub refuses_as : (Is Are : Text → TextReason → Type 0) (a : TextLines) (fault : Fault TextRefusal) → ((line : Text) (reason : TextReason) → Is line reason → Are line reason) → RefusesNext Is a fault → RefusesNext Are a fault
refuses_as Is Are a Memory as_well h = h
refuses_as Is Are a (Refused r) as_well h = next_as Is Are a.left.now a.number r as_well h

pub from_next : (Is : Text → TextReason → Type 0) (a : TextLines) (fault : Fault TextRefusal) → RefusesNext Is a fault → RefusesFrom (IsNextFault Is) a fault
from_next Is a Memory h = tt
from_next Is a (Refused r) h = h

pub from_as : (Is Are : Text → ℕ → TextRefusal → Type 0) (a b : TextLines) (fault : Fault TextRefusal) → ((r : TextRefusal) → Is b.left.now b.number r → Are a.left.now a.number r) → RefusesFrom Is b fault → RefusesFrom Are a fault
from_as Is Are a b Memory as_well h = tt
from_as Is Are a b (Refused r) as_well h = as_well r h

-- ---- nodes that lead to others

pub sum_first : (w : ℕ) (ws : List ℕ) → sum (w ∷ ws) ≡ w + sum ws
sum_first w ws = sum_by-cons (λ n. n) w ws

pub sum_some : (ws : List ℕ) → sum (some_wanted ws) ≡ sum ws
sum_some [] = refl
sum_some (zero ∷ ws) = sum_some ws ∙ omega arith
sum_some (suc w ∷ ws) = refl

-- a level is wanted, and the deepest has some
abbrev pub HasSome : List ℕ → Type 0
HasSome [] = Unit {0}
HasSome (zero ∷ ws) = ⊥
HasSome (suc w ∷ ws) = Unit {0}

some_has : (ws : List ℕ) → HasSome (some_wanted ws)
some_has [] = tt
some_has (zero ∷ ws) = some_has ws
some_has (suc w ∷ ws) = tt

behind_has : (k : ℕ) (ws : List ℕ) → HasSome (wanted_behind k ws)
behind_has k [] = tt
behind_has k (zero ∷ ws) = some_has (k ∷ zero ∷ ws)
behind_has k (suc w ∷ ws) = some_has (k ∷ w ∷ ws)

pub leads_both : (ws : List ℕ) (m : ℕ) (ns : List (Node × ℕ)) (vs : List ℕ) (k : ℕ) (ms : List (Node × ℕ)) (us : List ℕ) (j : ℕ) → LeadsTo ws m ns vs k → LeadsTo vs k ms us j → LeadsTo ws m (ns ++ ms) us j
leads_both ws m [] vs k ms us j h g = subst (λ ws. LeadsTo ws m ms us j) (sym h.0) (subst (λ m. LeadsTo vs m ms us j) (sym h.1) g)
leads_both ws m (n ∷ ns) vs k ms us j h g = (h.0, h.1, h.2, h.3, leads_both (wanted_behind n.1 ws) (m - 1) ns vs k ms us j h.4 g)

-- the plan can still have its size, and no more is counted
pub leads_balanced : (ws : List ℕ) (m : ℕ) (ns : List (Node × ℕ)) (vs : List ℕ) (k : ℕ) → sum ws ≤ m → LeadsTo ws m ns vs k → (sum vs ≤ k) × (k ≤ m)
leads_balanced ws m [] vs k l h = (omega (arith, l, ap sum h.0, h.1), omega (arith, h.1))
leads_balanced ws m (n ∷ ns) vs k l h = let more = leads_balanced (wanted_behind n.1 ws) (m - 1) ns vs k h.3.0 h.4 in (more.0, omega (arith, more.1))

-- behind some nodes, none is counted where none is wanted
leads_ends : (ws : List ℕ) (m : ℕ) (n : Node × ℕ) (ns : List (Node × ℕ)) (k : ℕ) → LeadsTo ws m (n ∷ ns) [] k → k ≡ 0
leads_ends ws m n [] k h = sym h.4.1 ∙ h.3.1 (ap sum h.4.0)
leads_ends ws m n (o ∷ ns) k h = leads_ends (wanted_behind n.1 ws) (m - 1) o ns k h.4

-- so many are counted as are passed
leads_count : (ws : List ℕ) (m : ℕ) (ns : List (Node × ℕ)) (vs : List ℕ) (k : ℕ) → HasSome ws → sum ws ≤ m → LeadsTo ws m ns vs k → m ≡ length ns + k
leads_count ws m [] vs k some l h = h.1 ∙ omega arith
leads_count [] m (n ∷ ns) vs k some l h = absurd (omega (arith, h.1))
leads_count (zero ∷ ws) m (n ∷ ns) vs k some l h = absurd some
leads_count (suc w ∷ ws) m (n ∷ ns) vs k some l h =
    let more = leads_count (wanted_behind n.1 (suc w ∷ ws)) (m - 1) ns vs k (behind_has n.1 (suc w ∷ ws)) h.3.0 h.4 in
    omega (arith, more, l, sum_first (suc w) ws)

pub leads_whole : (m : ℕ) (n : Node × ℕ) (ns : List (Node × ℕ)) (k : ℕ) → 0 < m → LeadsTo (1 ∷ []) m (n ∷ ns) [] k → (k ≡ 0) × (m ≡ length (n ∷ ns))
leads_whole m n ns k l h =
    let none = leads_ends (1 ∷ []) m n ns k h in
    (none, leads_count (1 ∷ []) m (n ∷ ns) [] k tt (omega (arith, l)) h ∙ omega (arith, none))

-- ---- faults of nodes

words-append : (ns ms : List (Node × ℕ)) → nodes_words (ns ++ ms) ≡ nodes_words ns ++ nodes_words ms
words-append ns ms = map-append (λ (n : Node × ℕ). node_words n.0 n.1) ns ms

pub nodes_passed : (ns ms : List (Node × ℕ)) (a b c : TextLines) → PassesLines (nodes_words ns) a b → PassesLines (nodes_words ms) b c → PassesLines (nodes_words (ns ++ ms)) a c
nodes_passed ns ms a b c h k = subst (λ ls. PassesLines ls a c) (sym (words-append ns ms)) (both_passed (nodes_words ns) (nodes_words ms) a b c h k)

pub first_node : (ws : List ℕ) (m : ℕ) (a : TextLines) (r : TextRefusal) → 0 < length ws → IsNextFault (IsOtherNode ws m) a.left.now a.number r → IsFaultOfNodes ws m a.left.now a.number r
first_node ws m a r l h = ([], ws, m, (refl, refl), l, (a.left.now, refl, h))

pub later_node : (ws : List ℕ) (m : ℕ) (ns : List (Node × ℕ)) (vs : List ℕ) (k : ℕ) (a b : TextLines) (r : TextRefusal) → LeadsTo ws m ns vs k → PassesLines (nodes_words ns) a b → IsFaultOfNodes vs k b.left.now b.number r → IsFaultOfNodes ws m a.left.now a.number r
later_node ws m ns vs k a b r leads passed (ms, after, more, on, some, fault) = (
  ns ++ ms,
  after,
  more,
  leads_both ws m ns vs k ms after more leads on,
  some,
  subst (λ ls. IsFaultBehind ls (IsOtherNode after more) a.left.now a.number r) (sym (words-append ns ms)) (fault_behind (IsOtherNode after more) (nodes_words ns) (nodes_words ms) a b r passed fault),
)
