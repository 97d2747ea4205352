-- Texts in a row, and the places where they end.
use Rattle.std.proofs.Common.{◌≡◌, ℕ, zero, suc, ◌+◌, ◌-◌, ◌<◌, ◌≤◌, List, [], ◌∷◌, ◌++◌, length, map, get_or, drop, take, slice_index, slice_range, refl, sym, ap, ◌∙◌, subst, arith, inl, inr, length-append}
use Rattle.std.specs.List.{range_with_len}
use Rattle.std.specs.Str.{IsUtf8, IsCharBoundary}
use Rattle.std.proofs.lemmas.List.{take-append-le, drop-append-le, get_or_append_left, get_or-take, length-drop, length-take-le, take-append-drop}
use Rattle.std.proofs.lemmas.List.FromFn.{length-map-range_with_len, get_or-map-range_with_len, map-range_with_len_more}
use Rattle.std.proofs.lemmas.Str.{IsCharBoundary-end, IsCharBoundary-at_seam}
use Rattle.std.proofs.Math.Seq.{get_or-append_seam, drop-append_seam, take-length}
use Rattle.values.proofs.Counts.{below_or_last}
use Rattle.store.specs.Texts.{start_of, text_at, texts_of, AreEnds}

-- two functions that agree on the numbers from a on
pub range_alike : {X : Type 0} (f g : ℕ → X) (a n : ℕ) → ((i : ℕ) → a ≤ i → i < a + n → f i ≡ g i) → map f (range_with_len a n) ≡ map g (range_with_len a n)
range_alike f g a zero h = refl
range_alike f g a (suc n) h =
    ap (λ x. x ∷ map f (range_with_len (a + 1) n)) (h a (omega arith) (omega arith))
    ∙ ap (λ xs. g a ∷ xs) (range_alike f g (a + 1) n (λ i low high. h i (omega arith) (omega arith)))

pub range_same : {X : Type 0} (f g : ℕ → X) (n : ℕ) → ((i : ℕ) → i < n → f i ≡ g i) → map f (range_with_len 0 n) ≡ map g (range_with_len 0 n)
range_same f g n h = range_alike f g 0 n (λ i low high. h i (omega arith))

pub text_there : (bytes ends : List ℕ) (i : ℕ) → i < length ends → get_or (texts_of bytes ends) i [] ≡ text_at bytes ends i
text_there bytes ends i lt = get_or-map-range_with_len (text_at bytes ends) 0 (length ends) i i [] lt (omega arith)

pub length_texts : (bytes ends : List ℕ) → length (texts_of bytes ends) ≡ length ends
length_texts bytes ends = length-map-range_with_len (text_at bytes ends) 0 (length ends)

pub start_cut : (bytes ends : List ℕ) (i : ℕ) → AreEnds bytes ends → i < length ends → 0 < start_of ends i → IsCharBoundary bytes (start_of ends i)
start_cut bytes ends zero h lt low = absurd (omega arith)
start_cut bytes ends (suc i) h lt low = h.cut i (omega arith)

-- ---- one text more

start_stays : (ends : List ℕ) (e i : ℕ) → i ≤ length ends → start_of (ends ++ e ∷ []) i ≡ start_of ends i
start_stays ends e zero le = refl
start_stays ends e (suc i) le = get_or_append_left ends (e ∷ []) 0 i (omega arith)

end_stays : (ends : List ℕ) (e i : ℕ) → i < length ends → slice_index (ends ++ e ∷ []) i ≡ slice_index ends i
end_stays ends e i lt = get_or_append_left ends (e ∷ []) 0 i lt

range_stays : (bytes more : List ℕ) (a b : ℕ) → a ≤ b → b ≤ length bytes → slice_range (bytes ++ more) a b ≡ slice_range bytes a b
range_stays bytes more a b le high =
    ap (λ (x : List ℕ). take (b - a) x) (drop-append-le a bytes more (omega arith)) ∙ take-append-le (b - a) (drop a bytes) more (omega (arith, length-drop a bytes))

length_more : (ends : List ℕ) (e : ℕ) → length (ends ++ e ∷ []) ≡ suc (length ends)
length_more [] e = refl
length_more (x ∷ ends) e = ap suc (length_more ends e)

cut_inside : (bytes more : List ℕ) (i : ℕ) → i < length bytes → IsCharBoundary bytes i → IsCharBoundary (bytes ++ more) i
cut_inside bytes more i lt h =
    let same : slice_index (bytes ++ more) i ≡ slice_index bytes i = get_or_append_left bytes more 0 i lt in
    (omega (arith, length-append bytes more), λ low high. rw same (h.1 lt (rw same at high)))

cut_stays : (bytes more : List ℕ) (i : ℕ) → IsUtf8 more → IsCharBoundary bytes i → IsCharBoundary (bytes ++ more) i
cut_stays bytes more i u h = elim (below_or_last i (length bytes) (omega (arith, h.0))) [
  | inl lt ↦ cut_inside bytes more i lt h
  | inr is ↦ subst (λ (k : ℕ). IsCharBoundary (bytes ++ more) k) (sym is) (IsCharBoundary-at_seam (bytes ++ more) bytes more refl u)
]

end_last : (ends : List ℕ) (e i : ℕ) → i ≡ length ends → slice_index (ends ++ e ∷ []) i ≡ e
end_last ends e i is = rw is (get_or-append_seam ends e [] 0)

rises_last : (bytes ends : List ℕ) (e i : ℕ) → AreEnds bytes ends → length bytes ≤ e → i ≡ length ends → start_of (ends ++ e ∷ []) i ≤ slice_index (ends ++ e ∷ []) i
rises_last bytes ends e i h le is =
    let start : start_of (ends ++ e ∷ []) i ≡ length bytes = start_stays ends e i (omega arith) ∙ ap (start_of ends) is ∙ h.last in
    rw (start, end_last ends e i is) le

rises_below : (bytes ends : List ℕ) (e i : ℕ) → AreEnds bytes ends → i < length ends → start_of (ends ++ e ∷ []) i ≤ slice_index (ends ++ e ∷ []) i
rises_below bytes ends e i h lt = rw (start_stays ends e i (omega arith), end_stays ends e i lt) (h.rising i lt)

pub ends_more : (bytes ends text : List ℕ) (e : ℕ) → AreEnds bytes ends → IsUtf8 text → e ≡ length bytes + length text → AreEnds (bytes ++ text) (ends ++ e ∷ [])
ends_more bytes ends text e h u is =
    let size = length_more ends e in
    let whole : length (bytes ++ text) ≡ e = length-append bytes text ∙ sym is in
    record {
      last = ap (start_of (ends ++ e ∷ [])) size ∙ end_last ends e (length ends) refl ∙ sym whole;
      rising = λ i lt. elim (below_or_last i (length ends) (omega arith)) [
        | inl below ↦ rises_below bytes ends e i h below
        | inr last ↦ rises_last bytes ends e i h (omega arith) last
      ];
      cut = λ i lt. elim (below_or_last i (length ends) (omega arith)) [
        | inl below ↦ rw (end_stays ends e i below) (cut_stays bytes text (slice_index ends i) u (h.cut i below))
        | inr last ↦ rw (end_last ends e i last) (subst (λ (k : ℕ). IsCharBoundary (bytes ++ text) k) whole (IsCharBoundary-end (bytes ++ text)))
      ];
    }

end_within : (bytes ends : List ℕ) (i : ℕ) → AreEnds bytes ends → i < length ends → slice_index ends i ≤ length bytes
end_within bytes ends i h lt = (h.cut i lt).0

text_stays : (bytes ends text : List ℕ) (e i : ℕ) → AreEnds bytes ends → i < length ends → text_at (bytes ++ text) (ends ++ e ∷ []) i ≡ text_at bytes ends i
text_stays bytes ends text e i h lt =
    rw (start_stays ends e i (omega arith), end_stays ends e i lt) (range_stays bytes text (start_of ends i) (slice_index ends i) (h.rising i lt) (end_within bytes ends i h lt))

text_last : (bytes ends text : List ℕ) (e : ℕ) → AreEnds bytes ends → e ≡ length bytes + length text → text_at (bytes ++ text) (ends ++ e ∷ []) (length ends) ≡ text
text_last bytes ends text e h is =
    let start : start_of (ends ++ e ∷ []) (length ends) ≡ length bytes = start_stays ends e (length ends) (omega arith) ∙ h.last in
    let size : e - length bytes ≡ length text = omega arith in
    rw (start, end_last ends e (length ends) refl, drop-append_seam bytes text, size) (take-length text)

pub texts_more : (bytes ends text : List ℕ) (e : ℕ) → AreEnds bytes ends → e ≡ length bytes + length text → texts_of (bytes ++ text) (ends ++ e ∷ []) ≡ texts_of bytes ends ++ text ∷ []
texts_more bytes ends text e h is =
    let n = length ends in
    let size : length (ends ++ e ∷ []) ≡ n + 1 = length-append ends (e ∷ []) in
    ap (λ (k : ℕ). map (text_at (bytes ++ text) (ends ++ e ∷ [])) (range_with_len 0 k)) size
    ∙ map-range_with_len_more (text_at (bytes ++ text) (ends ++ e ∷ [])) 0 n n (omega arith)
    ∙ ap (λ (ts : List (List ℕ)). ts ++ text_at (bytes ++ text) (ends ++ e ∷ []) n ∷ []) (range_same (text_at (bytes ++ text) (ends ++ e ∷ [])) (text_at bytes ends) n (λ i lt. text_stays bytes ends text e i h lt))
    ∙ ap (λ (t : List ℕ). texts_of bytes ends ++ t ∷ []) (text_last bytes ends text e h is)

-- ---- the last text taken off

-- lists that are the same with one item more
pub front_same : {X : Type 0} (xs ys : List X) (x y : X) → xs ++ x ∷ [] ≡ ys ++ y ∷ [] → xs ≡ ys
front_same [] [] x y e = refl
front_same [] (z ∷ []) x y e = cc e
front_same [] (z ∷ w ∷ ys) x y e = cc e
front_same (z ∷ []) [] x y e = cc e
front_same (z ∷ w ∷ xs) [] x y e = cc e
front_same (z ∷ xs) (w ∷ ys) x y e =
    let first : z ≡ w = cc e in
    let rest : xs ++ x ∷ [] ≡ ys ++ y ∷ [] = cc e in
    ap (λ t. t ∷ xs) first ∙ ap (λ ts. w ∷ ts) (front_same xs ys x y rest)

ends_rise : (bytes ends : List ℕ) (i j : ℕ) → AreEnds bytes ends → i ≤ j → j < length ends → slice_index ends i ≤ slice_index ends j
ends_rise bytes ends i zero h le lt = let same : i ≡ 0 = omega arith in rw same (omega arith)
ends_rise bytes ends i (suc j) h le lt = elim (below_or_last i (suc j) (omega arith)) [
  | inl below ↦
      let before = ends_rise bytes ends i j h (omega arith) (omega arith) in
      let next = h.rising (suc j) lt in
      omega (arith, before, next)
  | inr is ↦ rw is (omega arith)
]

end_below : (bytes ends : List ℕ) (e i : ℕ) → AreEnds bytes (ends ++ e ∷ []) → i < length ends → slice_index ends i ≤ start_of ends (length ends)
end_below bytes [] e i h lt = absurd (omega arith)
end_below bytes (x ∷ ends) e i h lt =
    let size = length_more (x ∷ ends) e in
    let rise = ends_rise bytes ((x ∷ ends) ++ e ∷ []) i (length ends) h (omega arith) (omega (arith, size)) in
    rw (← end_stays (x ∷ ends) e i lt, ← end_stays (x ∷ ends) e (length ends) (omega arith)) rise

cut_before : (bytes : List ℕ) (n i : ℕ) → i ≤ n → n ≤ length bytes → IsCharBoundary bytes i → IsCharBoundary (take n bytes) i
cut_before bytes n i le high h =
    let size = length-take-le n bytes high in (
      omega (arith, size),
      λ low lead.
          let same : slice_index (take n bytes) i ≡ slice_index bytes i = get_or-take n bytes i 0 (omega (arith, size)) in
          rw same (h.1 (omega (arith, size)) (rw (← same) lead)),
    )

start_within : (bytes ends : List ℕ) (e : ℕ) → AreEnds bytes (ends ++ e ∷ []) → start_of ends (length ends) ≤ length bytes
start_within bytes ends e h =
    let size = length_more ends e in
    let rise = h.rising (length ends) (omega (arith, size)) in
    let start = start_stays ends e (length ends) (omega arith) in
    let high = end_within bytes (ends ++ e ∷ []) (length ends) h (omega (arith, size)) in
    omega (arith, start, rise, high)

pub ends_fewer : (bytes ends : List ℕ) (e : ℕ) → AreEnds bytes (ends ++ e ∷ []) → AreEnds (take (start_of ends (length ends)) bytes) ends
ends_fewer bytes ends e h =
    let size = length_more ends e in
    let high = start_within bytes ends e h in
    record {
      last = sym (length-take-le (start_of ends (length ends)) bytes high);
      rising = λ i lt. rw (← start_stays ends e i (omega arith), ← end_stays ends e i lt) (h.rising i (omega (arith, size)));
      cut = λ i lt. cut_before bytes (start_of ends (length ends)) (slice_index ends i) (end_below bytes ends e i h lt) high (rw (← end_stays ends e i lt) (h.cut i (omega (arith, size))));
    }

pub texts_fewer : (bytes ends : List ℕ) (e : ℕ) (texts : List (List ℕ)) (last : List ℕ) → AreEnds bytes (ends ++ e ∷ []) → texts_of bytes (ends ++ e ∷ []) ≡ texts ++ last ∷ []
    → texts_of (take (start_of ends (length ends)) bytes) ends ≡ texts
texts_fewer bytes ends e texts last h is =
    let n = start_of ends (length ends) in
    let high = start_within bytes ends e h in
    let cut : take n bytes ++ drop n bytes ≡ bytes = take-append-drop n bytes in
    let size = length_more ends e in
    let all : e ≡ length bytes = sym (end_last ends e (length ends) refl) ∙ ap (start_of (ends ++ e ∷ [])) (sym size) ∙ h.last in
    let whole : e ≡ length (take n bytes) + length (drop n bytes) = all ∙ ap length (sym cut) ∙ length-append (take n bytes) (drop n bytes) in
    let more = texts_more (take n bytes) ends (drop n bytes) e (ends_fewer bytes ends e h) whole in
    front_same _ _ _ _ (sym more ∙ ap (λ (b : List ℕ). texts_of b (ends ++ e ∷ [])) cut ∙ is)
