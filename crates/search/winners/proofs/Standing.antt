-- Nodes by number, those of a line more.
use Rattle.std.proofs.Common.{◌≡◌, refl, ap, sym, ◌∙◌, subst, ℕ, zero, suc, ◌+◌, ◌<◌, ◌≤◌, Bool, true, false, ◌&&◌, List, [], ◌∷◌, ◌++◌, length, take, get_or, Contains, set, slice_get, Some, arith, ◌⊎◌, inl, inr, ⊎_elim}
use Rattle.std.specs.List.{list_all}
use Rattle.std.specs.List.Sorted.{IsPermutation}
use Rattle.std.proofs.lemmas.List.Sorted.{All-permutation, IsPermutation-sym}
use Rattle.std.proofs.lemmas.List.Sums.{AllPass-from_list_all, list_all-from_AllPass}
use Rattle.std.proofs.lemmas.Bool.{and_parts, eq-eqb}
use Rattle.std.proofs.lemmas.List.{take_more}
use Rattle.std.proofs.lemmas.List.Elements.{Contains-append_cases}
use Rattle.std.proofs.lemmas.Option.{slice_get_within}
use Rattle.query.specs.declared.query.TableInstance.{TableInstance}
use Rattle.algebra.specs.Columns.{has}
use Rattle.algebra.proofs.Sets.{has-contains}
use Rattle.derivation.specs.Logs.{Log}
use Rattle.logs.specs.Members.{is_member, once_if}
use Rattle.logs.specs.Sets.{times}
use Rattle.logs.proofs.Times.{times-none}
use Rattle.physical.specs.declared.plan.Node.{Node}
use Rattle.physical.specs.declared.plan.Node.TheVariants.{Implements}
use Rattle.labels.specs.Nodes.{HasNodes, fits_line, is_of_line, node_fits}
use Rattle.winners.specs.declared.nodes.Nodes.{Nodes}
use Rattle.winners.specs.declared.nodes.Span.{Span}
use Rattle.winners.specs.Spans.{AllFit, AreMade, HasClass, HasLine, HasLines, IsFront}
use Rattle.winners.proofs.Numbering.{only}
use Rattle.winners.proofs.Labelling.{list_all_by}
use Rattle.winners.proofs.Lists.{get-append, get-set, same_read, some_inj, there}

all_at : {A : Type 0} (p : A → Bool) (xs : List A) (i : ℕ) (x : A) → list_all p xs ≡ true → slice_get xs i ≡ Some x → p x ≡ true
all_at p [] i x h e = absurd (cc)
all_at p (y ∷ xs) zero x h e = ap p (sym (some_inj y x e)) ∙ (and_parts (p y) (list_all p xs) h).0
all_at p (y ∷ xs) (suc i) x h e = all_at p xs i x (and_parts (p y) (list_all p xs) h).1 e

get-behind : {A : Type 0} (xs ys : List A) (j : ℕ) → slice_get (xs ++ ys) (length xs + j) ≡ slice_get ys j
get-behind [] ys j = ap (slice_get ys) (omega arith)
get-behind (x ∷ xs) ys j =
    let next : length (x ∷ xs) + j ≡ suc (length xs + j) = omega arith in
    ap (slice_get (x ∷ xs ++ ys)) next ∙ get-behind xs ys j

get-either : {A : Type 0} (xs ys : List A) (k : ℕ) (x : A) → slice_get (xs ++ ys) k ≡ Some x → (slice_get xs k ≡ Some x) ⊎ ((j : ℕ) × (slice_get ys j ≡ Some x))
get-either [] ys k x e = inr (k, e)
get-either (y ∷ xs) ys zero x e = inl e
get-either (y ∷ xs) ys (suc k) x e = get-either xs ys k x e

-- nodes in another order
list_all-moved : (p : Node → Bool) (xs ys : List Node) → IsPermutation xs ys → list_all p xs ≡ true → list_all p ys ≡ true
list_all-moved p xs ys moved all = list_all-from_AllPass p ys (All-permutation (λ x. p x ≡ true) xs ys moved (AllPass-from_list_all p xs all))

pub fits-moved : (instances : List TableInstance) (E : Log) (cols : ℕ → List ℕ) (line : ℕ) (own moved : List Node) → IsPermutation own moved → list_all (fits_line instances E cols line) own ≡ true → list_all (fits_line instances E cols line) moved ≡ true
fits-moved instances E cols line = list_all-moved (fits_line instances E cols line)

pub nodes-moved : (instances : List TableInstance) (E : Log) (cols : ℕ → List ℕ) (line : ℕ) (own moved : List Node) → IsPermutation own moved → HasNodes instances E cols line own → HasNodes instances E cols line moved
nodes-moved instances E cols line own moved is has p all = has p (list_all-moved p moved own (IsPermutation-sym own moved is) all)

module _ (instances : List TableInstance) (E : Log) (cols : ℕ → List ℕ) (line : ℕ) (old own new : List Node) (news : new ≡ old ++ own) where
  pub front_more : IsFront old new
  front_more k node at = ap (λ ns. slice_get ns k) news ∙ get-append old own k node at

  pub fit_more : AllFit instances E cols old → list_all (fits_line instances E cols line) own ≡ true → AllFit instances E cols new
  fit_more fit owns k node at = ⊎_elim
      (λ before. fit k node before)
      (λ behind. (and_parts (is_of_line line node) (node_fits instances E cols node) (all_at (fits_line instances E cols line) own behind.0 node owns behind.1)).1)
      (get-either old own k node (sym (ap (λ ns. slice_get ns k) news) ∙ at))

  pub line_more : HasNodes instances E cols line own → HasLine instances E cols (length old) new line
  line_more has p holds o fits =
      let all = list_all_by p own (λ j node at.
      let there : slice_get new (length old + j) ≡ Some node = ap (λ ns. slice_get ns (length old + j)) news ∙ get-behind old own j ∙ at in
      holds (length old + j) node (omega arith) (slice_get_within new (length old + j) node there) there) in
      has p all (Implements line o) (ap (λ b. b && node_fits instances E cols (Implements line o)) (eq-eqb line line refl) ∙ fits)

pub front_length : (old new : List Node) → IsFront old new → length old ≤ length new
front_length [] new front = omega arith
front_length (n ∷ old) new front =
    let (node, at) = there (n ∷ old) (length old) (omega arith) in
    let lt = slice_get_within new (length old) node (front (length old) node at) in
    omega arith

-- the nodes of one line more
pub lines_more : (instances : List TableInstance) (E : Log) (cols : ℕ → List ℕ) (start : ℕ) (nodes more : List Node) (lines : List ℕ) (i : ℕ) → i < length lines → start ≤ length nodes → IsFront nodes more
    → HasLines instances E cols start nodes (take i lines) → HasLine instances E cols (length nodes) more (get_or lines i 0) → HasLines instances E cols start more (take (i + 1) lines)
lines_more instances E cols start nodes more lines i lt le front old own line has p holds o fits = ⊎_elim
    (λ before. old line before p (λ k node low high at. holds k node low (slice_get_within more k node (front k node at)) (front k node at)) o fits)
    (λ last.
    let same = only (get_or lines i 0) line last in
    subst (λ n. HasLine instances E cols (length nodes) more n) same own p (λ k node low high at. holds k node (omega arith) high at) o fits)
    (Contains-append_cases (take i lines) (get_or lines i 0 ∷ []) line (subst (λ v. Contains v line) (take_more lines i 0 lt) has))

-- a line that is counted is listed
pub listed : (E : Log) (class : ℕ) (lines : List ℕ) → ((n : ℕ) → times n lines ≡ once_if (is_member E class n)) → (line : ℕ) → is_member E class line ≡ true → Contains lines line
listed E class lines exact line is = by (has lines line) refl
  where
    by : (b : Bool) → has lines line ≡ b → Contains lines line
    by true at = has-contains lines line at
    by false at = absurd (let never : 0 ≡ 1 = sym (times-none line lines at) ∙ exact line ∙ ap once_if is in omega (arith, never))

module _ (instances : List TableInstance) (E : Log) (cols : ℕ → List ℕ) where
  -- the nodes of all lines of a class
  pub class_of_lines : (old new : List Node) (class : ℕ) (lines : List ℕ) → ((n : ℕ) → times n lines ≡ once_if (is_member E class n)) → HasLines instances E cols (length old) new lines
      → HasClass instances E cols new class (record { start = length old; end = length new })
  class_of_lines old new class lines exact have = record {
    within = omega arith;
    each = λ p holds line o member_ fits. have line (listed E class lines exact line member_) p holds o fits;
  }

  pub class_front : (old new : List Node) (class : ℕ) (span : Span) → IsFront old new → HasClass instances E cols old class span → HasClass instances E cols new class span
  class_front old new class span front own = record {
    within = let le = front_length old new front in omega (arith, own.within, le);
    each = λ p holds line o member_ fits. own.each p (λ k node low high at. holds k node low high (front k node at)) line o member_ fits;
  }

  -- classes that have nodes keep them as more nodes come
  pub made_front : (old new : Nodes) → IsFront old.list.items new.list.items → AllFit instances E cols new.list.items → new.spans.items ≡ old.spans.items → AreMade instances E cols old → AreMade instances E cols new
  made_front old new front fit spans made = record {
    fit = fit;
    classes = λ class span at. class_front old.list.items new.list.items class span front (made.classes class span (ap (λ xs. slice_get xs class) (sym spans) ∙ at));
  }

  -- and one class more has nodes
  pub made_more : (old new : Nodes) (class : ℕ) (span : Span) → class < length old.spans.items → IsFront old.list.items new.list.items → AllFit instances E cols new.list.items
      → new.spans.items ≡ set old.spans.items class (Some span) → HasClass instances E cols new.list.items class span → AreMade instances E cols old → AreMade instances E cols new
  made_more old new class span lt front fit spans own made = record {
    fit = fit;
    classes = λ k s at.
        let now : slice_get (set old.spans.items class (Some span)) k ≡ Some (Some s) = ap (λ xs. slice_get xs k) (sym spans) ∙ at in
        ⊎_elim
        (λ this.
        let same : span ≡ s = some_inj span s (same_read (slice_get (set old.spans.items class (Some span)) k) (Some span) (Some s) this.1 now) in
        subst (HasClass instances E cols new.list.items k) same (subst (λ n. HasClass instances E cols new.list.items n span) (sym this.0) own))
        (λ other. class_front old.list.items new.list.items k s front (made.classes k s (sym other ∙ now)))
        (get-set old.spans.items class (Some span) k lt);
  }
