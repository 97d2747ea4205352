-- Goals by number, one more.
use Rattle.std.proofs.Common.{◌≡◌, ap, sym, ◌∙◌, subst, ℕ, zero, suc, ◌+◌, ◌<◌, true, false, ◌==◌, ◌&&◌, List, [], ◌∷◌, ◌++◌, length, set, take, slice_get, slice_index_or, get_or, Contains, Option, Some, None, arith, ⊎_elim}
use Rattle.std.proofs.lemmas.Bool.{and_parts, cases_eq}
use Rattle.std.proofs.lemmas.List.{get_or-set_same, get_or-set_other, length-set, take_more}
use Rattle.std.proofs.lemmas.List.Elements.{Contains-append_cases, Contains-append_left, Contains-push}
use Rattle.derivation.specs.Logs.{Log, founds, least}
use Rattle.derivation.proofs.Lookups.{founded}
use Rattle.labels.specs.declared.goal.Goal.{Goal}
use Rattle.physical.specs.Orders.{are_columns}
use Rattle.labels.specs.Offers.{are_different, is_goal, same_goal}
use Rattle.labels.proofs.Least.{same_goal-equal}
use Rattle.winners.specs.declared.goals.Goals.{Goals}
use Rattle.winners.specs.Numbers.{AreDistinct, IsIndexed, IsNotAmong, Keeps, is_at}
use Rattle.winners.proofs.Labelling.{same_goal-refl}
use Rattle.winners.proofs.Lists.{get-append, get-push}

pub found_at : (found : Option Goal) (goal : Goal) → is_at found goal ≡ true → found ≡ Some goal
found_at None goal e = absurd (cc)
found_at (Some other) goal e = ap (λ g. Some g) (same_goal-equal other goal e)

pub only : (x k : ℕ) → Contains (x ∷ []) k → x ≡ k
only x k h = by h.0 h.1 h.2
  where
    by : (j : ℕ) → j < 1 → slice_index_or (x ∷ []) j k ≡ k → x ≡ k
    by zero lt is = is
    by (suc j) lt is = absurd (omega (arith, lt))

pub among_more : (list : List Goal) (numbers : List ℕ) (i : ℕ) (goal : Goal) → i < length numbers → IsNotAmong list (take i numbers) goal → is_at (slice_get list (get_or numbers i 0)) goal ≡ false
    → IsNotAmong list (take (i + 1) numbers) goal
among_more list numbers i goal lt old own k has = ⊎_elim
    (λ before. old k before)
    (λ last. subst (λ n. is_at (slice_get list n) goal ≡ false) (only (get_or numbers i 0) k last) own)
    (Contains-append_cases (take i numbers) (get_or numbers i 0 ∷ []) k (subst (λ v. Contains v k) (take_more numbers i 0 lt) has))

-- the class of a goal has the number of a line
pub class_within : (E : Log) (cols : ℕ → List ℕ) (goal : Goal) → is_goal E cols goal ≡ true → goal.class < length E
class_within E cols goal is =
    let own = and_parts (founds E goal.class && (least E goal.class == goal.class)) (are_columns (cols goal.class) goal.order && are_different goal.order) is in
    founded E goal.class (and_parts (founds E goal.class) (least E goal.class == goal.class) own.0).0

pub kept_push : (goals more : List Goal) (goal : Goal) → more ≡ goals ++ goal ∷ [] → Keeps goals more
kept_push goals more goal news i g at = ap (λ gs. slice_get gs i) news ∙ get-append goals (goal ∷ []) i g at

-- a number more in the list of one class
bucket-more : (buckets : List (List ℕ)) (class c i n : ℕ) → class < length buckets → Contains (slice_index_or buckets c []) i
    → Contains (slice_index_or (set buckets class (slice_index_or buckets class [] ++ n ∷ [])) c []) i
bucket-more buckets class c i n lt has = ⊎_elim
    (λ same.
    let own = subst (λ k. Contains (slice_index_or buckets k []) i) same has in
    subst (λ k. Contains (slice_index_or (set buckets class (slice_index_or buckets class [] ++ n ∷ [])) k []) i) (sym same)
    (subst (λ b. Contains b i) (sym (get_or-set_same buckets class (slice_index_or buckets class [] ++ n ∷ []) [] lt)) (Contains-append_left (slice_index_or buckets class []) (n ∷ []) i own)))
    (λ other. subst (λ b. Contains b i) (sym (get_or-set_other buckets class c (slice_index_or buckets class [] ++ n ∷ []) [] other)) has)
    (cases_eq c class)

module _ (E : Log) (cols : ℕ → List ℕ) (old : Goals) (goal : Goal) (is : IsIndexed E cols old) (is_goal_ : is_goal E cols goal ≡ true) (lt : goal.class < length old.by_class.items)
    (absent : IsNotAmong old.list.items (slice_index_or old.by_class.items goal.class []) goal) where
  never : (i : ℕ) (g : Goal) → slice_get old.list.items i ≡ Some g → g ≡ goal → ⊥
  never i g at same =
      let has = subst (λ (h : Goal). Contains (slice_index_or old.by_class.items h.class []) i) same (is.named i g at) in
      let no : same_goal g goal ≡ false = ap (λ found. is_at found goal) (sym at) ∙ absent i has in
      let yes : same_goal g goal ≡ true = subst (λ h. same_goal g h ≡ true) same (same_goal-refl g) in
      absurd (cc)

  distinct-more : AreDistinct (old.list.items ++ goal ∷ [])
  distinct-more i j g h at at_j same =
      let gh = same_goal-equal g h same in
      ⊎_elim
      (λ old_i. ⊎_elim
      (λ old_j. is.distinct i j g h old_i old_j same)
      (λ new_j. absurd (never i g old_i (gh ∙ sym new_j.1)))
      (get-push old.list.items goal h j at_j))
      (λ new_i. ⊎_elim
      (λ old_j. absurd (never j h old_j (sym gh ∙ sym new_i.1)))
      (λ new_j. new_i.0 ∙ sym new_j.0)
      (get-push old.list.items goal h j at_j))
      (get-push old.list.items goal g i at)

  pub indexed_push : (new : Goals) → new.list.items ≡ old.list.items ++ goal ∷ [] → new.by_class.items ≡ set old.by_class.items goal.class (slice_index_or old.by_class.items goal.class [] ++ length old.list.items ∷ [])
      → IsIndexed E cols new
  indexed_push new list_is buckets_are = record {
    classes = ap length buckets_are ∙ length-set old.by_class.items goal.class (slice_index_or old.by_class.items goal.class [] ++ length old.list.items ∷ []) ∙ is.classes;
    goals = λ i g at. ⊎_elim
        (λ old_i. is.goals i g old_i)
        (λ new_i. subst (λ h. is_goal E cols h ≡ true) new_i.1 is_goal_)
        (get-push old.list.items goal g i (sym (ap (λ gs. slice_get gs i) list_is) ∙ at));
    distinct = subst AreDistinct (sym list_is) distinct-more;
    named = λ i g at. subst (λ bs. Contains (slice_index_or bs g.class []) i) (sym buckets_are) (⊎_elim
        (λ old_i. bucket-more old.by_class.items goal.class g.class i (length old.list.items) lt (is.named i g old_i))
        (λ new_i.
        subst (λ (h : Goal). Contains (slice_index_or (set old.by_class.items goal.class (slice_index_or old.by_class.items goal.class [] ++ length old.list.items ∷ [])) h.class []) i) new_i.1
        (subst (λ k. Contains (slice_index_or (set old.by_class.items goal.class (slice_index_or old.by_class.items goal.class [] ++ length old.list.items ∷ [])) goal.class []) k) (sym new_i.0)
        (subst (λ b. Contains b (length old.list.items)) (sym (get_or-set_same old.by_class.items goal.class (slice_index_or old.by_class.items goal.class [] ++ length old.list.items ∷ []) [] lt))
        (Contains-push (slice_index_or old.by_class.items goal.class []) (length old.list.items)))))
        (get-push old.list.items goal g i (sym (ap (λ gs. slice_get gs i) list_is) ∙ at)));
  }
