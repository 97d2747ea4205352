-- Conditions and chains one after the other, as a loop goes over them.
use Rattle.std.proofs.Common.{◌≡◌, refl, ℕ, ◌+◌, ◌-◌, ◌<◌, ◌≤◌, List, [], ◌∷◌, ◌++◌, length, take, drop, get_or, map, Option, Some, None, option_map, Result, Ok, Err, ap, sym, ◌∙◌, append_assoc, arith}
use Rattle.std.proofs.lemmas.Grind.{common_steps}
use Rattle.std.proofs.lemmas.List.{append-nil, drop_all}
use Rattle.values.specs.declared.fault.Fault.{Fault}
use Rattle.values.specs.declared.fault.Fault.TheVariants as fault
use Rattle.values.specs.Faults.{◌>>=◌, Fails}
use Rattle.values.proofs.Lists.{drop_next}
use Rattle.query.specs.declared.query.Cond.{Cond}
use Rattle.query.specs.declared.query.From.{From}
use Rattle.query.specs.declared.query.From.TheVariants.{Comma}
use Rattle.binder.specs.declared.tables.Numbered.{Numbered}
use Rattle.binder.specs.declared.fault.BindRefusal.{BindRefusal}
use Rattle.binder.specs.Scopes.{Scope, Scopes}
use Rattle.binder.specs.declared.fault.BindReason.TheVariants.{UnknownTable}
use Rattle.binder.specs.Lookups.{refusal}
use Rattle.binder.specs.Selects.{CondBinding, ChainBinding, JoinBinding, FromSoFar, all_in, filter_in, through, commas, from_in}

-- ---- conditions

-- what was bound before, and what is bound still
abbrev pub in_front : List Cond → Result (List Cond × Numbered) BindRefusal → Result (List Cond × Numbered) BindRefusal
in_front front read = read >>= λ x. Ok (front ++ x.0, x.1)

pub none_in_front : (front : List Cond) (read : Result (List Cond × Numbered) BindRefusal) → front ≡ [] → in_front front read ≡ read
none_in_front front (Ok x) none = rw none refl
none_in_front front (Err e) none = refl

one_in_front : (front : List Cond) (b : Cond) (read : Result (List Cond × Numbered) BindRefusal) → in_front front (read >>= λ others. Ok (b ∷ others.0, others.1)) ≡ in_front (front ++ b ∷ []) read
one_in_front front b (Ok x) = ap (λ (cs : List Cond). Ok (cs, x.1)) (simp append_assoc)
one_in_front front b (Err e) = refl

pub conditions_on : {A : Type 0} (f : A → CondBinding) (scopes : Scopes) (front : List Cond) (xs : List A) (i : ℕ) (x : A) (b : Cond) (n m : Numbered) (total : Result (List Cond × Numbered) BindRefusal)
    → i < length xs → x ≡ get_or xs i x → f x scopes n ≡ Ok (b, m) → in_front front (all_in (map f (drop i xs)) scopes n) ≡ total
    → in_front (front ++ b ∷ []) (all_in (map f (drop (i + 1) xs)) scopes m) ≡ total
conditions_on f scopes front xs i x b n m total lt at h so_far =
    let one : in_front front (all_in (map f (drop i xs)) scopes n) ≡ in_front (front ++ b ∷ []) (all_in (map f (drop (i + 1) xs)) scopes m) =
    rw (drop_next xs i x lt at, h) (one_in_front front b (all_in (map f (drop (i + 1) xs)) scopes m)) in
    sym one ∙ so_far

pub conditions_end : {A : Type 0} (f : A → CondBinding) (e : Fault BindRefusal) (scopes : Scopes) (front : List Cond) (xs : List A) (i : ℕ) (x : A) (n : Numbered) (total : Result (List Cond × Numbered) BindRefusal)
    → i < length xs → x ≡ get_or xs i x → Fails e (f x scopes n) → in_front front (all_in (map f (drop i xs)) scopes n) ≡ total → Fails e total
conditions_end f fault.Memory scopes front xs i x n total lt at h so_far = tt
conditions_end f (fault.Refused e) scopes front xs i x n total lt at h so_far =
    let one : in_front front (all_in (map f (drop i xs)) scopes n) ≡ Err e = rw (drop_next xs i x lt at, h) refl in
    sym so_far ∙ one

pub conditions_done : {A : Type 0} (f : A → CondBinding) (scopes : Scopes) (front : List Cond) (xs : List A) (i : ℕ) (n : Numbered) (total : Result (List Cond × Numbered) BindRefusal)
    → length xs ≤ i → in_front front (all_in (map f (drop i xs)) scopes n) ≡ total → total ≡ Ok (front, n)
conditions_done f scopes front xs i n total le so_far =
    let one : in_front front (all_in (map f (drop i xs)) scopes n) ≡ Ok (front, n) = rw (drop_all i xs le) (ap (λ (cs : List Cond). Ok (cs, n)) (append-nil front)) in
    sym so_far ∙ one

-- ---- WHERE

pub filtered : {A : Type 0} (f : A → CondBinding) (o : Option A) (x lent : A) (scopes : Scopes) (n : Numbered) → o ≡ Some x → lent ≡ x
    → filter_in (option_map f o) scopes n ≡ (f lent scopes n >>= λ part. Ok (Some part.0, part.1))
filtered f o x lent scopes n is at = rw (is, at) refl

pub not_filtered : {A : Type 0} (f : A → CondBinding) (o : Option A) (scopes : Scopes) (n : Numbered) → o ≡ None → filter_in (option_map f o) scopes n ≡ Ok (None, n)
not_filtered f o scopes n is = rw is refl

-- ---- joins

pub joins_on : {A : Type 0} (f : A → JoinBinding) (outer : Scopes) (before : Scope) (xs : List A) (i : ℕ) (x : A) (left next : FromSoFar) (total : Result FromSoFar BindRefusal)
    → i < length xs → x ≡ get_or xs i x → f x outer before left ≡ Ok next → through (map f (drop i xs)) outer before left ≡ total
    → through (map f (drop (i + 1) xs)) outer before next ≡ total
joins_on f outer before xs i x left next total lt at h so_far =
    let one : through (map f (drop i xs)) outer before left ≡ through (map f (drop (i + 1) xs)) outer before next = rw (drop_next xs i x lt at, h) refl in
    sym one ∙ so_far

pub joins_end : {A : Type 0} (f : A → JoinBinding) (e : Fault BindRefusal) (outer : Scopes) (before : Scope) (xs : List A) (i : ℕ) (x : A) (left : FromSoFar) (total : Result FromSoFar BindRefusal)
    → i < length xs → x ≡ get_or xs i x → Fails e (f x outer before left) → through (map f (drop i xs)) outer before left ≡ total → Fails e total
joins_end f fault.Memory outer before xs i x left total lt at h so_far = tt
joins_end f (fault.Refused e) outer before xs i x left total lt at h so_far =
    let one : through (map f (drop i xs)) outer before left ≡ Err e = rw (drop_next xs i x lt at, h) refl in
    sym so_far ∙ one

pub joins_done : {A : Type 0} (f : A → JoinBinding) (outer : Scopes) (before : Scope) (xs : List A) (i : ℕ) (left : FromSoFar) (total : Result FromSoFar BindRefusal)
    → length xs ≤ i → through (map f (drop i xs)) outer before left ≡ total → total ≡ Ok left
joins_done f outer before xs i left total le so_far =
    let one : through (map f (drop i xs)) outer before left ≡ Ok left = rw (drop_all i xs le) refl in
    sym so_far ∙ one

-- ---- chains

pub no_chain : {A : Type 0} (f : A → ChainBinding) (xs : List A) (outer : Scopes) (n : Numbered) → length xs < 1 → from_in (map f xs) outer n ≡ Err (refusal UnknownTable 0)
no_chain f [] outer n lt = refl
no_chain f (x ∷ xs) outer n lt = absurd (omega arith)

rest_of : {A : Type 0} (y : A) (ys : List A) → take (length (y ∷ ys) - 1) (drop 1 (y ∷ ys)) ≡ ys
rest_of y ys = grind (arith, common_steps)

pub first_chain : {A : Type 0} (f : A → ChainBinding) (xs : List A) (x : A) (outer : Scopes) (none : Scope) (n : Numbered) → 1 ≤ length xs → x ≡ get_or xs 0 x → none ≡ []
    → from_in (map f xs) outer n ≡ (f x outer none n >>= commas (map f (take (length xs - 1) (drop 1 xs))) outer)
first_chain f [] x outer none n le at empty = absurd (omega arith)
first_chain f (y ∷ ys) x outer none n le at empty = rw (at, empty, rest_of y ys) refl

pub chains_done : {A : Type 0} (f : A → ChainBinding) (outer : Scopes) (xs : List A) (i : ℕ) (left : FromSoFar) (total : Result FromSoFar BindRefusal)
    → length xs ≤ i → commas (map f (drop i xs)) outer left ≡ total → total ≡ Ok left
chains_done f outer xs i left total le so_far =
    let one : commas (map f (drop i xs)) outer left ≡ Ok left = rw (drop_all i xs le) refl in
    sym so_far ∙ one

pub chains_on : {A : Type 0} (f : A → ChainBinding) (outer : Scopes) (xs : List A) (i : ℕ) (x : A) (left right : From) (scope tables : Scope) (n m : Numbered) (total : Result FromSoFar BindRefusal)
    → i < length xs → x ≡ get_or xs i x → f x outer scope n ≡ Ok (right, tables, m) → commas (map f (drop i xs)) outer (left, scope, n) ≡ total
    → commas (map f (drop (i + 1) xs)) outer (Comma left right, scope ++ tables, m) ≡ total
chains_on f outer xs i x left right scope tables n m total lt at h so_far =
    let one : commas (map f (drop i xs)) outer (left, scope, n) ≡ commas (map f (drop (i + 1) xs)) outer (Comma left right, scope ++ tables, m) = rw (drop_next xs i x lt at, h) refl in
    sym one ∙ so_far

pub chains_end : {A : Type 0} (f : A → ChainBinding) (e : Fault BindRefusal) (outer : Scopes) (xs : List A) (i : ℕ) (x : A) (left : From) (scope : Scope) (n : Numbered) (total : Result FromSoFar BindRefusal)
    → i < length xs → x ≡ get_or xs i x → Fails e (f x outer scope n) → commas (map f (drop i xs)) outer (left, scope, n) ≡ total → Fails e total
chains_end f fault.Memory outer xs i x left scope n total lt at h so_far = tt
chains_end f (fault.Refused e) outer xs i x left scope n total lt at h so_far =
    let one : commas (map f (drop i xs)) outer (left, scope, n) ≡ Err e = rw (drop_next xs i x lt at, h) refl in
    sym so_far ∙ one
