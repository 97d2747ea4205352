-- Items and columns one after the other, as a loop goes over them.
use Rattle.std.proofs.Common.{◌≡◌, refl, ℕ, ◌+◌, ◌<◌, ◌≤◌, Bool, List, [], ◌∷◌, ◌++◌, length, drop, get_or, Result, Ok, Err, ap, sym, ◌∙◌, if◌then◌else◌}
use Rattle.std.proofs.lemmas.List.{append-nil, drop_all}
use Rattle.values.specs.declared.fault.Fault.{Fault}
use Rattle.values.specs.declared.fault.Fault.TheVariants as fault
use Rattle.values.specs.Faults.{Fails}
use Rattle.values.proofs.Lists.{drop_next}
use Rattle.schema.proofs.Loops.{after, regroup}
use Rattle.sql_parse.specs.declared.statement.SelectItem.{SelectItem}
use Rattle.binder.specs.declared.output.Output.{Output}
use Rattle.binder.specs.declared.fault.BindRefusal.{BindRefusal}
use Rattle.binder.specs.Scopes.{Scopes}
use Rattle.binder.specs.Outputs.{is_aggregate, output_in, items_in}

pub items_on : (scopes : Scopes) (grouped : Bool) (keys : List ℕ) (number : ℕ) (front : List Output) (xs : List SelectItem) (i : ℕ) (x : SelectItem) (b : Output) (total : Result (List Output) BindRefusal)
    → i < length xs → x ≡ get_or xs i x → output_in scopes grouped keys number x ≡ Ok b → after front (items_in scopes grouped keys number (drop i xs)) ≡ total
    → after (front ++ b ∷ []) (items_in scopes grouped keys (if is_aggregate x then number + 1 else number) (drop (i + 1) xs)) ≡ total
unfolding items_in
items_on scopes grouped keys number front xs i x b total lt at h so_far =
    let next : ℕ = if is_aggregate x then number + 1 else number in
    let one : after front (items_in scopes grouped keys number (drop i xs)) ≡ after (front ++ b ∷ []) (items_in scopes grouped keys next (drop (i + 1) xs)) =
    rw (drop_next xs i x lt at, h) (regroup front b (items_in scopes grouped keys next (drop (i + 1) xs))) in
    sym one ∙ so_far

pub items_end : (scopes : Scopes) (grouped : Bool) (keys : List ℕ) (number : ℕ) (e : Fault BindRefusal) (front : List Output) (xs : List SelectItem) (i : ℕ) (x : SelectItem) (total : Result (List Output) BindRefusal)
    → i < length xs → x ≡ get_or xs i x → Fails e (output_in scopes grouped keys number x) → after front (items_in scopes grouped keys number (drop i xs)) ≡ total → Fails e total
unfolding items_in
items_end scopes grouped keys number fault.Memory front xs i x total lt at h so_far = tt
items_end scopes grouped keys number (fault.Refused e) front xs i x total lt at h so_far =
    let one : after front (items_in scopes grouped keys number (drop i xs)) ≡ Err e = rw (drop_next xs i x lt at, h) refl in
    sym so_far ∙ one

pub items_done : (scopes : Scopes) (grouped : Bool) (keys : List ℕ) (number : ℕ) (front : List Output) (xs : List SelectItem) (i : ℕ) (total : Result (List Output) BindRefusal)
    → length xs ≤ i → after front (items_in scopes grouped keys number (drop i xs)) ≡ total → total ≡ Ok front
unfolding items_in
items_done scopes grouped keys number front xs i total le so_far =
    let one : after front (items_in scopes grouped keys number (drop i xs)) ≡ Ok front = rw (drop_all i xs le) (ap Ok (append-nil front)) in
    sym so_far ∙ one
