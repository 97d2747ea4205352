use Rattle.std.proofs.Common.{◌≡◌, refl, ap, sym, ◌∙◌, List, [], ◌∷◌, map, ℕ, length, arith}
use Rattle.algebra.specs.Bags.{Env}
use Rattle.physical.specs.declared.plan.OrderKey.{OrderKey}
use Rattle.physical.specs.Sorts.{keys_order, put_sorted, sorted}
use Rattle.relations.specs.Relations.{env_of, numbered_env, rows_of}
use Rattle.operators.proofs.sorting.sorted.Goals as goal
use Rattle.index_access.proofs.Sorting.{reported}

put-first : (r : Env) (rows : List Env) → put_sorted (keys_order []) r rows ≡ r ∷ rows
put-first r [] = refl
put-first r (s ∷ rows) = refl

no-key : (rows : List Env) → rows ≡ sorted (keys_order []) rows
no-key [] = refl
no-key (r ∷ rows) = ap (λ l. r ∷ l) (no-key rows) ∙ sym (put-first r (sorted (keys_order []) rows))

no-keys : (keys : List OrderKey) (rows : List Env) → 0 ≡ length keys → rows ≡ sorted (keys_order keys) rows
no-keys [] rows none = no-key rows
no-keys (k ∷ keys) rows none = absurd (omega (arith, none))

pub returns-in-None : goal.returns-in-None
returns-in-None c = record { columns_are = refl; rows_are = no-keys c.args.keys.now (rows_of c.args.input (env_of c.args.env.now)) (sym c.in-None.ensures.cases) }

pub returns-in_ok-numbers-in-Some : goal.returns-in_ok-numbers-in-Some
returns-in_ok-numbers-in-Some c =
    let e = env_of c.args.env.now in
    reported c.chosen.result _ _ _ e c.chosen.ensures.columns (c.chosen.ensures.rows e)
    (ap (λ (ns : List ℕ). map (numbered_env c.args.input e) ns) c.as_slice.ensures.value ∙ c.in_ok-numbers-in-Some.ensures.rows ∙ ap (λ (ks : List OrderKey). sorted (keys_order ks) (rows_of c.args.input e)) (sym c.in-Some.ensures.cases.0))
