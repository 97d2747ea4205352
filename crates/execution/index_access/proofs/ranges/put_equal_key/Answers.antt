use Rattle.std.proofs.Common.{◌≡◌, ◌<◌, ◌∙◌, ◌∷◌, [], ap, sym, subst, length, map, List, get_or, ℕ, arith, ◌+◌, length-append}
use Rattle.std.proofs.lemmas.List.{get_or_default, length-map, map-append}
use Rattle.values.specs.declared.value.Value.{Value}
use Rattle.relations.specs.Relations.{env_of}
use Rattle.index_access.specs.Cuts.{key_value}
use Rattle.index_access.specs.Probes.{Begins, IsSure}
use Rattle.index_access.proofs.Probes.{sure_more}
use Rattle.index_access.proofs.ranges.put_equal_key.Goals as goal

pub loop-column-preserved : goal.loop-column-preserved
loop-column-preserved c =
    let i = c.loop-column.column-index in
    let key = c.loop-column.key.items in
    let b = c.in-Some.bound in
    let columns = c.args.columns.now in
    let e = env_of c.args.env.now in
    let long : length (map key_value key) ≡ i = length-map key key_value ∙ c.loop-column.invariant.long in
    let low : length (map key_value key) < length columns = omega (arith, long) in
    let items = c.in_ok-push-in-Some.ensures.items in
    let at : get_or columns i 0 ≡ get_or columns (length (map key_value key)) (get_or columns i 0) =
    get_or_default columns i 0 (get_or columns i 0) (omega (arith, long, low)) ∙ ap (λ (n : ℕ). get_or columns n (get_or columns i 0)) (sym long) in
    record {
      long = ap length items ∙ length-append key (b.cell ∷ []) ∙ ap (λ n. n + 1) c.loop-column.invariant.long;
      begins = subst (λ (k : List Value). IsSure c.args.own.now c.args.conditions.now e (λ f. Begins f columns k)) (sym (ap (map key_value) items ∙ map-append key_value key (b.cell ∷ [])))
          (sure_more c.args.own.now c.args.conditions.now e columns (map key_value key) b (get_or columns i 0) c.loop-column.invariant.begins c.in-Some.ensures.ordinary c.in-Some.ensures.side low at);
    }
