use Rattle.std.proofs.Common.{◌≡◌, drop, map, Ok}
use Rattle.values.specs.Faults.{◌>>=◌}
use Rattle.schema.specs.Each.{each}
use Rattle.binder.specs.Ordering.{sort_key_in, without_repeats}
use Rattle.binder.proofs.KeyOrder.{finished}
use Rattle.binder.proofs.ordering.order_over.Given as goal

abbrev pub invariant-loop-key : goal.invariant-loop-key
invariant-loop-key l = record {
  so_far : finished l.order (each (sort_key_in l.scope l.outputs) (drop l.key-index l.keys))
      ≡ (each (sort_key_in l.scope l.outputs) l.keys >>= λ bound. Ok (without_repeats bound));
  known : l.known ≡ map (λ k. k.item) l.order;
}
