use Rattle.std.proofs.Common.{◌≡◌, ap, ◌∙◌, refl, ℕ, List, ◌+◌, ◌-◌, ◌≤◌, ◌++◌, length, replicate, arith}
use Rattle.std.specs.Vec.{vec_len}
use Rattle.std.proofs.lemmas.List.{take_all}
use Rattle.std.proofs.lemmas.Simd.{splat_is_map}
use Rattle.joins.proofs.pairs.Pairs.pair_found.Goals as goal

pub returns : goal.returns
returns c =
    let self = c.args.self.now in
    let left = self.left.items in
    let found = self.found.items in
    let count = c.len.result + c.len-2.result in
    let few : length left ≤ count = omega (arith, c.len.ensures, self.left.ok) in
    let more : count - vec_len self.left ≡ length found = omega (arith, c.len.ensures, c.len-2.ensures, self.left.ok, self.found.ok) in
    record {
      left = c.in_ok-resize.ensures.items ∙ ap (λ l. l ++ replicate (count - vec_len self.left) c.args.left) (take_all count left few)
          ∙ ap (λ l. left ++ l) (ap (λ n. replicate n c.args.left) more ∙ splat_is_map found (length found) c.args.left refl);
      right = c.in_ok-append.ensures.items;
    }
