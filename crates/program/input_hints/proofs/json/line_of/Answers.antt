use Rattle.std.proofs.Common.{◌≡◌, ◌++◌, ◌∷◌, ◌-◌, ℕ, List, [], length, slice_index_or, string_bytes, arith}
use Rattle.std.proofs.Math.Seq.{get_or-append_seam}
use Rattle.std.proofs.lemmas.List.{length-append}
use Rattle.input_hints.specs.Lines.{AreLines}
use Rattle.input_hints.proofs.json.line_of.Goals as goal

line-end : (text : List ℕ) → slice_index_or (text ++ (10 ∷ [])) (length (text ++ (10 ∷ [])) - 1) 10 ≡ 10
line-end text =
    let last : length (text ++ (10 ∷ [])) - 1 ≡ length text = omega (arith, length-append text (10 ∷ [])) in
    rw last (get_or-append_seam text 10 [] 10)

pub returns : goal.returns
unfolding AreLines
returns c = rw c.in_ok-push_str.ensures.bytes (line-end (string_bytes c.args.text))
