-- The lines that a step cites, one by one.
use Rattle.std.proofs.Common.{◌≡◌, refl, ap, sym, ◌∙◌, ℕ, ◌+◌, ◌<◌, List, [], ◌∷◌, ◌++◌, length, drop, get_or, option_map, Option, Some, None}
use Rattle.std.proofs.lemmas.List.{append_assoc}
use Rattle.values.proofs.Lists.{drop_next}
use Rattle.rules.specs.Matches as matches
use Rattle.derivation.specs.Logs.{Log, member}
use Rattle.derivation.specs.Replay.{both_lines, members}

module _ (E : Log) (instances : List ℕ) (i : ℕ) (line : ℕ) (lt : i < length instances) (is : line ≡ get_or instances i line) where
  next : (o : Option matches.Line) → member E line ≡ o → members E (drop i instances) ≡ both_lines o (members E (drop (i + 1) instances))
  next o at = ap (members E) (drop_next instances i line lt is) ∙ ap (λ m. both_lines m (members E (drop (i + 1) instances))) at

  pub members-none : (found : List matches.Line) → member E line ≡ None → members E instances ≡ option_map (λ rest. found ++ rest) (members E (drop i instances)) → members E instances ≡ None
  members-none found at left = left ∙ ap (option_map (λ rest. found ++ rest)) (next None at)

  pub members-more : (found : List matches.Line) (l : matches.Line) → member E line ≡ Some l → members E instances ≡ option_map (λ rest. found ++ rest) (members E (drop i instances))
      → members E instances ≡ option_map (λ rest. (found ++ l ∷ []) ++ rest) (members E (drop (i + 1) instances))
  members-more found l at left = left ∙ ap (option_map (λ rest. found ++ rest)) (next (Some l) at) ∙ by (members E (drop (i + 1) instances))
    where
      by : (rest : Option (List matches.Line)) → option_map (λ rest. found ++ rest) (both_lines (Some l) rest) ≡ option_map (λ rest. (found ++ l ∷ []) ++ rest) rest
      by None = refl
      by (Some rest) = ap Some (sym (append_assoc found (l ∷ []) rest))
