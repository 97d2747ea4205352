use Rattle.std.proofs.Common.{◌≡◌, ap, sym, ◌∙◌, ◌++◌, ◌∷◌, [], set, get_or}
use Rattle.logs.specs.declared.additions.Additions.{Additions}
use Rattle.logs.proofs.Chains.{added}
use Rattle.logs.proofs.additions.Additions.note.Goals as goal

pub returns : goal.returns
returns c =
    let a : Additions = c.args.self.now in
    λ E are names. added E a c.put.new.self c.args.line.now c.args.number are names (c.requires.number ∙ are.last)
    (c.put.ensures.last ∙ ap (λ k. set (a.last.items ++ c.args.number ∷ []) k c.args.number) c.target.ensures)
    (c.put.ensures.earlier ∙ ap (λ k. a.earlier.items ++ get_or (a.last.items ++ c.args.number ∷ []) k 0 ∷ []) c.target.ensures)
