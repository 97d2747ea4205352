use Rattle.std.proofs.Common.{◌≡◌, ◌∙◌, length, sym, ap, arith}
use Rattle.store.proofs.TextPlaces.{length_texts, text_there, start_cut}
use Rattle.store.proofs.texts.Texts.text.Goals as goal

pub start_of-start-requires : goal.start_of-start-requires
start_of-start-requires c =
    let size : length c.self.inside.ends ≡ length c.args.self.now = sym (length_texts _ c.self.inside.ends) ∙ ap length c.self.view_is in
    omega arith

pub at-requires : goal.at-requires
at-requires c =
    let size : length c.self.inside.ends ≡ length c.args.self.now = sym (length_texts _ c.self.inside.ends) ∙ ap length c.self.view_is in
    omega arith

pub range-requires-clause-start_le_end : goal.range-requires-clause-start_le_end
range-requires-clause-start_le_end c =
    let size : length c.self.inside.ends ≡ length c.args.self.now = sym (length_texts _ c.self.inside.ends) ∙ ap length c.self.view_is in
    rw (c.start_of-start.ensures, c.at.ensures) (c.self.invariant.rising c.args.number (omega arith))

pub range-requires-clause-start_boundary : goal.range-requires-clause-start_boundary
range-requires-clause-start_boundary c =
    let size : length c.self.inside.ends ≡ length c.args.self.now = sym (length_texts _ c.self.inside.ends) ∙ ap length c.self.view_is in
    rw (c.start_of-start.ensures, c.deref.ensures) (start_cut _ c.self.inside.ends c.args.number c.self.invariant (omega arith))

pub range-requires-clause-end_boundary : goal.range-requires-clause-end_boundary
range-requires-clause-end_boundary c =
    let size : length c.self.inside.ends ≡ length c.args.self.now = sym (length_texts _ c.self.inside.ends) ∙ ap length c.self.view_is in
    rw (c.at.ensures, c.deref.ensures) (c.self.invariant.cut c.args.number (omega arith))

pub returns : goal.returns
returns c =
    let size : length c.self.inside.ends ≡ length c.args.self.now = sym (length_texts _ c.self.inside.ends) ∙ ap length c.self.view_is in
    rw (c.range.ensures.value, c.start_of-start.ensures, c.at.ensures, c.deref.ensures, ← c.self.view_is) (sym (text_there _ c.self.inside.ends c.args.number (omega arith)))
