use Rattle.std.proofs.Common.{◌≡◌, ◌∙◌, ◌∷◌, ◌++◌, [], string_bytes}
use Rattle.store.proofs.TextPlaces.{ends_fewer, texts_fewer}
use Rattle.store.proofs.texts.Texts.pop.Goals as goal

pub invariant_of-self : goal.invariant_of-self
invariant_of-self c =
    let ends : c.self.inside.ends ≡ c.pop.new.self ++ c.in-Some.field-0 ∷ [] = rw c.in-Some.is at c.pop.ensures in
    let invariant = rw ends at c.self.invariant in
    rw (c.truncate.ensures.bytes, c.start_of-start.ensures, c.len.ensures) (ends_fewer (string_bytes c.self.inside.joined) c.pop.new.self c.in-Some.field-0 invariant)

pub returns-in-Some : goal.returns-in-Some
returns-in-Some c = λ texts last is.
    let ends : c.self.inside.ends ≡ c.pop.new.self ++ c.in-Some.field-0 ∷ [] = rw c.in-Some.is at c.pop.ensures in
    let invariant = rw ends at c.self.invariant in
    let all = rw ends at c.self.view_is ∙ is in
    rw (c.truncate.ensures.bytes, c.start_of-start.ensures, c.len.ensures) (texts_fewer (string_bytes c.self.inside.joined) c.pop.new.self c.in-Some.field-0 texts last invariant all)
