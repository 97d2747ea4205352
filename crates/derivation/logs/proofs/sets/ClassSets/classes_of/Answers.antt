use Rattle.std.proofs.Common.{◌≡◌, ap, sym, ◌∙◌, subst, ℕ, ◌<◌, ◌≤◌, length, []}
use Rattle.std.proofs.lemmas.List.{get_or_default}
use Rattle.algebra.specs.Columns.{columns_at}
use Rattle.logs.specs.declared.sets.ClassSets.{ClassSets}
use Rattle.logs.specs.Sets.{set_at, times}
use Rattle.logs.proofs.SetReads.{in-members, set-times, set-past}
use Rattle.logs.proofs.sets.ClassSets.classes_of.Goals as goal

pub returns-then-class-count : goal.returns-then-class-count
returns-then-class-count c =
    let s : ClassSets = c.args.self.now in
    let within : c.args.class < length s.sets.items = subst (λ xs. c.args.class < length xs) c.as_slice-count.ensures.value c.if-class-count.true in
    let set : ℕ = c.index-set.result.now in
    let is : set ≡ set_at s.sets.items c.args.class = c.index-set.ensures ∙ get_or_default s.sets.items c.args.class set 0 within in
    let low : set < length s.members.items = subst (λ k. k < length s.members.items) (sym is) (in-members s c.requires c.args.class within) in
    let classes : c.as_slice.result.now ≡ columns_at s.members.items (set_at s.sets.items c.args.class) = c.as_slice.ensures ∙ c.index.ensures ∙ get_or_default s.members.items set c.index.result.now [] low ∙ ap (columns_at s.members.items) is in
    λ g. ap (times g) classes ∙ set-times s c.requires g c.args.class within

pub returns-else-class-count : goal.returns-else-class-count
returns-else-class-count c = λ g. set-past c.args.self.now c.requires g c.args.class (subst (λ xs. length xs ≤ c.args.class) c.as_slice-count.ensures.value c.if-class-count.false)
