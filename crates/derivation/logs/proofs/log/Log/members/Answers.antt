use Rattle.std.proofs.Common.{◌≡◌, ap, sym, ◌∙◌, subst, ℕ, ◌<◌, List, length, reverse}
use Rattle.std.specs.List.{AllByRecursion, sum_by}
use Rattle.std.proofs.lemmas.List.{length-reverse}
use Rattle.std.proofs.lemmas.Result.{IfOk-weaker}
use Rattle.derivation.specs.declared.line.Line.{Line}
use Rattle.derivation.specs.Logs.{Log, member}
use Rattle.logs.specs.Logged.{Logged}
use Rattle.logs.specs.Members.{is_member, once_if, once_of}
use Rattle.logs.specs.Sets.{times}
use Rattle.logs.proofs.ClassLines.{members-times, members-within}
use Rattle.logs.proofs.log.Log.members.Goals as goal

pub lines_of-requires-clause-classes : goal.lines_of-requires-clause-classes
lines_of-requires-clause-classes c =
    let inside = c.self.inside in
    let E : Log = reverse inside.lines.items in
    subst (λ n. AllByRecursion (λ k. k < n) c.classes_of.result.now) (length-reverse inside.lines.items ∙ sym (ap length c.as_slice.ensures.value))
    (members-within inside.instances.now inside.own.now E inside.known c.self.invariant.0 c.self.invariant.1 c.args.class c.classes_of.result.now c.classes_of.ensures)

pub returns : goal.returns
returns c =
    let inside = c.self.inside in
    let E : Log = reverse inside.lines.items in
    let classes = c.classes_of.result.now in
    IfOk-weaker c.lines_of.result
    (λ found. (n : ℕ) → times n found.items ≡ sum_by (once_of (member (reverse c.as_slice.result.now) n)) classes)
    (λ found. (n : ℕ) → times n found.items ≡ once_if (is_member c.args.self.now.log c.args.class n))
    (λ found is n. is n ∙ ap (λ (lines : List Line). sum_by (once_of (member (reverse lines) n)) classes) c.as_slice.ensures.value
    ∙ members-times inside.instances.now inside.own.now E inside.known c.self.invariant.0 c.self.invariant.1 c.args.class classes c.classes_of.ensures n
    ∙ ap (λ (l : Logged). once_if (is_member l.log c.args.class n)) c.self.view_is) c.lines_of.ensures
