use Rattle.std.proofs.Common.{◌≡◌, refl, ap, sym, ◌∙◌, subst, ℕ, length, rules, Option, Some, slice_get}
use Rattle.std.specs.Vec.{with_item}
use Rattle.std.proofs.lemmas.Option.{slice_get_read}
use Rattle.algebra.specs.Columns.{columns_at}
use Rattle.logs.specs.Sets.{times}
use Rattle.winners.specs.declared.nodes.Nodes.{Nodes}
use Rattle.winners.specs.declared.nodes.Span.{Span}
use Rattle.winners.specs.Spans.{HasClass}
use Rattle.winners.proofs.Standing.{class_of_lines, made_more}
use Rattle.winners.proofs.nodes.Nodes.of_class.Goals as goal

pub returns-in-Some-clause-own : goal.returns-in-Some-clause-own
returns-in-Some-clause-own c =
    let spans = c.args.self.now.spans.items in
    let at : slice_get spans c.args.class ≡ Some c.index.result.now = slice_get_read spans (length spans) c.args.class c.index.result.now refl c.requires.class c.index.ensures in
    c.requires.made.classes c.args.class c.in-Some.span (at ∙ ap (λ (found : Option Span). Some found) c.in-Some.is)

pub returns-clause-own : goal.returns-clause-own
returns-clause-own c =
    let log = c.args.derived.log.now in
    let old = c.args.self.now.list.items in
    let new = c.push_lines.new.nodes.items in
    let start : c.len-start.result ≡ length old = search rules in
    let end : c.len-end.result ≡ length new = search rules in
    let Has : ℕ → ℕ → Type 0 = λ m n. HasClass log.instances log.log (columns_at c.args.derived.columns.now) new c.args.class (record { start = m; end = n }) in
    let exact = class_of_lines log.instances log.log (columns_at c.args.derived.columns.now) old new c.args.class c.as_slice.result.now (λ n. ap (times n) c.as_slice.ensures.value ∙ c.in_ok-lines.ensures n) c.in_ok-push_lines.ensures.lines in
    subst (λ m. Has m c.len-end.result) (sym start) (subst (Has (length old)) (sym end) exact)

pub returns-clause-made : goal.returns-clause-made
returns-clause-made c =
    let log = c.args.derived.log.now in
    let old = c.args.self.now in
    let new : Nodes = record { list = c.push_lines.new.nodes; spans = with_item c.args.self.now.spans c.args.class (Some (record { start = c.len-start.result; end = c.len-end.result })) } in
    made_more log.instances log.log (columns_at c.args.derived.columns.now) old new c.args.class (record { start = c.len-start.result; end = c.len-end.result }) c.requires.class c.in_ok-push_lines.ensures.before c.in_ok-push_lines.ensures.fit refl
    (returns-clause-own c) c.requires.made
