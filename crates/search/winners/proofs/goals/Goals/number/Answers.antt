use Rattle.std.proofs.Common.{◌≡◌, ap, sym, ◌∙◌, subst, ◌<◌, ◌++◌, ◌∷◌, [], ℕ, List, length, set, slice_get, slice_index_or, rules, arith}
use Rattle.std.specs.Vec.{with_item}
use Rattle.std.proofs.lemmas.List.{get_or_default}
use Rattle.algebra.specs.Columns.{columns_at}
use Rattle.labels.specs.declared.goal.Goal.{Goal}
use Rattle.winners.specs.declared.goals.Goals.{Goals}
use Rattle.winners.specs.Numbers.{IsNotAmong}
use Rattle.winners.proofs.Lists.{get-last}
use Rattle.winners.proofs.Numbering.{class_within, indexed_push, kept_push}
use Rattle.winners.proofs.goals.Goals.number.Goals as goal

pub index-requires : goal.index-requires
index-requires c =
    let lt = class_within c.args.derived.log.now.log (columns_at c.args.derived.columns.now) c.args.goal.now c.requires.goal in
    omega (arith, lt, c.requires.indexed.classes, c.args.self.now.by_class.ok)

pub index_mut-requires : goal.index_mut-requires
index_mut-requires c =
    let lt = class_within c.args.derived.log.now.log (columns_at c.args.derived.columns.now) c.args.goal.now c.requires.goal in
    omega (arith, lt, c.requires.indexed.classes, c.args.self.now.by_class.ok)

pub returns-clause-indexed : goal.returns-clause-indexed
returns-clause-indexed c =
    let E = c.args.derived.log.now.log in
    let cols = columns_at c.args.derived.columns.now in
    let old = c.args.self.now in
    let g = c.args.goal.now in
    let numbers : List ℕ = slice_index_or old.by_class.items g.class [] in
    let lt : g.class < length old.by_class.items = subst (λ n. g.class < n) (sym c.requires.indexed.classes) (class_within E cols g c.requires.goal) in
    let own : c.as_slice.result.now ≡ numbers = c.as_slice.ensures ∙ c.index.ensures ∙ get_or_default old.by_class.items g.class c.index.result.now [] lt in
    let absent : IsNotAmong old.list.items numbers g = subst (λ xs. IsNotAmong xs numbers g) c.deref.ensures.value (subst (λ ns. IsNotAmong c.deref.result.now ns g) own c.in_default.ensures.none) in
    let at : c.len-number.result ≡ length old.list.items = search rules in
    let before : c.index_mut.result.now ≡ numbers = c.index_mut.ensures.value ∙ get_or_default old.by_class.items g.class c.index_mut.result.now [] lt in
    let more : c.push.new.self ≡ numbers ++ length old.list.items ∷ [] = c.in_ok-push.ensures.ok ∙ ap (λ ns. ns ++ c.len-number.result ∷ []) before ∙ ap (λ n. numbers ++ n ∷ []) at in
    let new : Goals = record { list = c.push-2.new.self; by_class = with_item old.by_class g.class c.push.new.self } in
    indexed_push E cols old g c.requires.indexed c.requires.goal lt absent new (c.in_ok-push-2.ensures.items ∙ ap (λ (h : Goal). old.list.items ++ h ∷ []) c.in_ok-copied.ensures) (ap (set old.by_class.items g.class) more)

pub returns-clause-kept : goal.returns-clause-kept
returns-clause-kept c = kept_push c.args.self.now.list.items c.push-2.new.self.items c.args.goal.now (c.in_ok-push-2.ensures.items ∙ ap (λ (h : Goal). c.args.self.now.list.items ++ h ∷ []) c.in_ok-copied.ensures)

pub returns-clause-number : goal.returns-clause-number
returns-clause-number c =
    let old = c.args.self.now.list.items in
    let at : c.len-number.result ≡ length old = search rules in
    ap (λ xs. slice_get xs c.len-number.result) (c.in_ok-push-2.ensures.items ∙ ap (λ (h : Goal). old ++ h ∷ []) c.in_ok-copied.ensures) ∙ ap (slice_get (old ++ c.args.goal.now ∷ [])) at ∙ get-last old c.args.goal.now
