use Rattle.std.proofs.Common.{◌≡◌, ap, ◌∙◌, ℕ, subst, List}
use Rattle.algebra.specs.Columns.{has, columns_at}
use Rattle.algebra.specs.Expressions.{columns_of, free_of}
use Rattle.props.specs.Knowledge.{Knowledge, known}
use Rattle.logs.specs.Knowledge.{HasClass, expr_columns, expr_free}
use Rattle.logs.proofs.NotedLines.{class-as, founded-class}
use Rattle.logs.proofs.known.Known.found.Goals as goal

pub returns-clause-class : goal.returns-clause-class
returns-clause-class c =
    let k = c.args.self.now in
    let x = c.args.expr.now in
    let own : c.in_ok-columns.columns ≡ expr_columns c.args.instances.now k x = c.in_ok-columns.ensures ∙ ap (λ cs. columns_of c.args.instances.now (columns_at cs) x) c.as_slice.ensures.value in
    let cols = ap (λ (K : Knowledge). K.columns) c.classes.ensures.known in
    let frees = ap (λ (K : Knowledge). K.free) c.classes.ensures.known in
    let free : (n : ℕ) → has c.in_ok-free.free n ≡ expr_free k x n = λ n. c.in_ok-free.ensures n ∙ ap (λ f. free_of f (known c.classes.result).free x n) cols ∙ ap (λ f. free_of (columns_at k.columns.items) f x n) frees in
    let noted : (g : ℕ) → columns_at c.put.new.self.free.items g ≡ _ = λ g. ap (λ (cs : List (List ℕ)). columns_at cs g) c.put.ensures.free ∙ c.in_ok-put_free.ensures.class g in
    let also = founded-class k c.put.new.self c.in_ok-columns.columns c.in_ok-free.free c.args.class c.requires.class c.put.ensures.count c.put.ensures.columns noted in
    class-as k c.put.new.self (expr_columns c.args.instances.now k x) (has c.in_ok-free.free) (expr_free k x) free (subst (λ K. HasClass k K (has c.in_ok-free.free) c.put.new.self) own also)
