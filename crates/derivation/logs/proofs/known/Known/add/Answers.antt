use Rattle.std.proofs.Common.{refl, sym, subst, ℕ, Bool, false, [], ◌∷◌, reverse, OnOk}
use Rattle.std.proofs.lemmas.Result.{on_err_weaker, on_ok_weaker}
use Rattle.props.specs.declared.fact.Fact.{Fact}
use Rattle.derivation.specs.Logs.{Log, class_at}
use Rattle.derivation.specs.declared.line.Line.{Line}
use Rattle.derivation.specs.declared.line.Line.TheVariants.{Founds, Adds, Unites, Alike, Gives}
use Rattle.logs.specs.declared.known.Known.{Known}
use Rattle.logs.specs.Knowledge.{HasClass, IsKnown, expr_columns, expr_free}
use Rattle.logs.specs.Sets.{AreUnited}
use Rattle.logs.proofs.NotedLines.{noted-plain, noted-united, noted-learnt, founds-columns, founds-free, idle-free, known-alike, known-of-alike, on-ok-both, on-err-both}
use Rattle.logs.proofs.known.Known.add.Goals as goal

abbrev none : ℕ → Bool
none n = false

pub returns-in-Founds-clause-known : goal.returns-in-Founds-clause-known
returns-in-Founds-clause-known c =
    let instances = c.args.instances.now in
    let E : Log = reverse c.args.lines.now in
    let k : Known = c.args.self.now in
    let l : Known = c.found.new.self in
    let x = c.in-Founds.expr in
    let is = c.requires.known in
    subst (λ line. OnOk c.found.result (IsKnown instances (line ∷ E) l)) (sym c.in-Founds.is) (
    on_ok_weaker c.found.result (λ also. noted-plain instances E k l (Founds x) is (expr_columns instances k x) (expr_free k x) also (founds-columns instances E k l (Founds x) is x) (founds-free instances E k l (Founds x) is x)
    c.found.ensures.step c.found.ensures.roots c.found.ensures.facts (λ n. refl) (λ n. refl)) c.found.ensures.class)

pub returns-in-Founds-clause-refused : goal.returns-in-Founds-clause-refused
returns-in-Founds-clause-refused c =
    on_err_weaker c.found.result (λ alike. known-of-alike c.args.instances.now (reverse c.args.lines.now) c.args.self.now c.found.new.self c.requires.known alike) c.found.ensures.refused

pub returns-in-Adds-clause-known : goal.returns-in-Adds-clause-known
returns-in-Adds-clause-known c =
    let instances = c.args.instances.now in
    let E : Log = reverse c.args.lines.now in
    let k : Known = c.args.self.now in
    let l : Known = c.put_idle.new.self in
    let line : Line = Adds c.in-Adds.field-0 c.in-Adds.field-1 c.in-Adds.field-2 in
    let is = c.requires.known in
    subst (λ line. IsKnown instances (line ∷ E) l) (sym c.in-Adds.is) (
    noted-plain instances E k l line is [] none c.put_idle.ensures.class refl (idle-free instances E k l line is c.requires.closed)
    c.put_idle.ensures.step c.put_idle.ensures.roots c.put_idle.ensures.facts (λ n. refl) (λ n. refl))

pub returns-in-Unites-clause-known : goal.returns-in-Unites-clause-known
returns-in-Unites-clause-known c =
    let instances = c.args.instances.now in
    let E : Log = reverse c.args.lines.now in
    let k : Known = c.args.self.now in
    let l : Known = c.unite.new.self in
    let g = c.in-Unites.first in
    let h = c.in-Unites.second in
    let line : Line = Unites g h c.in-Unites.field-2 in
    let is = c.requires.known in
    let both : OnOk c.unite.result (HasClass k [] none l × AreUnited k.sets g h l.sets) = on-ok-both c.unite.result (λ also one. (also, one)) c.unite.ensures.class c.unite.ensures.united in
    subst (λ line. OnOk c.unite.result (IsKnown instances (line ∷ E) l)) (sym c.in-Unites.is) (
    on-ok-both c.unite.result (λ step rest. noted-united instances E k l line is [] none rest.0 refl (idle-free instances E k l line is c.requires.closed) g h rest.1 step (λ n. refl) (λ same. refl)) c.unite.ensures.step both)

pub returns-in-Unites-clause-refused : goal.returns-in-Unites-clause-refused
returns-in-Unites-clause-refused c =
    on_err_weaker c.unite.result (λ alike. known-of-alike c.args.instances.now (reverse c.args.lines.now) c.args.self.now c.unite.new.self c.requires.known alike) c.unite.ensures.refused

pub returns-in-Alike-clause-known : goal.returns-in-Alike-clause-known
returns-in-Alike-clause-known c =
    let instances = c.args.instances.now in
    let E : Log = reverse c.args.lines.now in
    let k : Known = c.args.self.now in
    let l : Known = c.unite-in-Alike.new.self in
    let i = c.in-Alike.first in
    let j = c.in-Alike.second in
    let line : Line = Alike i j in
    let is = c.requires.known in
    let both : OnOk c.unite-in-Alike.result (HasClass k [] none l × AreUnited k.sets c.class_at-first.result c.class_at-second.result l.sets) = on-ok-both c.unite-in-Alike.result (λ also one. (also, one)) c.unite-in-Alike.ensures.class c.unite-in-Alike.ensures.united in
    subst (λ line. OnOk c.unite-in-Alike.result (IsKnown instances (line ∷ E) l)) (sym c.in-Alike.is) (
    on-ok-both c.unite-in-Alike.result (λ step rest. noted-united instances E k l line is [] none rest.0 refl (idle-free instances E k l line is c.requires.closed) (class_at E i) (class_at E j)
    (subst (λ a. AreUnited k.sets a (class_at E j) l.sets) c.class_at-first.ensures (subst (λ b. AreUnited k.sets c.class_at-first.result b l.sets) c.class_at-second.ensures rest.1))
    step (λ n. refl) (λ same. refl)) c.unite-in-Alike.ensures.step both)

pub returns-in-Alike-clause-refused : goal.returns-in-Alike-clause-refused
returns-in-Alike-clause-refused c =
    on_err_weaker c.unite-in-Alike.result (λ alike. known-of-alike c.args.instances.now (reverse c.args.lines.now) c.args.self.now c.unite-in-Alike.new.self c.requires.known alike) c.unite-in-Alike.ensures.refused

pub returns-in-Gives-clause-known : goal.returns-in-Gives-clause-known
returns-in-Gives-clause-known c =
    let instances = c.args.instances.now in
    let E : Log = reverse c.args.lines.now in
    let k : Known = c.args.self.now in
    let l : Known = c.learn.new.self in
    let g = c.in-Gives.of in
    let f : Fact = c.in-Gives.fact in
    let line : Line = Gives g c.in-Gives.field-1 f in
    let is = c.requires.known in
    subst (λ line. OnOk c.learn.result (IsKnown instances (line ∷ E) l)) (sym c.in-Gives.is) (
    on-ok-both c.learn.result (λ also learnt. noted-learnt instances E k l line is [] none also refl (idle-free instances E k l line is c.requires.closed) g f c.learn.ensures.step c.learn.ensures.roots learnt (λ n. refl) (λ n. refl))
    c.learn.ensures.class c.learn.ensures.facts)

pub returns-in-Gives-clause-refused : goal.returns-in-Gives-clause-refused
returns-in-Gives-clause-refused c =
    on-err-both c.learn.result (λ facts lists. known-alike c.args.instances.now (reverse c.args.lines.now) c.args.self.now c.learn.new.self c.requires.known c.learn.ensures.step lists.0 lists.1 c.learn.ensures.roots facts)
    c.learn.ensures.refused c.learn.ensures.refused_columns
