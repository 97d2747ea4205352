use Rattle.std.proofs.Common.{◌≡◌, refl, ap, sym, subst, ℕ, ◌+◌, ◌<◌, ◌&&◌, ◌==◌, List, length, reverse, arith}
use Rattle.std.proofs.lemmas.List.{length-reverse}
use Rattle.std.proofs.lemmas.Result.{on_ok_weaker}
use Rattle.derivation.specs.Logs.{Log, founds, member}
use Rattle.logs.specs.Members.{IsChain, adding, once_if, once_of}
use Rattle.logs.specs.Sets.{times}
use Rattle.logs.proofs.ClassLines.{IsNext, next-of, none-left, moved-on, line-times}
use Rattle.logs.proofs.class_lines.push_lines.Goals as goal

pub last_of-line-requires : goal.last_of-line-requires
last_of-line-requires c =
    let same : length (reverse c.args.lines.now) ≡ length c.args.lines.now = length-reverse c.args.lines.now in
    let long : length c.args.additions.now.last.items ≡ length (reverse c.args.lines.now) = c.requires.additions.last in
    omega (arith, same, long, c.requires.class)

pub loop-line-init : goal.loop-line-init
loop-line-init c =
    let E : Log = reverse c.args.lines.now in
    let same : length E ≡ length c.args.lines.now = length-reverse c.args.lines.now in
    record {
      rest = adding c.args.class E;
      chain = subst (λ k. IsChain c.args.additions.now.earlier.items c.args.class k (adding c.args.class E)) (sym c.last_of-line.ensures) (c.requires.additions.chains c.args.class (omega (arith, same, c.requires.class)));
      so_far = λ n. refl;
    }

pub before-line-requires : goal.before-line-requires
before-line-requires c =
    let is = c.loop-line.invariant in
    let next : IsNext c.args.additions.now.earlier.items c.args.class c.loop-line.line is.rest = next-of c.args.additions.now.earlier.items c.args.class c.loop-line.line is.rest is.chain c.loop-line-test.true in
    next.low

pub loop-line-smaller : goal.loop-line-smaller
loop-line-smaller c =
    let is = c.loop-line.invariant in
    let next : IsNext c.args.additions.now.earlier.items c.args.class c.loop-line.line is.rest = next-of c.args.additions.now.earlier.items c.args.class c.loop-line.line is.rest is.chain c.loop-line-test.true in
    subst (λ k. k < c.loop-line.line) (sym c.before-line.ensures) next.falls

pub loop-line-preserved : goal.loop-line-preserved
loop-line-preserved c =
    let is = c.loop-line.invariant in
    let next : IsNext c.args.additions.now.earlier.items c.args.class c.loop-line.line is.rest = next-of c.args.additions.now.earlier.items c.args.class c.loop-line.line is.rest is.chain c.loop-line-test.true in
    record {
      rest = next.rest;
      chain = subst (λ k. IsChain c.args.additions.now.earlier.items c.args.class k next.rest) (sym c.before-line.ensures) next.chain;
      so_far = λ n. moved-on n c.loop-line.line c.loop-line.found.items c.push.new.self.items is.rest next.rest c.in_ok-push.ensures.items next.is _ (is.so_far n);
    }

pub returns : goal.returns
returns c =
    let E : Log = reverse c.args.lines.now in
    let is = c.loop-line.invariant in
    let none = none-left c.args.additions.now.earlier.items c.args.class is.rest (subst (λ k. IsChain c.args.additions.now.earlier.items c.args.class k is.rest) c.loop-line-test.false is.chain) in
    on_ok_weaker c.push_founding.result (λ more n.
    let new : times n c.push_founding.new.found.items ≡ times n c.loop-line.found.items + once_if (founds E c.args.class && (c.args.class == n)) = more n in
    let left : times n is.rest ≡ 0 = ap (times n) none in
    let so_far : times n c.loop-line.found.items + times n is.rest ≡ times n c.args.found.now.items + times n (adding c.args.class E) = is.so_far n in
    let own : times n (adding c.args.class E) + once_if (founds E c.args.class && (c.args.class == n)) ≡ once_of (member E n) c.args.class = line-times E c.args.class n in
    omega (arith, new, left, so_far, own)) c.push_founding.ensures
