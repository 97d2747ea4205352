use Rattle.std.proofs.Common.{sym, ap, ℕ, [], ◌<◌, ◌++◌, length, take, ◌∙◌, arith}
use Rattle.std.proofs.lemmas.List.{append-nil}
use Rattle.std.proofs.KnownBytes.{Consumes-trans, Consumes-all}
use Rattle.store.proofs.reading.parse_input.Goals as goal

pub returns-in-Ok-end-clause-read : goal.returns-in-Ok-end-clause-read
returns-in-Ok-end-clause-read g c =
    let (bytes, used, front) = c.loop.invariant.read in
    let last = c.in-Ok-eq0.ensures.bytes in
    let none = c.in-Ok-eq0.field-0-test in
    let before = g.R.TableInput.remaining c.args.input.now in
    let long : 0 < length c.read_some.new.buffer = omega arith in (
      bytes,
      c.in-Ok-end.ensures bytes front,
      Consumes-all before (g.R.TableInput.remaining c.read_some.new.self) (bytes ++ take c.in-Ok-eq0.field-0 c.read_some.new.buffer) [] bytes
          (Consumes-trans before (g.R.TableInput.remaining c.loop.input) (g.R.TableInput.remaining c.read_some.new.self) bytes _ used last.0)
          (last.1 none long) (sym (append-nil bytes) ∙ ap (λ (n : ℕ). bytes ++ take n c.read_some.new.buffer) (sym none)),
    )

pub loop-preserved : goal.loop-preserved
loop-preserved g c =
    let (bytes, used, front) = c.loop.invariant.read in
    let more = c.in-Ok-read_some.ensures.bytes in
    record {
      quiet = c.in-Ok-read_some.ensures.counts ∙ c.loop.invariant.quiet;
      fits = c.in_default-take.ensures.fits;
      read = (
        bytes ++ take c.in-Ok-read_some.count c.read_some.new.buffer,
        Consumes-trans (g.R.TableInput.remaining c.args.input.now) (g.R.TableInput.remaining c.loop.input) (g.R.TableInput.remaining c.read_some.new.self) bytes _ used more.0,
        c.in_default-take.ensures.read bytes front,
      );
    }
