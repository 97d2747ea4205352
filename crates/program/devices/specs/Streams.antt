-- What a write to a stream tells.
use Rattle.std.specs.Prelude.{◌≡◌, ℕ, Result, IsErrAnd}
use Rattle.std.specs.IoError.{error_kind}
use Rattle.std.specs.declared.io.Error.{Error}
use Rattle.std.specs.declared.io.ErrorKind.TheVariants.{BrokenPipe}

-- it failed since nobody reads any more what is written to a pipe
abbrev pub FindsNoReader : Result ℕ Error → Type 0
FindsNoReader outcome = IsErrAnd outcome (λ error. error_kind error ≡ BrokenPipe)
