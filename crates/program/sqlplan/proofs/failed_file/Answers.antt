use Rattle.std.proofs.Common.{◌++◌, codes}
use Rattle.words.specs.Spelling.{spelled}
use Rattle.sqlplan.proofs.failed_file.Goals as goal

pub returns : goal.returns
returns c = c.file_in_words.ensures (codes "device " ++ spelled c.args.path.now) 3 c.of_file-stop.ensures
