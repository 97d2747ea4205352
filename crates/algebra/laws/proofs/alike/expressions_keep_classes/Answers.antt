use Rattle.std.proofs.Common.{}
use Rattle.algebra.proofs.SameInputs.{expressions_keep_classes}
use Rattle.laws.proofs.alike.expressions_keep_classes.Goals as goal

pub returns : goal.returns
returns c = expressions_keep_classes
