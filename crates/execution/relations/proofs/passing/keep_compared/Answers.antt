use Rattle.std.proofs.Common.{rules}
use Rattle.std.proofs.lemmas.Fn.{filter_same}
use Rattle.values.specs.Truth.{compare, is_true}
use Rattle.relations.specs.RowColumns.{column_value}
use Rattle.relations.proofs.passing.keep_compared.Goals as goal

pub returns-in-Numbers-Numbers : goal.returns-in-Numbers-Numbers
returns-in-Numbers-Numbers c = filter_same _ (λ n. is_true (compare c.args.comparison (column_value c.args.first n) (column_value c.args.second n))) _ (λ x b f' k. search rules) _ _ c.retain.ensures.filtered

pub returns-in_default : goal.returns-in_default
returns-in_default c = filter_same _ (λ n. is_true (compare c.args.comparison (column_value c.args.first n) (column_value c.args.second n))) _ (λ x b f' k. search rules) _ _ c.retain-in_default.ensures.filtered
