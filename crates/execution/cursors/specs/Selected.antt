-- Rows that are selected from those of a relation.
use Rattle.std.specs.Prelude.{◌≡◌, ℕ, List, filter, map}
use Rattle.algebra.specs.Bags.{Env}
use Rattle.relations.specs.declared.environment.Env as lent
use Rattle.relations.specs.Relations.{env_of, numbered_env, numbers_of}
use Rattle.relations.specs.Resolved.{all_pass, inner_row}
use Rattle.cursors.specs.declared.selected.SelectedRows.{SelectedRows}

-- the numbers of those that pass the tests, beside the innermost row of an environment
abbrev pub selected_numbers : lent.Env → SelectedRows → List ℕ
selected_numbers e s = filter (all_pass s.relation (inner_row e) s.tests.items) (numbers_of s.relation)

-- these rows in the environment
abbrev pub selected_envs : lent.Env → SelectedRows → List Env
selected_envs e s = map (numbered_env s.relation (env_of e)) (selected_numbers e s)

-- they have these columns, and in the environment are these rows
pub record IsSelection (columns : List ℕ) (rows : List Env) (e : lent.Env) (s : SelectedRows) : Type 0 where
  pub columns_are : s.relation.heading.columns ≡ columns
  pub rows_are : selected_envs e s ≡ rows
