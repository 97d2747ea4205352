-- How much a schema may have, and where no name stands twice (this project's profile of SQL).
use Rattle.std.specs.Prelude.{List, length, Bool, ◌&&◌, nat_le}
use Rattle.std.specs.List.{list_all}
use Rattle.schema.specs.declared.entries.TableEntry.{TableEntry}
use Rattle.schema.specs.Names.{Name, are_different}

abbrev pub is_short : List Name → Bool
is_short names = nat_le (length names) 8

-- at most 16 lists of at most 8 names
abbrev pub lists_are_few : List (List Name) → Bool
lists_are_few lists = nat_le (length lists) 16 && list_all is_short lists

abbrev pub parts_are_few : TableEntry → Bool
parts_are_few t = nat_le (length t.columns) 64 && lists_are_few t.unique && lists_are_few t.indexes

abbrev pub are_few : List TableEntry → Bool
are_few ts = nat_le (length ts) 64 && list_all parts_are_few ts

abbrev pub lists_differ : List (List Name) → Bool
lists_differ lists = list_all (are_different (λ name. name)) lists

abbrev pub parts_differ : TableEntry → Bool
parts_differ t = are_different (λ c. c.name) t.columns && lists_differ t.unique && lists_differ t.indexes

abbrev pub names_differ : List TableEntry → Bool
names_differ ts = are_different (λ t. t.name) ts && list_all parts_differ ts
