-- The text that is written for a value spells the statistics that the value spells.
use Rattle.std.proofs.Common.{◌≡◌, ◌≤◌, Some, Result, Ok, Err, IfOk, String, Global, string_bytes, codes, refl, ap, ◌∙◌, arith}
use Rattle.std.specs.declared.alloc.AllocError.{AllocError}
use Rattle.std.proofs.lemmas.Str.{IsUtf8-string_bytes}
use Rattle.serde_json.specs.Data.{Data, object, no_members, put, depth}
use Rattle.serde_json.specs.Read.{read, max_depth}
use Rattle.schema.specs.declared.schema.Schema.{Schema}
use Rattle.statistics.specs.Spelling.{AreTablesText, IsStatisticsText}
use Rattle.statistics.specs.declared.counts.Statistics.{Statistics}
use Rattle.statistics_text.specs.Nesting.{IsWithin}

pub written : (schema : Schema) (s : Statistics) (d tables : Data) → d ≡ object (put (codes "tables") tables no_members) → IsWithin 4 (λ m. AreTablesText schema.tables m s.tables) tables
    → (result : Result (String Global) AllocError) → IfOk result (λ text. depth d ≤ max_depth → read (string_bytes text) ≡ Some d) → IfOk result (λ text. IsStatisticsText schema (string_bytes text) s)
written schema s d tables is h (Err e) back = tt
written schema s d tables is h (Ok text) back =
    let levels = h.1 in
    let deep : depth d ≤ max_depth = rw is (omega arith) in
    record {
      text = IsUtf8-string_bytes text;
      value = object (put (codes "tables") tables no_members);
      json = back deep ∙ ap Some is;
      members = (_, refl, refl);
      tables = (tables, refl, h.0);
    }
