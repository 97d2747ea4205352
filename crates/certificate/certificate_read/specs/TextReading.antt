-- What a call reads of the lines of a text, and which plans can be read.
use Rattle.std.specs.Prelude.{◌≡◌, ℕ, ◌≤◌, true, Result, MatchResult, IsUtf8}
use Rattle.std.specs.List.{list_all, AllByRecursion}
use Rattle.values.specs.declared.fault.Fault.{Fault}
use Rattle.values.specs.declared.fault.Fault.TheVariants.{Memory}
use Rattle.physical.specs.declared.plan.Plan.{Plan}
use Rattle.certificate_text.specs.PartTexts.{is_graphic, lacks}
use Rattle.certificate_text.specs.declared.fault.TextRefusal.{TextRefusal}
use Rattle.certificate_text.specs.CertificateText.{Text}
use Rattle.certificate_text.specs.Limits.{nodes_within}
use Rattle.certificate_text.specs.Readable.{AreReadableNodes}
use Rattle.certificate_read.specs.declared.text_lines.TextLines.{TextLines}
use Rattle.certificate_read.specs.declared.reading.Wanted.{Wanted}

-- ---- plans that can be read

-- its nodes can be read, and none of them is over a limit where there is room for so many from the root down
abbrev pub IsReadablePlan : ℕ → Plan → Type 0
IsReadablePlan room p = AreReadableNodes p × AllByRecursion (λ is_within. is_within ≡ true) (nodes_within p room)

-- ---- what a call leaves

-- what a line may begin with: characters of ASCII that can be seen
abbrev pub IsWord : Text → Type 0
IsWord t = list_all is_graphic t ≡ true

-- text that LF can end as a line
abbrev pub IsLine : Text → Type 0
IsLine t = IsUtf8 t × (lacks 10 t ≡ true)

-- the fact holds of what the call gives, unless memory ran out
abbrev pub UnlessMemory : {V : Type 0} → (V → Type 0) → Result V (Fault TextRefusal) → Type 0
UnlessMemory P result = MatchResult result P (λ fault. fault ≡ Memory)

-- the call gives the value, as view shows it, and leaves the rest of the text, unless memory ran out
abbrev pub LeavesText : {V X : Type 0} → (V → X) → X → Text → TextLines → Result V (Fault TextRefusal) → Type 0
LeavesText view x rest new result = UnlessMemory (λ v. (view v ≡ x) × (new.left.now ≡ rest)) result

-- ---- nodes that are still to be read

-- so many are counted, and so many inputs wanted
abbrev pub IsWanted : ℕ → ℕ → Wanted → Type 0
IsWanted counted inputs w = (w.counted ≡ counted) × (w.inputs ≡ inputs)

-- behind each input that is wanted stands a node, and none is counted where no input is wanted
abbrev pub IsBalanced : ℕ → ℕ → Type 0
IsBalanced counted inputs = (inputs ≤ counted) × (inputs ≡ 0 → counted ≡ 0)
