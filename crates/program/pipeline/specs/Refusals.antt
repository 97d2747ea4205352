-- The refusal that each part's fault is, and the program's status for it.
use Rattle.std.specs.Prelude.{ℕ}
use Rattle.values.specs.declared.fault.Fault.{Fault}
use Rattle.values.specs.declared.fault.Fault.TheVariants as fault
use Rattle.schema.specs.declared.fault.SchemaRefusal.{SchemaRefusal}
use Rattle.certificate.specs.declared.certificate.CheckRefusal.{CheckRefusal}
use Rattle.certificate_text.specs.declared.fault.TextRefusal.{TextRefusal}
use Rattle.sql_parse.specs.declared.fault.ParseRefusal.{ParseRefusal}
use Rattle.binder.specs.declared.fault.BindRefusal.{BindRefusal}
use Rattle.statistics.specs.declared.fault.StatisticsRefusal.{StatisticsRefusal}
use Rattle.answer_text.specs.declared.output.OutputFailed.{OutputFailed}
use Rattle.store.specs.declared.fault.TableFault.{TableFault}
use Rattle.store.specs.declared.fault.TableFault.TheVariants as table
use Rattle.cursors.specs.declared.fault.RunFault.{RunFault}
use Rattle.cursors.specs.declared.fault.RunFault.TheVariants as cursor
use Rattle.pipeline.specs.declared.written.WriteFault.{WriteFault}
use Rattle.pipeline.specs.declared.written.WriteFault.TheVariants as write
use Rattle.pipeline.specs.declared.refusal.Refusal.{Refusal}
use Rattle.pipeline.specs.declared.refusal.Refusal.TheVariants.{Memory, Schema, Text, Scope, Statistics, Certificate, Check, NotLeast, Table, TableDevice, Output, TooManyRows}

abbrev pub of_schema : Fault SchemaRefusal → Refusal
of_schema fault.Memory = Memory
of_schema (fault.Refused r) = Schema r

abbrev pub of_text : Fault ParseRefusal → Refusal
of_text fault.Memory = Memory
of_text (fault.Refused r) = Text r

abbrev pub of_scope : Fault BindRefusal → Refusal
of_scope fault.Memory = Memory
of_scope (fault.Refused r) = Scope r

abbrev pub of_statistics : Fault StatisticsRefusal → Refusal
of_statistics fault.Memory = Memory
of_statistics (fault.Refused r) = Statistics r

abbrev pub of_certificate : Fault TextRefusal → Refusal
of_certificate fault.Memory = Memory
of_certificate (fault.Refused r) = Certificate r

abbrev pub of_check : Fault CheckRefusal → Refusal
of_check fault.Memory = Memory
of_check (fault.Refused r) = Check r

abbrev pub of_answer : Fault OutputFailed → Refusal
of_answer fault.Memory = Memory
of_answer (fault.Refused r) = Output

-- why a row that a cursor gives wasn't written
abbrev pub write_of_cursor : RunFault → WriteFault
write_of_cursor cursor.Memory = write.Memory
write_of_cursor cursor.TooManyRows = write.TooManyRows

abbrev pub write_of_answer : Fault OutputFailed → WriteFault
write_of_answer fault.Memory = write.Memory
write_of_answer (fault.Refused r) = write.Output

abbrev pub of_write : WriteFault → Refusal
of_write write.Memory = Memory
of_write write.Output = Output
of_write write.TooManyRows = TooManyRows

abbrev pub of_table : ℕ → TableFault → Refusal
of_table t table.Memory = Memory
of_table t table.Device = TableDevice t
of_table t (table.Refused r) = Table t r

-- 2 where what was handed in is refused, 3 where the machine failed
abbrev pub status_of : Refusal → ℕ
status_of Memory = 3
status_of (Schema r) = 2
status_of (Text r) = 2
status_of (Scope r) = 2
status_of (Statistics r) = 2
status_of (Certificate r) = 2
status_of (Check r) = 2
status_of NotLeast = 2
status_of (Table t r) = 2
status_of (TableDevice t) = 3
status_of Output = 3
status_of TooManyRows = 2
