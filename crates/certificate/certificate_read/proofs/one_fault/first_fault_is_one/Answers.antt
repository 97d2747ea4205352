use Rattle.certificate_read.proofs.OneFault.{faults_are_one}
use Rattle.certificate_read.proofs.one_fault.first_fault_is_one.Goals as goal

pub returns : goal.returns
returns c = faults_are_one
