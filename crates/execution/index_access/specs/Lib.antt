pub mod Cuts
pub mod Probes
