pub mod Examples
pub mod Laws
pub mod Logs
pub mod Numbers
pub mod Replay
pub mod SmallLogs
pub mod Spelling
pub mod UnnestedExamples
