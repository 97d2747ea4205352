pub mod FormedLogs
pub mod Founding
pub mod Results
pub mod ShallowResults
pub mod SpeltShapes
