pub mod AntijoinOfFilled
pub mod SemijoinBelowJoin
pub mod SemijoinIsJoin
