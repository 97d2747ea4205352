pub mod AntijoinOfFilled
pub mod FilledConditions
pub mod JoinedSides
pub mod SemijoinBelowJoin
pub mod SemijoinIsJoin
pub mod Semijoins
