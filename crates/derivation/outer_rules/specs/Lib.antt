pub mod ConditionBelowLeftJoin
pub mod KeepOfLeftSide
pub mod LeftJoinAboveJoin
pub mod LeftJoinBelowJoin
pub mod OuterJoinIsAnti
pub mod OuterJoinIsInner
pub mod SelectBelowLeftJoin
