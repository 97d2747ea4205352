pub mod InputExists
pub mod RightSelectOfNone
pub mod RightSelectsMerge
