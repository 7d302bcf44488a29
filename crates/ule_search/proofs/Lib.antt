pub mod KeyLaws
pub mod SumLaws
pub mod PathLaws
pub mod RankLaws
pub mod BestLaws
pub mod OrderLaws
pub mod FoundLaws
pub mod Rows
