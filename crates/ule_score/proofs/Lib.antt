pub mod BoundsLemmas
pub mod ChangeLaws
pub mod ScoreLemmas
pub mod TimesharePriorityLemmas
pub mod Rows
