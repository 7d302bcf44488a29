pub mod MaskLaws
pub mod BelowLaws
pub mod BuildLaws
pub mod TreeLaws
pub mod InsideLaws
pub mod Rows
