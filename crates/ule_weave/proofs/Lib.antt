pub mod Listing
pub mod DeclaredThreads
pub mod Opened
pub mod Turned
pub mod Woven
pub mod LineRows
