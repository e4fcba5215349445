pub mod Bounds
pub mod Roles
pub mod FirstFaults
pub mod RowNumbers
pub mod Scales
pub mod Kept
pub mod Made
