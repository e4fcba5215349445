pub mod Moments
pub mod SnapshotViews
pub mod Snapshots
