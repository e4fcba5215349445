pub mod BoundsLemmas
pub mod ScalingLemmas
pub mod MadeLemmas
pub mod SideBySide
pub mod Passes
pub mod ScaleLaws
