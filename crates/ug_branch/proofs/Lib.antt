pub mod NumberLemmas
pub mod ChoiceLemmas
pub mod HalfLemmas
pub mod MiddleLemmas
