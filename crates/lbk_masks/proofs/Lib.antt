pub mod BitLemmas
pub mod ClassLemmas
pub mod EveryLemmas
pub mod FoundLemmas
pub mod KeptLemmas
pub mod WordLemmas
