pub mod ComingLemmas
pub mod GoingLemmas
pub mod UnitsComingLemmas
pub mod FillingLemmas
pub mod PackingLemmas
pub mod RunsLemmas
