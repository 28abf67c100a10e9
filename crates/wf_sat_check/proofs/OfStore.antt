pub mod Lemmas
pub mod TrailLemmas
pub mod ClauseLemmas
pub mod IndexLemmas
pub mod HashLemmas
pub mod FirstsLemmas
pub mod CatalogueLemmas
