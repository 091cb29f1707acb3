mod Common
mod GreatestLemmas
mod LinkLemmas
mod ChangeLemmas
