pub mod DatagramLemmas
pub mod DecisionLemmas
