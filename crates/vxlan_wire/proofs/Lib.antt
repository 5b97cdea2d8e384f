pub mod VxlanLemmas
