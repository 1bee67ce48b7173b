pub mod Chains
pub mod Leaves
pub mod LeafLaws
pub mod LookUps
pub mod LookedUp
pub mod LeafWalk
