mod FewFrames
pub mod ShapeLemmas
pub mod LeftLemmas
pub mod OpenLemmas
pub mod BegunLemmas
pub mod EventLemmas
pub mod DrivenLemmas
pub mod CalledLemmas
pub mod EndLemmas
pub mod StageLemmas
pub mod RefusedLemmas
pub mod ScriptLemmas
pub mod BeginLemmas
