pub mod ReferredNames
pub mod PinnedNames
pub mod CallReferences
