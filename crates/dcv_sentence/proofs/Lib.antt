pub mod Grammar
pub mod Depths
pub mod FaultKinds
pub mod FirstFault
pub mod Sentences
pub mod SomeFaults
