mod LiveForests
mod Swept
mod Walks
mod Counted
mod Purity
mod Rest
mod Gone
pub mod AlikeHashes
pub mod AlikeParts
pub mod Chains
pub mod EachBlock
pub mod KeptWalk
pub mod MetSoFar
pub mod NamedOperands
pub mod Places
pub mod Replacing
pub mod Rising
pub mod Unmet
mod Partly
mod Sequences
mod Ranks
mod BlockWalks
