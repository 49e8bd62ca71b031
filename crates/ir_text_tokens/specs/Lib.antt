pub mod ByteClasses
pub mod Faults
pub mod ReaderSteps
pub mod Readings
pub mod Coverings
pub mod Places
pub mod Endings
