-- The definitions that contracts cite, by what they are of.
pub use Rattle.ir_checked_core.specs as Core
