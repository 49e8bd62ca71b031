pub mod Cut
pub mod Table
pub mod Safe
