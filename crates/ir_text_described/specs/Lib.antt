pub mod Words
pub mod Trees
pub mod Written
pub mod Described
pub mod Alike
pub mod DescribedLaws
pub mod AlikeLaws
pub mod AlikeRows
