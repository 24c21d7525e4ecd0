pub mod alike
pub mod meaning
pub mod rows
pub mod runs
