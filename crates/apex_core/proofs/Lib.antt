pub mod BootTables
pub mod Performed
