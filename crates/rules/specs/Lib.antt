pub mod Numbers
pub mod States
pub mod Settings
pub mod Measures
pub mod Rules
