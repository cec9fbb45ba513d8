pub mod Extended
pub mod Forms
pub mod Numbers
pub mod Orders
pub mod Plain
