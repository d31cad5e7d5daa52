pub mod First
pub mod Key
pub mod Label
