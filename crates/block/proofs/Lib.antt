pub mod Judging
pub mod Laying
pub mod Fitting
pub mod Whole
pub mod Unique
