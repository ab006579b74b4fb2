pub mod Errors
pub mod Places
pub mod Read
pub mod Reading
pub mod Rules
pub mod Words
pub mod Written
