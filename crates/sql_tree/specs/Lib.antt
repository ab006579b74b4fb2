pub mod Options
pub mod Listings
pub mod Reports
pub mod Refusals
pub mod Printed
pub mod OnTheWay
pub mod Told
