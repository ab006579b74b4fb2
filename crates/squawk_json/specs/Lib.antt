pub mod JsonStrings
