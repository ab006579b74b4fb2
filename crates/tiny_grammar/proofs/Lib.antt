pub mod Operand
pub mod Expression
pub mod Tail
pub mod Source
pub mod InOrder
