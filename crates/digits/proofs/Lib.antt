pub mod Hex
pub mod Decimal
pub mod Signed
pub mod Bits
