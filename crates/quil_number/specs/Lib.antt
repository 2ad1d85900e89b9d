pub mod Divisor
pub mod Fraction
pub mod Root
pub mod Decimal
pub mod Capped
pub mod Places
