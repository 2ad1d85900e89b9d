pub mod Roots
pub mod Pieces
pub mod Qubits
