pub mod Layouts
pub mod Marks
pub mod Qubits
pub mod Loads
pub mod Formulas
