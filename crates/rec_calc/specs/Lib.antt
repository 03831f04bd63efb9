pub mod Inputs
pub mod InputsLaws
pub mod Calc
pub mod CalcLaws
pub mod Calcout
pub mod CalcoutLaws
