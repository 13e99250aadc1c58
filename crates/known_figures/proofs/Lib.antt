pub mod Figures
pub mod SettledYears
