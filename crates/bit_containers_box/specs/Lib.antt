pub mod Box
pub mod Fill
pub mod Left
pub mod Lending
