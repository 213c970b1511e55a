pub mod Grants
pub mod Catalogues
