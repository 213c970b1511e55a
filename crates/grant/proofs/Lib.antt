pub mod StreamMasks
pub mod Tests
pub mod Masked
pub mod Compared
pub mod Laid
pub mod Valid
pub mod Catalogues
pub mod Later
