pub mod Wcs
