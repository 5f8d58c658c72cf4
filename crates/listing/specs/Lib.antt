pub mod ListingInCode
