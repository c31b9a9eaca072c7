pub mod DimSizes
