pub use Rattle.row_types.specs.BuildId
pub use Rattle.row_types.specs.Canon
pub use Rattle.row_types.specs.Absolute
pub use Rattle.hex.specs.Hex
pub use Rattle.webapi_routes.specs.Path
pub mod Asked
pub mod Written
