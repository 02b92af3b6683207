pub mod Causes
pub mod Given
pub mod Parts
pub mod ScanCauses
pub mod ProductCauses
pub mod Naming
pub mod Walk
