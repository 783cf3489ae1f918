pub mod ByItems
pub mod Imports
pub mod Manifests
pub mod PackageManifests
pub mod Progress
pub mod Reports
pub mod Sent
