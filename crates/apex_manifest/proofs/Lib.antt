pub mod ManifestRanges
pub mod Manifests
pub mod ShortManifests
