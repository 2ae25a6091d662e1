-- The scenes of specs/, computed.
pub mod Scenes
