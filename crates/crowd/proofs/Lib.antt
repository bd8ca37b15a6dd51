-- The premises are met: the ciphers that are computed, then the scene.
pub mod CrowdKeys
pub mod Crowd
pub mod Labels
