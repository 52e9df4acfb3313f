pub mod StationFrames
pub mod ForwardedFrames
pub mod SettingsBytes
