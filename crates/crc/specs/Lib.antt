pub mod Crc
pub mod Burst
