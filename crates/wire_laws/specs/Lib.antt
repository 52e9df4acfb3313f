pub mod RoundTrips
pub mod Damage
