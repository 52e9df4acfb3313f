pub mod Vlans
