mod Onward
mod Each
