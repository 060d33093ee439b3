mod Headers
mod Readings
