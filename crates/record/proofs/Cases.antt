-- Records worked out byte by byte.
pub mod Worked
