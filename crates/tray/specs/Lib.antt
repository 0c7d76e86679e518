-- What the promises of `tray` cite.
pub mod Reading
