pub mod LineSaid
