pub mod DoorSends
