-- The statements of this room.
pub mod RoundTrip
