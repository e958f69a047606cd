mod Answering
mod CallStates
mod HeldClaims
mod Keeping
mod Meeting
mod Numbers
mod SeatFacts
pub mod SendableSeats
mod Sighted
mod StillHeld
mod Totals
mod WantsOfMemory
