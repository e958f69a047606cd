pub mod LaterDesks
