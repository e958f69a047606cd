mod GrowingRings
mod WrittenRings
mod ShortRings
mod Rows
