mod Ticks
mod Ends
