mod Days
mod Distances
mod Orders
mod SoaParts
