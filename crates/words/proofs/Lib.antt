mod Pairs
mod Hex
