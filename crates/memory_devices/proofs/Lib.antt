mod Pieces
mod Entries
mod Maps
