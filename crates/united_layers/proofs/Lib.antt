mod Represented
mod Kids
mod Jointing
mod Listed
mod Gathering
mod Layered
