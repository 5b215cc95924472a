mod Puts
mod Takes
mod Keeping
