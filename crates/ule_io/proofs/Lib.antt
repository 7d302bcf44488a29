pub mod Written
mod Played
