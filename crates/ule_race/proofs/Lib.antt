mod Running
mod Races
mod RaceLaws
