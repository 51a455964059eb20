-- Turns:
mod Turns
mod Histories
mod Still
mod TurnCases
-- everyone comes to rest:
mod Circle
mod Choosers
mod Collisions
mod Return
mod Digits
mod Codes
mod Neat
pub mod Rest
pub mod Ended
mod Rounds
-- how few jobs may be done:
mod Stuck
mod Lone
mod LoneEnd
mod Firsts
mod Fewest
mod Worst
-- how few turns are taken:
mod Sums
mod Homes
mod Potential
mod Fallen
mod Checked
mod Announced
mod Performed
mod Falls
mod Few
mod Free
