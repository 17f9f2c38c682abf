-- what a reader of the contracts believes: what a race has done, and its faults
pub mod Races
pub mod Faults
-- what the two are said by, also what a reader believes: the plan of the seats, and what one seat's thread does
pub mod Plans
pub mod Runs
-- what the code keeps for itself: the fault that is found first
pub mod LastFault
pub mod Promises
