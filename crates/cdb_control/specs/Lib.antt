-- what a reader of the contracts believes: the table of the commands, journals, and the headline over them
pub mod Auto
pub mod Stops
pub mod State
pub mod Commands
pub mod Journal
pub mod Headline
-- a control of one seat
pub mod OneSeat
-- the texts of its faults, also what a reader believes
pub mod FaultTexts
-- the room that a control has, also what a reader believes
pub mod Room
-- the words of the laws, also what a reader believes
pub mod Laws
-- what the code keeps for itself: whether `auto` is refused by itself
pub mod AutoChoices
pub mod Done
pub mod Kept
