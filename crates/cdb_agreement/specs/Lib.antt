-- what a reader of the contracts believes: the rules of both algorithms, histories that reach one state, the words of
-- the laws, numbers of steps and sends, the rounds of a run, and the worked runs
pub mod Algorithms
pub mod SameState
pub mod Laws
pub mod StepNumbers
pub mod Rounds
pub mod WorkedRuns
