pub mod OnAndOn
pub mod ListItems
pub mod PageSteps
pub mod PageTrace
pub mod PageAnswers
