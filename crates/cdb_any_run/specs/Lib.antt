-- what a reader of the contracts believes: the run of either algorithm as a contract sees it
pub mod Any
