-- what a reader of the contracts believes: a reply as a contract sees it
pub mod ReplyView
