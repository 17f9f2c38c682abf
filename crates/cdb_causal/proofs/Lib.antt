-- lists: dependence, exchanges, consequences and the past
pub mod Lists
pub mod Exchanges
pub mod Orders
pub mod Reaches
pub mod Paths
pub mod Chains
pub mod PastLaws
pub mod Parted
-- links, direct causes and direct dependents
pub mod Symmetry
pub mod Counts
pub mod Walks
