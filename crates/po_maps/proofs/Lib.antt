-- What is asked of a map
pub mod Renames
-- One table read over two kinds of constants: the first entry that fits, and slow combination
pub mod FitFollows
pub mod CombinedFollows
