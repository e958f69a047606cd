pub mod NumberLists
