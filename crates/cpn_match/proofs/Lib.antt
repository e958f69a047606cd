mod PairIndices
mod Rows
mod GrownLists
mod ForgottenValues
mod Matched
