mod AcceptedEdits
mod ChangedTokens
mod GuardEdits
mod ShownBooks
mod StampLists
mod ToldEnds
mod ToldValues
