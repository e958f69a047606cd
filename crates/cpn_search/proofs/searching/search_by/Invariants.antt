-- The ledger is the one that was made.
use Rattle.cpn_search.proofs.searching.search_by.Given as goal

abbrev pub ghosts-search_on : goal.ghosts-search_on
ghosts-search_on a = record { name = a.blank.name; parts = a.blank.parts }
