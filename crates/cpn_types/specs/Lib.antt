-- what is around an inscription, and where it stands
pub mod Around
pub mod Sites
-- what an answer says
pub mod Accepted
pub mod InscriptionErrors
