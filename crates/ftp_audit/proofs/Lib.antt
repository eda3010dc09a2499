pub mod ByName
pub mod Maps
pub mod UsageLemmas
pub mod Shares
pub mod Balance
pub mod Begun
pub mod QuotaExamples
pub mod Alone
pub mod Replayed
pub mod Rules
pub mod Sized
pub mod MarkLemmas
pub mod UserLemmas
pub mod ListingLemmas
mod SumsExamples
pub mod PlusLemmas
pub mod ActionLemmas
pub mod OwnerLemmas
pub mod EntryLemmas
pub mod HeardLemmas
mod Examples
pub mod CalendarLemmas
pub mod GuestLemmas
pub mod RequestLemmas
pub mod TicketLemmas
pub mod TakenLemmas
pub mod TallyLemmas
mod LogExamples
pub mod PutLemmas
