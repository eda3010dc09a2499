mod CarriedLemmas
mod ResultLemmas
mod TellingLemmas
