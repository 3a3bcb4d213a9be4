-- The lemmas of worker_desk, a file each.
pub mod AttendingLemmas
pub mod CasesLawLemmas
pub mod CasesLemmas
pub mod EquippingLawLemmas
pub mod EquippingLemmas
pub mod EveryLemmas
pub mod LocksLawLemmas
pub mod ServingLawLemmas
pub mod ServingLemmas
