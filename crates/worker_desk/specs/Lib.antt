-- The definitions of worker_desk, a file each. Contracts of public calls cite all of them.

-- what each kind of worker does
pub mod Logs
pub mod Serving
pub mod Attending
pub mod Equipping
pub mod Works
pub mod EveryNth
pub mod Cases
-- what follows from it, whatever the answers were
pub mod ServingLaw
pub mod EquippingLaw
pub mod LocksLaw
pub mod CasesLaw
