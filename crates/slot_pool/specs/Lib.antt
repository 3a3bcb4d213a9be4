-- The definitions of slot_pool, a file each. Public contracts cite Pool; FreeList and Region are for private contracts.
-- PoolLaws has what follows from Pool, for proofs; Without is for users that keep slots for themselves.
pub mod Pool
pub mod PoolLaws
pub mod Without
pub mod Region
pub mod FreeList
