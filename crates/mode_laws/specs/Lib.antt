-- The definitions of mode_laws, a file each; contracts of public calls cite them.
pub mod FeedLaws
pub mod RowLaws
