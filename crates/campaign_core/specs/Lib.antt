-- The definitions of campaign_core, a file each.
pub mod CampaignWord
pub mod CampaignRow
pub mod BareLetters
pub mod ReportsMade
pub mod FlowRow
pub mod GivenFlows
