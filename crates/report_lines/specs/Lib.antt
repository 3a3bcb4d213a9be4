-- The definitions of report_lines, a file each. Public contracts cite all.
pub mod FieldsText
pub mod FlowLine
pub mod ReportLine
pub mod FaultLine
pub mod EndLine
