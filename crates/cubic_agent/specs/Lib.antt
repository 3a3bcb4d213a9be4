-- The definitions of cubic_agent, a file each.

-- those that public contracts cite
pub mod Cubic
-- those that they are made of
pub mod Window
pub mod Curve
-- what follows from them
pub mod CubicLaws
