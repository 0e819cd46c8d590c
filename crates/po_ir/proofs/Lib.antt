-- One more operation, and what is read as one
pub mod Prefix
pub mod OpLaws
-- One more line, from its words or from its first four
pub mod StepLaws
pub mod FourWords
-- What is read is allowed, and what is written is read
pub mod Allowed
pub mod LineLaws
pub mod TextLaws
-- Printed units
pub mod Printed
pub mod PrintLaws
