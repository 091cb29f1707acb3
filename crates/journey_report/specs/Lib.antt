pub mod Findings
pub mod AnswerTexts
pub mod DepartureTexts
