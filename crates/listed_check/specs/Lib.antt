pub mod ListedAnswers
pub mod ListedTexts
