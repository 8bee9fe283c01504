pub mod TwoAnswers
