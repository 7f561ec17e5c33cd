pub mod FrontLaws
pub mod KindLaws
pub mod LongestLaws
pub mod OrderLaws
pub mod ReadingLaws
pub mod RunLaws
pub mod ShapeLaws
pub mod SpellingLaws
