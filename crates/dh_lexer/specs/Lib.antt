pub mod Spellings
pub mod Pieces
pub mod LexedText
pub mod FrontPiece
pub mod KnownWords
pub mod Counted
