pub mod SourceEvents
pub mod MayMeet
pub mod Sharing
pub mod Charges
pub mod Ports
pub mod FewCopies
