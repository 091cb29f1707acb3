pub mod Certificates
pub mod Promises
pub mod Steps
pub mod FaultTexts
pub mod Boards
pub mod CertificateTexts
pub mod Reading
