pub mod Ports
pub mod Endpoints
pub mod Mailbox
