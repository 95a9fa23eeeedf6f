pub mod AuditLemmas
pub mod ListLemmas
pub mod QueryLemmas
pub mod QueryReport
pub mod Statuses
