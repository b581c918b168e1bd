-- Definitions that the contracts of `adapter_numbers` cite.
pub mod Asks
pub mod Numbers
